use Rattle.scim_resource.proofs.AlikeLemmas.{alike_read, renamed_alike}
use Rattle.scim_resource.proofs.laws.alike_values_are_read_the_same.Goals as goal

pub returns : goal.returns
returns c = record { same = alike_read; renamed = renamed_alike }
