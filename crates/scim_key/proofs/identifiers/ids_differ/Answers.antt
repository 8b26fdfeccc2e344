use Rattle.scim_key.proofs.IdLemmas as lemmas
use Rattle.scim_key.proofs.identifiers.ids_differ.Goals as goal

pub returns : goal.returns
returns c = lemmas.ids_differ
