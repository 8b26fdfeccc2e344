-- The words for records in printed lines.
use Rattle.std.specs.Prelude.{ℕ, List, codes}
use Rattle.scim_key.specs.declared.records.Kind.{Kind}
use Rattle.scim_key.specs.declared.records.Kind.TheVariants.{User, Group}

abbrev pub kind_word : Kind → List ℕ
kind_word User = codes "user"
kind_word Group = codes "group"
