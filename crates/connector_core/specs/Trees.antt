-- The book as two trees by key, one of users and one of groups.
use Rattle.std.specs.Prelude.{ℕ, List, ◌++◌, map}
use Rattle.std.specs.BTreeMap.{BTreeMap}
use Rattle.std.specs.Cmp.Lexicographic.{slice_cmp}
use Rattle.std.specs.FinMap.{from_entries}
use Rattle.std.specs.Ordering.{nat_cmp}
use Rattle.std.specs.declared.cmp.Ordering.{Ordering}
use Rattle.scim_key.specs.declared.records.Kind.{Kind}
use Rattle.scim_key.specs.declared.records.Kind.TheVariants.{User, Group}
use Rattle.scim_key.specs.declared.records.RecordName.{RecordName}
use Rattle.connector_core.specs.Maps.{BookMap}
use Rattle.connector_core.specs.declared.knowledge.Known.{Known}

abbrev pub Tree : Type 0
Tree = BTreeMap (List ℕ) Known

-- the order of keys
abbrev pub key_cmp : List ℕ → List ℕ → Ordering
key_cmp = slice_cmp nat_cmp

abbrev pub of : Kind → List ℕ → RecordName
of kind key = record { kind = kind; key = key }

-- the entries of a tree under the names of their records
abbrev pub named_in : Kind → List (List ℕ × Known) → List (RecordName × Known)
named_in kind es = map (λ e. (of kind e.0, e.1)) es

-- the book of both trees
abbrev pub book_in : Tree → Tree → BookMap
book_in users groups = from_entries (named_in User users.entries ++ named_in Group groups.entries)
