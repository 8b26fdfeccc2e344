-- The book as a map in memory, which code can hold.
use Rattle.std.specs.Prelude.{◌≡◌, ◌⊎◌, Option, Some, None, Result, Ok, Err}
use Rattle.std.specs.BTreeSet.{insert_key}
use Rattle.std.specs.FinMap.{FinMap, get, insert, keys}
use Rattle.scim_key.specs.Records.{name_cmp}
use Rattle.scim_key.specs.declared.records.RecordName.{RecordName}
use Rattle.connector_core.specs.Book.{Book, put}
use Rattle.connector_core.specs.declared.knowledge.Known.{Known}

abbrev pub BookMap : Type 0
BookMap = FinMap name_cmp Known

-- the book of a map
abbrev pub book_of : BookMap → Book
book_of map name = get map name

abbrev pub changed_at : (Known → Known) → BookMap → RecordName → Option Known → BookMap
changed_at change map name None = map
changed_at change map name (Some known) = insert map name (change known)

-- the map after what is known about this record changed, if the record is there
abbrev pub changed : (Known → Known) → BookMap → RecordName → BookMap
changed change map name = changed_at change map name (get map name)

-- putting into the map is putting into the book, and the names stay in order
pub record MapsAreBooks (map : BookMap) (name : RecordName) (known : Known) : Type 0 where
  pub book : book_of (insert map name known) ≡ put (book_of map) name known
  pub names : keys (insert map name known) ≡ insert_key name_cmp (keys map) name

-- the result is the answer of the definition, or another fault, which says nothing about the answer
abbrev pub GivesUnless : {X F : Type 0} → (other : F → Type 0) → Result X F → Result X F → Type 0
GivesUnless other (Ok x) answer = answer ≡ Ok x
GivesUnless other (Err e) answer = other e ⊎ (answer ≡ Err e)
