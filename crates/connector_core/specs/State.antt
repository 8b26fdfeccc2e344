-- The connector: its journal and its book.
use Rattle.std.specs.Prelude.{◌≡◌, ◌⊎◌, ◌≤◌, ℕ, false, List, Some, Result, Ok, Err, OnErr, OnOk, map}
use Rattle.std.specs.FinMap.{from_entries, get, keys}
use Rattle.std.specs.Option.{option_map}
use Rattle.scim_key.specs.declared.records.RecordName.{RecordName}
use Rattle.source_csv.specs.Records.{row_name}
use Rattle.journal_core.specs.Entries.{EntryMap, IsUpTo}
use Rattle.journal_core.specs.Stores.{HasRisen}
use Rattle.journal_core.specs.declared.entries.Entry.{Entry}
use Rattle.journal_core.specs.declared.journals.Journal.{Ghosts as Journals}
use Rattle.scim_key.specs.declared.stores.StoreFault.{StoreFault}
use Rattle.scim_key.specs.declared.stores.StoreFault.TheVariants as store
use Rattle.connector_core.specs.Book.{Book}
use Rattle.connector_core.specs.Maps.{BookMap, book_of}
use Rattle.connector_core.specs.declared.knowledge.Known.{Known}
use Rattle.connector_core.specs.declared.knowledge.Seen.TheVariants.{Unknown}
use Rattle.connector_core.specs.declared.opening.ConnectorOpenFault.{ConnectorOpenFault}
use Rattle.connector_core.specs.declared.opening.ConnectorOpenFault.TheVariants as opening

pub record State (J : Type 0) : Type 0 where
  pub journal : J
  pub book : BookMap

-- ---- what the journal keeps of the book

-- everything except what was seen, and whether it is doubted
abbrev pub entry_of : Known → Entry
entry_of known = record { row = known.wanted; confirmed = known.confirmed; id = known.id }

-- the journal has an entry for each record of the book, and for no other; what is confirmed may be confirmed
pub record IsKept (kept : EntryMap) (book : BookMap) : Type 0 where
  pub same : (name : RecordName) → get kept name ≡ option_map entry_of (get book name)
  pub names : keys kept ≡ keys book
  pub within : (name : RecordName) (known : Known) → get book name ≡ Some known → IsUpTo known.wanted known.confirmed

-- ---- what a stop leaves of the book

-- the entries are those of the book with these names: of each record its row, its confirmed revision and its id
pub record AreOf (found : EntryMap) (book : Book) (names : List RecordName) : Type 0 where
  pub same : (name : RecordName) → get found name ≡ option_map entry_of (book name)
  pub listed : keys found ≡ names

-- a stop at this moment leaves the entries of the book
abbrev pub LeavesBook : {J : Type 0} → Journals J → State J → Type 0
LeavesBook h s = (found : EntryMap) → h.may_hold s.journal found → AreOf found (book_of s.book) (keys s.book)

-- a stop leaves the entries of one of these books
abbrev pub LeavesOneOf : {J : Type 0} → Journals J → J → (book later : Book) → (names more : List RecordName) → Type 0
LeavesOneOf h journal book later names more = (found : EntryMap) → h.may_hold journal found
    → AreOf found book names ⊎ AreOf found later more

-- What a stop leaves after a call that changes the book to `later`, if it left the entries of the book before. After a
-- success it leaves those of the book; after a fault those of the book, or of `later`
pub record Leaves {J T F : Type 0} (h : Journals J) (old new : State J) (later : Book)
    (names : List RecordName) (result : Result T F) : Type 0 where
  pub done : OnOk result (LeavesBook h new)
  pub failed : OnErr result (LeavesOneOf h new.journal (book_of old.book) later (keys old.book) names)

-- ---- opening

-- what is known about an entry's record when the connector is opened: nothing was seen, and nothing is doubted
abbrev pub opened : Entry → Known
opened entry = record {
  wanted = entry.row;
  confirmed = entry.confirmed;
  id = entry.id;
  seen = Unknown;
  is_doubted = false;
}

abbrev pub opened_named : Entry → RecordName × Known
opened_named entry = (row_name entry.row, opened entry)

-- the book of a list of entries; if a name is repeated, the earlier entry counts
abbrev pub opened_book : List Entry → BookMap
opened_book list = from_entries (map opened_named list)

-- the book has the entries of the journal, and nothing was seen of any record
pub record IsOpened (kept : EntryMap) (book : BookMap) : Type 0 where
  pub entries : (name : RecordName) → get book name ≡ option_map opened (get kept name)
  pub names : keys book ≡ keys kept

-- the journal after opening, whatever the result
abbrev pub journal_after : {J : Type 0} → Result (State J) (ConnectorOpenFault × J) → J
journal_after (Ok connector) = connector.journal
journal_after (Err fault) = fault.1

-- ---- faults

-- the connector's fault for a fault of its journal
abbrev pub open_fault : StoreFault → ConnectorOpenFault
open_fault store.Store = opening.Store
open_fault store.Memory = opening.Memory

-- a store fault is counted; out of memory isn't
abbrev pub CountsOpen : (old new : ℕ) → ConnectorOpenFault → Type 0
CountsOpen old new opening.Store = (old ≤ new) × HasRisen old new
CountsOpen old new opening.Memory = new ≡ old

-- the same for a fault that comes with the journal
abbrev pub CountsOpenFault : {J : Type 0} → (old new : ℕ) → ConnectorOpenFault × J → Type 0
CountsOpenFault old new fault = CountsOpen old new fault.0
