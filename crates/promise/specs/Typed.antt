-- Traces whose messages are requests and answers: any interleaving of what the source, the connector and the provider
-- do.
use Rattle.std.specs.Prelude.{◌≡◌, ◌≢◌, List, [], ◌∷◌, ◌++◌, Some}
use Rattle.std.specs.FinMap.{keys}
use Rattle.std.specs.FinMap as fin
use Rattle.std.specs.List.{AllByRecursion}
use Rattle.scim_key.specs.declared.records.RecordName.{RecordName}
use Rattle.scim_resource.specs.Rows.{StoredRecord}
use Rattle.scim_message.specs.Refusals.{ErrorRecord}
use Rattle.scim_message.specs.declared.messages.Answer.{Answer}
use Rattle.scim_message.specs.declared.messages.Answer.TheVariants.{Error}
use Rattle.scim_message.specs.declared.messages.Request.{Request}
use Rattle.provider_core.specs.Outcomes.{outcome, changed_rows}
use Rattle.provider_core.specs.Stories.{IsTable}
use Rattle.source_csv.specs.Records.{IsRow}
use Rattle.source_csv.specs.declared.rows.Row.{Row}
use Rattle.journal_core.specs.Entries.{EntryMap}
use Rattle.connector_core.specs.Asking.{asking}
use Rattle.connector_core.specs.Book.{doubted}
use Rattle.connector_core.specs.Changing.{history_after, judged, taking}
use Rattle.connector_core.specs.History.{History}
use Rattle.connector_core.specs.Learning.{after_learning, learn}
use Rattle.connector_core.specs.Maps.{BookMap, book_of}
use Rattle.connector_core.specs.State.{AreOf, IsOpened}
use Rattle.connector_core.specs.declared.asking.Ask.TheVariants.{Send}
use Rattle.world_model.specs.World.{World, Asked, Answered, Event, empty, names as world_names, run}
use Rattle.world_model.specs.Safe.{Has, Headline, rows as world_rows}
use Rattle.world_model.specs.Untroubled.{IsLawful}

-- a request, and an answer to it
abbrev pub Reply : Type 0
Reply = Request × Answer

pub record State : Type 0 where
  pub rows : List StoredRecord  -- what the provider holds
  pub history : History  -- the accepted rows of the source, which no program keeps
  pub book : BookMap  -- what the connector knows
  pub sent : List Request  -- every request that was ever sent
  pub replies : List Reply  -- every answer that was ever given

abbrev pub start : State
start = record { rows = []; history = []; book = fin.empty; sent = []; replies = [] }

-- an answer that says neither that a name is taken nor that a version is another
pub record IsOtherError (error : ErrorRecord) : Type 0 where
  pub taken : error.status ≢ 409
  pub stale : error.status ≢ 412

-- One step
pub data Step (old : State) : State → Type 0 where
  -- the source offers a row
  offers : (row : Row) → IsRow row
      → Step old
      (record old { history = history_after old.history row (judged old.book row); book = taking old.book row })
  -- the connector sends what it asks for next
  asks : (name : RecordName) (request : Request) → asking (book_of old.book) name ≡ Some (Send request)
      → Step old (record old { sent = old.sent ++ request ∷ [] })
  -- the provider answers a request that was ever sent
  answers : (request : Request) → Has old.sent request
      → Step old (record old {
        rows = changed_rows old.rows (outcome old.rows request).change;
        replies = old.replies ++ (request, (outcome old.rows request).answer) ∷ [];
      })
  -- the connector learns from an answer that was ever given
  learns : (request : Request) (answer : Answer) (book : BookMap) → Has old.replies (request, answer)
      → book_of book ≡ after_learning (book_of old.book) (learn (book_of old.book) request answer)
      → keys book ≡ keys old.book → Step old (record old { book = book })
  -- the connector learns from another error
  refused : (request : Request) (error : ErrorRecord) (book : BookMap) → IsOtherError error
      → book_of book ≡ after_learning (book_of old.book) (learn (book_of old.book) request (Error error))
      → keys book ≡ keys old.book → Step old (record old { book = book })
  -- the connector doubts a record
  doubts : (name : RecordName) (book : BookMap) → book_of book ≡ doubted (book_of old.book) name
      → keys book ≡ keys old.book → Step old (record old { book = book })
  -- the connector is opened again, from the entries that its journal has of its book
  reopens : (found : EntryMap) (book : BookMap) → AreOf found (book_of old.book) (keys old.book)
      → IsOpened found book → Step old (record old { book = book })
  -- it learnt from an answer, but a fault shut the journal, which is opened again with what was learnt
  relearns : (request : Request) (answer : Answer) (found : EntryMap) (book : BookMap)
      → Has old.replies (request, answer)
      → AreOf found (after_learning (book_of old.book) (learn (book_of old.book) request answer)) (keys old.book)
      → IsOpened found book → Step old (record old { book = book })
  -- nothing changes: something came cut off, or the provider was opened again
  rests : Step old old

-- Steps one after another
pub data Trace (old : State) : State → Type 0 where
  here : Trace old old
  next : {mid new : State} → Trace old mid → Step mid new → Trace old new

-- the state has the parts of this world; its messages are among those of the world
pub record Mirrors (s : State) (w : World) : Type 0 where
  pub rows : s.rows ≡ world_rows w
  pub table : IsTable w.entries
  pub history : s.history ≡ w.history
  pub book : book_of s.book ≡ w.book
  pub names : keys s.book ≡ world_names w
  pub sent : (request : Request) → Has s.sent request → Has w.messages (Asked request)
  pub replies : (reply : Reply) → Has s.replies reply → Has w.messages (Answered reply.0 reply.1)

-- Two moments of a trace are two moments of a run
pub record AreRuns (s t : State) : Type 0 where
  pub early : List Event
  pub late : List Event
  pub lawful : AllByRecursion IsLawful (early ++ late)
  pub before : Mirrors s (run empty early)
  pub after : Mirrors t (run empty (early ++ late))
  pub headline : Headline (run empty early) (run empty (early ++ late))

abbrev pub TypedTracesAreRuns : Type 0
TypedTracesAreRuns = (s t : State) → Trace start s → Trace s t → AreRuns s t
