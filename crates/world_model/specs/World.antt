-- The world: the source, the provider, the connector, and every message that was ever sent.
-- Any of the messages may come at any time, in any order, once, often or never.
use Rattle.std.specs.Prelude.{ℕ, zero, suc, List, [], ◌∷◌, ◌++◌, Option, Some, None, Result}
use Rattle.std.specs.List.{slice_get}
use Rattle.scim_key.specs.declared.records.RecordName.{RecordName}
use Rattle.scim_message.specs.declared.messages.Request.{Request}
use Rattle.scim_message.specs.declared.messages.Answer.{Answer}
use Rattle.provider_core.specs.Stories.{Entry, Step, step}
use Rattle.source_csv.specs.declared.rows.Row.{Row}
use Rattle.connector_core.specs.History.{History}
use Rattle.connector_core.specs.declared.accepting.Verdict.{Verdict}
use Rattle.connector_core.specs.Book.{Book, empty_book, doubted, reopened}
use Rattle.connector_core.specs.Asking.{asking}
use Rattle.connector_core.specs.declared.asking.Ask.{Ask}
use Rattle.connector_core.specs.declared.asking.Ask.TheVariants.{Nothing, Waits, Send}
use Rattle.connector_core.specs.Learning.{learn, after_learning}
use Rattle.connector_core.specs.Changing.{names_of, judging, history_after, book_after}
use Rattle.connector_core.specs.declared.changing.ChangeFault.{ChangeFault}

-- a request that was sent, or a reply: the request with its answer
pub data Message : Type 0 where
  Asked : (request : Request) → Message
  Answered : (request : Request) → (answer : Answer) → Message

pub record World : Type 0 where
  pub history : History  -- the source: every accepted row, in the order in which they came
  pub entries : List Entry  -- the provider: each resource with its whole story
  pub book : Book  -- the connector
  pub messages : List Message  -- every message that was ever sent, in order; numbered from 1

pub data Event : Type 0 where
  Changes : (row : Row) → Event  -- the source offers a row
  Sends : (name : RecordName) → Event  -- the connector sends what it asks for next of a record
  Delivers : (number : ℕ) → Event  -- a message arrives
  Cuts : (number : ℕ) → (length : ℕ) → Event  -- only the first bytes of a message arrive
  Restarts_provider : Event
  Restarts_connector : Event
  Doubts : (name : RecordName) → Event  -- the connector doubts a record: somebody else may have changed it

abbrev pub empty : World
empty = record { history = []; entries = []; book = empty_book; messages = [] }

-- ---- the source

-- the names of the records of the source, in their order
abbrev pub names : World → List RecordName
names w = names_of w.history

-- what the connector says about a row
abbrev pub judged : World → Row → Result Verdict ChangeFault
judged w row = judging w.book (names w) row

abbrev pub changes : World → Row → Result Verdict ChangeFault → World
changes w row verdict = record w { history = history_after w.history row verdict; book = book_after w.book row verdict }

-- ---- messages

abbrev pub with_message : World → Message → World
with_message w message = record w { messages = w.messages ++ message ∷ [] }

-- the connector's request is sent, if there is one
abbrev pub sends : World → Option Ask → World
sends w None = w
sends w (Some Nothing) = w
sends w (Some (Waits member)) = w
sends w (Some (Send request)) = with_message w (Asked request)

-- the provider has the table after the request, and its reply is sent
abbrev pub replies : World → Request → Step → World
replies w request after =
    record w { entries = after.entries; messages = w.messages ++ Answered request after.answer ∷ [] }

-- a request comes to the provider, a reply to the connector
abbrev pub arrives : World → Message → World
arrives w (Asked request) = replies w request (step w.entries request)
arrives w (Answered request answer) = record w { book = after_learning w.book (learn w.book request answer) }

abbrev pub delivers : World → Option Message → World
delivers w None = w
delivers w (Some message) = arrives w message

-- the message with this number, if there is one
abbrev pub message_at : List Message → (number : ℕ) → Option Message
message_at messages zero = None
message_at messages (suc place) = slice_get messages place

-- ---- events

-- One event
abbrev pub happens : World → Event → World
happens w (Changes row) = changes w row (judged w row)
happens w (Sends name) = sends w (asking w.book name)
happens w (Delivers number) = delivers w (message_at w.messages number)
happens w (Cuts number length) = w
happens w Restarts_provider = w
happens w Restarts_connector = record w { book = reopened w.book }
happens w (Doubts name) = record w { book = doubted w.book name }

-- One event after the other
abbrev pub run : World → List Event → World
run w [] = w
run w (event ∷ events) = run (happens w event) events
