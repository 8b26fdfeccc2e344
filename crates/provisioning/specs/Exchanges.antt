-- One exchange for a record: what is sent, what comes back, and how it changes the connector.
use Rattle.std.specs.Prelude.{◌≡◌, ◌⊎◌, ℕ, List, [], ◌∷◌, map, Option, Some, None, Result, Ok, Err, OnOk, OnErr}
use Rattle.std.specs.FinMap.{keys}
use Rattle.std.specs.declared.io.Error.{Error}
use Rattle.scim_key.specs.declared.records.RecordName.{RecordName}
use Rattle.scim_message.specs.declared.messages.Answer.{Answer}
use Rattle.scim_message.specs.declared.messages.Request.{Request}
use Rattle.http_text.specs.Counts.{Reading, Writing, fresh_reading, fresh_writing}
use Rattle.scim_client.specs.Exchanges.{Sends, SpellsSent, Reads, ExchangesKnown}
use Rattle.scim_client.specs.Requests.{text_of}
use Rattle.scim_client.specs.declared.exchange.ExchangeFault.{ExchangeFault}
use Rattle.journal_core.specs.Calls.{Writes}
use Rattle.journal_core.specs.declared.journals.Journal.{Ghosts}
use Rattle.connector_core.specs.Asking.{asking}
use Rattle.connector_core.specs.Keeps.{learn_at}
use Rattle.connector_core.specs.Learning.{after_learning}
use Rattle.connector_core.specs.Maps.{GivesUnless, book_of}
use Rattle.connector_core.specs.Noting.{CountsLearn, KeepsEntries, MayStandFor, learnt_of, note_at, noted_entries}
use Rattle.connector_core.specs.State.{Leaves, LeavesBook, State}
use Rattle.connector_core.specs.declared.asking.Ask.TheVariants.{Send}
use Rattle.connector_core.specs.declared.keeps.Keeps.{Keeps}
use Rattle.connector_core.specs.declared.learning.LearnFault.{LearnFault}
use Rattle.connector_core.specs.declared.learning.Learnt.{Learnt}
use Rattle.provisioning.specs.Faults.{open_fault, unanswered, unlearnt}
use Rattle.provisioning.specs.Openings.{Opening}
use Rattle.provisioning.specs.Services.{Service, kept_for, taken_from, written_for}
use Rattle.provisioning.specs.declared.faults.RunFault.{RunFault}
use Rattle.provisioning.specs.declared.faults.RunFault.TheVariants.{Memory}
use Rattle.provisioning.specs.declared.faults.RecordFault.{RecordFault}

-- ---- what came

-- an answer, and what was learnt from it; or no answer
pub data Came : Type 0 where
  answered : (answer : Answer) (learnt : Result Learnt LearnFault) → Came
  lost : (fault : ExchangeFault) → Came

abbrev pub answer_in : Came → Result Answer ExchangeFault
answer_in (answered answer learnt) = Ok answer
answer_in (lost fault) = Err fault

-- the fault of the record, if nothing was learnt, or what ends the run
abbrev pub taught : Result Learnt LearnFault → Result (Option RecordFault) RunFault
taught (Ok learnt) = Ok None
taught (Err fault) = unlearnt fault

-- the fault of the record, if there was one, or what ends the run
abbrev pub outcome : Came → Result (Option RecordFault) RunFault
outcome (answered answer learnt) = taught learnt
outcome (lost fault) = unanswered fault

-- ---- how it changes the connector

-- What is learnt from an answer is what the connector's definition says, and nothing else changes its book and its
-- journal. A stop leaves the book before it or after it
pub record Learns {J : Type 0} (g : Ghosts J) (keeps : Keeps) (request : Request) (answer : Answer)
    (result : Result Learnt LearnFault) (old new : State J) : Type 0 where
  pub learnt : GivesUnless (MayStandFor (learn_at keeps (book_of old.book) request answer)) result
      (learnt_of (learn_at keeps (book_of old.book) request answer))
  pub ok : OnOk result (book_of new.book
      ≡ after_learning (book_of old.book) (learn_at keeps (book_of old.book) request answer))
  pub err : OnErr result (new.book ≡ old.book)
  pub names : keys new.book ≡ keys old.book
  pub journal : Writes g CountsLearn old.journal new.journal
      (noted_entries (g.entries old.journal) (note_at keeps (book_of old.book) request answer)) result
  pub quiet : KeepsEntries old.book new.book → g.writes new.journal ≡ g.writes old.journal
  pub leaves : g.is_honest new.journal → LeavesBook g old →
      Leaves g old new (after_learning (book_of old.book) (learn_at keeps (book_of old.book) request answer))
      (keys old.book)
      result

-- An answer is learnt from as it is taken from the service. Without an answer, the connector is unchanged
abbrev pub Becomes : {J : Type 0} → Ghosts J → Service → Request → Came → (old new : State J) → Type 0
Becomes g service request (answered answer learnt) old new =
    Learns g service.keeps request (taken_from service.is_versioned answer) learnt old new
Becomes g service request (lost fault) old new = new ≡ old

-- ---- on its stream

-- The text of the request as it is written for the service, which spells it, was written to the writer. The result is
-- what the bytes of the reader, from the first on, answer to what the service keeps of the request
pub record IsAsked {I O : Type 0} (remaining : I → Option (List ℕ)) (contents : O → Option (List ℕ)) (service : Service)
    (request : Request) (reader : I) (writer : O) (came : Result Answer ExchangeFault) : Type 0 where
  pub left : Reading
  pub written : Writing
  pub sent : Sends (text_of service.base (written_for service request)) (fresh_writing (contents writer)) written
      came
  pub spelled : SpellsSent service.base (written_for service request) (fresh_writing (contents writer)) written
  pub read : Reads (kept_for service.keeps request) (fresh_reading (remaining reader)) left came
  pub known : ExchangesKnown (kept_for service.keeps request) (remaining reader) left.remaining came

pub record Exchange (I O : Type 0) : Type 0 where
  pub request : Request
  pub reader : I
  pub writer : O
  pub came : Came

-- its stream
abbrev pub opening_of : {I O : Type 0} → Exchange I O → Opening I O
opening_of e = Ok (e.reader, e.writer)

-- the streams of exchanges: one for each, in the order of the exchanges
abbrev pub openings_of : {I O : Type 0} → List (Exchange I O) → List (Opening I O)
openings_of es = map opening_of es

-- One exchange for a record, on its own stream: the connector's request is sent, and it learns from the answer
pub record IsExchange {I O J : Type 0} (remaining : I → Option (List ℕ))
    (contents : O → Option (List ℕ)) (g : Ghosts J) (service : Service) (name : RecordName)
    (e : Exchange I O) (old new : State J) : Type 0 where
  pub asked : asking (book_of old.book) name ≡ Some (Send e.request)
  pub sent : IsAsked remaining contents service e.request e.reader e.writer (answer_in e.came)
  pub becomes : Becomes g service e.request e.came old new

-- nothing was sent: the only opening failed, with this error; or memory ran out before any
abbrev pub IsUnmade : {I O : Type 0} → (opened : List (Opening I O)) → RunFault → Type 0
IsUnmade opened fault = ((error : Error) × (opened ≡ Err error ∷ []) × (fault ≡ open_fault error))
    ⊎ ((opened ≡ []) × (fault ≡ Memory))

-- this is what the connector learns from an answer
pub record IsTaught {J : Type 0} (g : Ghosts J) (keeps : Keeps) (request : Request) (answer : Answer)
    (old new : State J) (result : Result (Option RecordFault) RunFault) : Type 0 where
  pub learnt : Result Learnt LearnFault
  pub learns : Learns g keeps request answer learnt old new
  pub result_is : result ≡ taught learnt

-- this is what came, and the connector learns from it
pub record IsTaken {J : Type 0} (g : Ghosts J) (service : Service) (request : Request)
    (answer : Result Answer ExchangeFault) (old new : State J)
    (result : Result (Option RecordFault) RunFault) : Type 0 where
  pub came : Came
  pub answer_is : answer_in came ≡ answer
  pub becomes : Becomes g service request came old new
  pub result_is : result ≡ outcome came
