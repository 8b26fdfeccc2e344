-- A record while several are under way: how it is begun, how it goes on, and how it ends.
use Rattle.std.specs.Prelude.{◌≡◌, ◌⊎◌, ◌<◌, ◌≤◌, ◌+◌, ◌==◌, ◌&&◌, ◌||◌, ℕ, Bool, true, false, not, nat_lt}
use Rattle.std.specs.Prelude.{List, [], ◌∷◌, Option, Some, None, Result, Ok, Err}
use Rattle.std.specs.Option.{option_or}
use Rattle.scim_key.specs.declared.records.RecordName.{RecordName}
use Rattle.scim_message.specs.declared.messages.Answer.{Answer}
use Rattle.scim_message.specs.declared.messages.Request.{Request}
use Rattle.http_text.specs.Counts.{Reading, Writing, fresh_reading, fresh_writing}
use Rattle.scim_client.specs.Exchanges.{SpellsSent, Starts, IsReply, Reads, ExchangesKnown}
use Rattle.scim_client.specs.Requests.{text_of}
use Rattle.scim_client.specs.declared.exchange.ExchangeFault.{ExchangeFault}
use Rattle.journal_core.specs.declared.journals.Journal.{Ghosts}
use Rattle.connector_core.specs.Asking.{asking, is_done_at}
use Rattle.connector_core.specs.Book.{Book}
use Rattle.connector_core.specs.Maps.{book_of}
use Rattle.connector_core.specs.State.{State}
use Rattle.connector_core.specs.declared.asking.Ask.TheVariants.{Send}
use Rattle.provisioning.specs.Exchanges.{Becomes, Came, IsUnmade, answer_in, outcome}
use Rattle.provisioning.specs.Faults.{open_fault}
use Rattle.provisioning.specs.Openings.{Opening}
use Rattle.provisioning.specs.Records.{Rests, most_exchanges}
use Rattle.provisioning.specs.Services.{Service, is_held_back, kept_for, written_for}
use Rattle.provisioning.specs.declared.faults.RecordFault.{RecordFault}
use Rattle.provisioning.specs.declared.faults.RecordFault.TheVariants as faults
use Rattle.provisioning.specs.declared.faults.RunFault.{RunFault}
use Rattle.provisioning.specs.declared.records.Standing.{Standing}
use Rattle.provisioning.specs.declared.records.Standing.TheVariants.{Unconfirmed}
use Rattle.provisioning.specs.declared.tracks.Account.{Account}
use Rattle.provisioning.specs.declared.tracks.Flight.{Flight}
use Rattle.provisioning.specs.declared.tracks.Track.{Track}
use Rattle.provisioning.specs.declared.tracks.Track.TheVariants.{UnderWay, Delayed, Done}

-- ---- a record and its exchanges so far

-- nothing was sent for it
abbrev pub fresh : RecordName → Account
fresh name = record { name = name; exchanges = 0; last = None; has_waited = false }

-- one exchange more was begun
abbrev pub counted : Account → Account
counted a = record { name = a.name; exchanges = a.exchanges + 1; last = a.last; has_waited = a.has_waited }

-- an exchange had this fault, or none
abbrev pub faulted : Option RecordFault → Account → Account
faulted fault a =
    record { name = a.name; exchanges = a.exchanges; last = option_or fault a.last; has_waited = a.has_waited }

-- its next exchange waits, as the provider asked
abbrev pub put_off : Account → Account
put_off a = record { name = a.name; exchanges = a.exchanges; last = a.last; has_waited = true }

-- the provider has too many requests, or isn't available
abbrev pub is_busy : RecordFault → Bool
is_busy (faults.Refused status) = (status == 429) || (status == 503)
is_busy (faults.Unanswered fault) = false
is_busy faults.Unfit = false
is_busy faults.Unversioned = false
is_busy faults.NoSuchRecord = false

abbrev pub says_busy : Option RecordFault → Bool
says_busy (Some fault) = is_busy fault
says_busy None = false

-- after such an answer the next exchange may wait: once a record, and only if one is left
abbrev pub may_wait : Option RecordFault → Account → Bool
may_wait fault a = says_busy fault && (not a.has_waited && nat_lt a.exchanges most_exchanges)

-- all exchanges were made, or the record is held back
abbrev pub IsAtEnd : Service → Account → Type 0
IsAtEnd service a = (most_exchanges ≤ a.exchanges) ⊎ (is_held_back service.is_versioned a.last ≡ true)

-- nothing more is sent, and the wanted revision isn't confirmed, or is doubted
pub record IsSpentAt (service : Service) (book : Book) (a : Account) (standing : Standing) : Type 0 where
  pub at_end : IsAtEnd service a
  pub unconfirmed : is_done_at book a.name ≡ false
  pub last_is : standing ≡ Unconfirmed a.last

-- there is nothing to ask for, or nothing more is sent
abbrev pub StandsAt : Service → Book → Account → Standing → Type 0
StandsAt service book a standing = Rests book a.name standing ⊎ IsSpentAt service book a standing

-- ---- a request is sent

-- The text of the request as it is written for the service, which spells it, was written to the writer of this stream,
-- as far as the flight says
pub record IsSetOut {I O : Type 0}
    (contents : O → Option (List ℕ)) (service : Service) (request : Request) (stream : I × O)
    (f : Flight I O) : Type 0 where
  pub written : Writing
  pub request_is : f.request ≡ request
  pub reader_is : f.reader ≡ stream.0
  pub starts : Starts (text_of service.base (written_for service request)) (fresh_writing (contents stream.1))
      written f.sent
  pub spelled : SpellsSent service.base (written_for service request) (fresh_writing (contents stream.1)) written

-- A record with exchanges left, which isn't held back: what the connector asks for as this book stands was sent on a
-- new stream
pub record SetsOut {I O : Type 0}
    (contents : O → Option (List ℕ)) (service : Service) (a : Account) (opened : List (Opening I O))
    (book : Book) (later : Account)
    (f : Flight I O) : Type 0 where
  pub stream : I × O
  pub left : a.exchanges < most_exchanges
  pub free : is_held_back service.is_versioned a.last ≡ false
  pub asked : asking book a.name ≡ Some (Send f.request)
  pub opened_are : opened ≡ Ok stream ∷ []
  pub set_out : IsSetOut contents service f.request stream f
  pub later_is : later ≡ counted a

-- the request was sent on the stream that was opened; or the opening's error is the fault
abbrev pub ComesOfOpening : {I O : Type 0} → (O → Option (List ℕ)) → Service → Account → Request → Opening I O
    → Result (Track I O) RunFault → Type 0
ComesOfOpening {I} {O} contents service a request (Ok stream) result = (f : Flight I O)
    × IsSetOut contents service request stream f × (result ≡ Ok (UnderWay (counted a) f))
ComesOfOpening contents service a request (Err error) result = result ≡ Err (open_fault error)

-- a request is under way, or the record is done and nothing was opened; it isn't put off
abbrev pub Begins : {I O : Type 0} → (O → Option (List ℕ)) → Service → Account → (opened : List (Opening I O))
    → Book → Track I O → Type 0
Begins contents service a opened book (UnderWay later f) = SetsOut contents service a opened book later f
Begins contents service a opened book (Delayed later) = ⊥
Begins contents service a opened book (Done later standing) = (opened ≡ []) × (later ≡ a)
    × StandsAt service book a standing

-- so; or exchanges are left, but the stream wasn't opened, or memory ran out before
abbrev pub GoesOn : {I O : Type 0} → (O → Option (List ℕ)) → Service → Account → (opened : List (Opening I O))
    → Book → Result (Track I O) RunFault → Type 0
GoesOn contents service a opened book (Ok track) = Begins contents service a opened book track
GoesOn contents service a opened book (Err fault) = (a.exchanges < most_exchanges) × IsUnmade opened fault

-- ---- its answer is read

-- What comes on a reader from its start is the result, if the request was sent whole; else the sending's fault is
pub record IsReadFrom {I : Type 0}
    (remaining : I → Option (List ℕ)) (request : Request) (reader : I)
    (came : Result Answer ExchangeFault) : Type 0 where
  pub left : Reading
  pub reply : IsReply came
  pub read : Reads request (fresh_reading (remaining reader)) left came
  pub known : ExchangesKnown request (remaining reader) left.remaining came

abbrev pub IsHeard : {I : Type 0} → (I → Option (List ℕ)) → Request → I → (sent : Result (Unit {0}) ExchangeFault)
    → (came : Result Answer ExchangeFault) → Type 0
IsHeard remaining request reader (Ok sent) came = IsReadFrom remaining request reader came
IsHeard remaining request reader (Err fault) came = came ≡ Err fault

-- The connector learns from what comes on the stream of the request. This is read as the answer to what the service
-- keeps of the request
pub record IsLearnt {I O J : Type 0}
    (remaining : I → Option (List ℕ)) (g : Ghosts J) (service : Service) (f : Flight I O) (old new : State J)
    (result : Result (Option RecordFault) RunFault) : Type 0 where
  pub came : Came
  pub heard : IsHeard remaining (kept_for service.keeps f.request) f.reader f.sent (answer_in came)
  pub becomes : Becomes g service f.request came old new
  pub result_is : result ≡ outcome came

-- ---- a record that was begun

module _ {I O J : Type 0} (remaining : I → Option (List ℕ))
    (contents : O → Option (List ℕ)) (g : Ghosts J) (service : Service) where
  -- its answer is learnt from, and then it goes on
  pub record Continues (a : Account) (f : Flight I O) (opened : List (Opening I O)) (old new : State J)
      (result : Result (Track I O) RunFault) : Type 0 where
    pub fault : Option RecordFault
    pub learnt : IsLearnt remaining g service f old new (Ok fault)
    pub goes_on : GoesOn contents service (faulted fault a) opened (book_of new.book) result

  -- its answer, by which the provider is busy, is learnt from; then it waits
  pub record Delays (a : Account) (f : Flight I O) (opened : List (Opening I O)) (old new : State J)
      (result : Result (Track I O) RunFault) : Type 0 where
    pub fault : Option RecordFault
    pub learnt : IsLearnt remaining g service f old new (Ok fault)
    pub may : may_wait fault a ≡ true
    pub opened_none : opened ≡ []
    pub result_is : result ≡ Ok (Delayed (put_off (faulted fault a)))

  -- learning ended the run
  abbrev pub EndsLearning : (f : Flight I O) → (opened : List (Opening I O)) → (old new : State J)
      → (result : Result (Track I O) RunFault) → Type 0
  EndsLearning f opened old new result = (end : RunFault) × IsLearnt remaining g service f old new (Err end)
      × (opened ≡ []) × (result ≡ Err end)

  -- nothing happens
  abbrev pub Stays : Track I O → (opened : List (Opening I O)) → (old new : State J)
      → Result (Track I O) RunFault → Type 0
  Stays track opened old new result = (opened ≡ []) × (new ≡ old) × (result ≡ Ok track)

  -- one step of a record; a delayed one goes on, and one that is done stays
  abbrev pub Advances : Track I O → (opened : List (Opening I O)) → (old new : State J)
      → Result (Track I O) RunFault → Type 0
  Advances (UnderWay a f) opened old new result = Continues a f opened old new result
      ⊎ (Delays a f opened old new result ⊎ EndsLearning f opened old new result)
  Advances (Delayed a) opened old new result = (new ≡ old) × GoesOn contents service a opened (book_of new.book) result
  Advances (Done a standing) opened old new result = Stays (Done a standing) opened old new result

  -- one step of a record, or none yet
  abbrev pub Steps : Track I O → (opened : List (Opening I O)) → (old new : State J)
      → Result (Track I O) RunFault → Type 0
  Steps track opened old new result = Advances track opened old new result ⊎ Stays track opened old new result

  -- The same, if it may stay only so many times: a step takes none of them, and to stay takes one
  abbrev pub StepsWithin : (turns : ℕ) → Track I O → (opened : List (Opening I O)) → (old new : State J)
      → Result (Track I O × ℕ) RunFault → Type 0
  StepsWithin turns track opened old new (Ok step) = (Advances track opened old new (Ok step.0) × (step.1 ≡ turns))
      ⊎ (Stays track opened old new (Ok step.0) × (step.1 < turns))
  StepsWithin turns track opened old new (Err fault) = Advances track opened old new (Err fault)

-- the last of a record: its answer, if one is under way, is learnt from
abbrev pub Closes : {I O J : Type 0} → (I → Option (List ℕ)) → Ghosts J → Service → Track I O → (old new : State J)
    → Result (Unit {0}) RunFault → Type 0
Closes remaining g service (UnderWay a f) old new (Ok done) = (fault : Option RecordFault)
    × IsLearnt remaining g service f old new (Ok fault)
Closes remaining g service (UnderWay a f) old new (Err fault) = IsLearnt remaining g service f old new (Err fault)
Closes remaining g service (Delayed a) old new result = (new ≡ old) × (result ≡ Ok tt)
Closes remaining g service (Done a standing) old new result = (new ≡ old) × (result ≡ Ok tt)
