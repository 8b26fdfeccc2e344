-- When the running world is a world of the model.
use Rattle.std.specs.Prelude.{◌≡◌, ◌⊎◌, ◌↔◌, ℕ, suc, Bool, true, false, List, [], ◌∷◌, ◌++◌, length, map, Option, Some, None, Result, Ok, Err}
use Rattle.std.specs.FinMap.{keys}
use Rattle.std.specs.FinMap as fin
use Rattle.std.specs.List.{AllByRecursion}
use Rattle.scim_key.specs.Bases.{IsBase}
use Rattle.scim_key.specs.Stores.{HasRisen}
use Rattle.scim_key.specs.declared.records.RecordName.{RecordName}
use Rattle.scim_message.specs.declared.messages.Request.{Request}
use Rattle.scim_resource.specs.Rows.{StoredRecord}
use Rattle.provider_core.specs.Stories.{IsTable}
use Rattle.provider_core.specs.declared.registry.Registry.{Ghosts as Registries}
use Rattle.journal_core.specs.declared.journals.Journal.{Ghosts as Journals}
use Rattle.journal_core.specs.Entries.{EntryMap}
use Rattle.connector_core.specs.Book.{Book, reopened}
use Rattle.connector_core.specs.Maps.{BookMap, book_of}
use Rattle.connector_core.specs.State.{AreOf}
use Rattle.world_model.specs.World.{World, Message, Asked, Answered, Event, Changes, Sends, Delivers, Cuts, Restarts_provider, Restarts_connector, Doubts, message_at, names as world_names, arrives, happens, empty, run}
use Rattle.world_model.specs.Reports.{report, reports, arrival_report, sending_report}
use Rattle.world_model.specs.Safe.{Has, Headline, Onward, Safe, rows as world_rows}
use Rattle.world_model.specs.Untroubled.{IsLawful}
use Rattle.world_model.specs.Invariant.{Names, all_names}
use Rattle.world_model.specs.Others.{Act, KeepsApart, OfOurs, run_among}
use Rattle.world_model.specs.Room.{IsLawfulAct}
use Rattle.world_sim.specs.Fitting.{IsFitStart, IsFormed}
use Rattle.world_sim.specs.Messages.{IsMessage, message_text, message_size, messages_of, texts_of}
use Rattle.world_sim.specs.Events.{report_of}
use Rattle.world_sim.specs.Transitions.{FailsAfter}
use Rattle.world_sim.specs.declared.messages.Sent.{Sent}
use Rattle.world_sim.specs.declared.reports.Report.{Report as ReportOf}
use Rattle.world_sim.specs.declared.reports.WorldFault.{WorldFault}
use Rattle.world_sim.specs.declared.reports.WorldFault.TheVariants.{Memory, Store}
use Rattle.world_sim.specs.declared.sides.Side.{Side}
use Rattle.world_sim.specs.declared.sides.Side.TheVariants.{Open, Shut}
use Rattle.world_sim.specs.declared.worlds.World.{World as Running}

-- ---- the connector's side

abbrev pub journal_in : {J : Type 0} → Side J → J
journal_in (Open connector) = connector.journal
journal_in (Shut journal) = journal

abbrev pub is_open : {J : Type 0} → Side J → Bool
is_open (Open connector) = true
is_open (Shut journal) = false

-- the connector has this book, with these names; if there is only a journal, nothing was seen of any record
abbrev pub HasBook : {J : Type 0} → Side J → Book → List RecordName → Type 0
HasBook (Open connector) book names = (book_of connector.book ≡ book) × (keys connector.book ≡ names)
HasBook (Shut journal) book names = reopened book ≡ book

-- the names of the side's records
abbrev pub names_in : {J : Type 0} → Journals J → Side J → List RecordName
names_in h (Open connector) = keys connector.book
names_in h (Shut journal) = keys (h.entries journal)

-- ---- what runs

-- whether the provider and the connector are open, after the last attempt to open each of them
abbrev pub opens_of : {R J : Type 0} → Running R J → Bool × Bool
opens_of r = (r.is_provider_open, is_open r.connector)

-- the same after an event: a side is open after a restart that succeeded, and shut after one that failed
abbrev pub opens_after : Event → (done : Bool) → Bool × Bool → Bool × Bool
opens_after (Changes row) done opens = opens
opens_after (Sends name) done opens = opens
opens_after (Delivers number) done opens = opens
opens_after (Cuts number length) done opens = opens
opens_after Restarts_provider done opens = (done, opens.1)
opens_after Restarts_connector done opens = (opens.0, done)
opens_after (Doubts name) done opens = opens

-- after a restart of a side its store is open
abbrev pub IsOpenedBy : {R J : Type 0} → Registries R → Journals J → Running R J → Event → Type 0
IsOpenedBy g h r (Changes row) = Unit {0}
IsOpenedBy g h r (Sends name) = Unit {0}
IsOpenedBy g h r (Delivers number) = Unit {0}
IsOpenedBy g h r (Cuts number length) = Unit {0}
IsOpenedBy g h r Restarts_provider = g.is_honest r.provider → g.is_faithful r.provider
IsOpenedBy g h r Restarts_connector = h.is_honest (journal_in r.connector) → h.is_faithful (journal_in r.connector)
IsOpenedBy g h r (Doubts name) = Unit {0}

-- Both stores returned what was committed
pub record IsSound {R J : Type 0} (g : Registries R) (h : Journals J) (r : Running R J) : Type 0 where
  pub registry : g.is_honest r.provider
  pub journal : h.is_honest (journal_in r.connector)

-- Valid events lead to the world
pub record IsReached (w : World) : Type 0 where
  pub events : List Event
  pub lawful : AllByRecursion IsLawful events
  pub is : run empty events ≡ w

-- Whose records are ours, and the start: what the provider held and the connector knew before the first act
pub record Scope : Type 0 where
  pub ours : Names
  pub start : World

-- the empty start
abbrev pub from_empty : Names → Scope
from_empty ours = record { ours = ours; start = empty }

-- Acts lead from the start to the world: our valid events, and requests of others who leave our records alone
pub record IsReachedAmong (scope : Scope) (w : World) : Type 0 where
  pub begins : IsFitStart scope.ours scope.start
  pub acts : List Act
  pub apart : KeepsApart scope.ours acts
  pub lawful : AllByRecursion IsLawfulAct acts
  pub is : run_among scope.start acts ≡ w

-- The running world has the parts of this world: its rows, also if the registry is opened again; its book, also if the
-- journal is opened again, but for what was seen; and its messages, each with the bytes that are formed for it
pub record Mirrors {R J : Type 0} (g : Registries R) (h : Journals J) (r : Running R J) (w : World) : Type 0 where
  pub rows : g.is_faithful r.provider → g.rows r.provider ≡ world_rows w
  pub found : (found : List StoredRecord) → g.may_hold r.provider found → found ≡ world_rows w
  pub table : IsTable w.entries
  pub book : HasBook r.connector w.book (world_names w)
  pub kept : (found : EntryMap) → h.may_hold (journal_in r.connector) found → AreOf found w.book (world_names w)
  pub messages : messages_of r.sent.items ≡ w.messages
  pub texts : texts_of r.sent.items ≡ map (message_text r.service) w.messages
  pub formed : (message : Message) → Has w.messages message → IsFormed r.service message

-- The running world is this world, at a valid base, and our events alone led to it
pub record Is {R J : Type 0} (g : Registries R) (h : Journals J) (r : Running R J) (w : World) : Type 0 where
  pub mirrors : Mirrors g h r w
  pub base : IsBase r.service
  pub reached : IsReached w

-- The running world is this world among others, from this start, at a valid base
pub record IsAmong {R J : Type 0} (g : Registries R) (h : Journals J) (scope : Scope) (r : Running R J) (w : World)
    : Type 0 where
  pub mirrors : Mirrors g h r w
  pub base : IsBase r.service
  pub reached : IsReachedAmong scope w

-- Without others: each record is ours, and then it is the same whether others may act or not
abbrev pub IsAlone : {R J : Type 0} → Registries R → Journals J → Type 0
IsAlone {R} {J} g h = (r : Running R J) (w : World) → Is g h r w ↔ IsAmong g h (from_empty all_names) r w

-- ---- what an event does

-- What was done, with its report. If the stores are sound after it, they were sound before, an open store stays open,
-- and `after` holds for each world that ran before
pub record Makes {R J S T : Type 0} (g : Registries R) (h : Journals J) (old new : Running R J)
    (after : Scope → World → Type 0) (says : World → S) (meaning : T → S) (told : T) : Type 0 where
  pub was : IsSound g h new → IsSound g h old
  pub base : new.service ≡ old.service
  pub stays_open : IsSound g h new → g.is_faithful old.provider → g.is_faithful new.provider
  pub journal_open : IsSound g h new → h.is_faithful (journal_in old.connector)
      → h.is_faithful (journal_in new.connector)
  pub is : IsSound g h new → {scope : Scope} (w : World) → IsAmong g h scope old w → after scope w
  pub report : IsSound g h new → {scope : Scope} (w : World) → IsAmong g h scope old w → meaning told ≡ says w

-- One event: for each world that ran before it, the world after the event runs now. A row that is offered is one of our
-- records
abbrev pub Happens : {R J : Type 0} → Registries R → Journals J → (old new : Running R J) → Event → ReportOf → Type 0
Happens g h old new event told =
    Makes g h old new (λ scope w. OfOurs scope.ours event → IsAmong g h scope new (happens w event))
    (λ w. report (message_size old.service) w event) report_of told

-- a request was sent: it is the last message, in its bytes, and nothing else changed
pub record Posts {R J : Type 0} (old new : Running R J) (request : Request) (told : ReportOf) : Type 0 where
  pub message : Sent
  pub is : IsMessage old.service message (Asked request)
  pub formed : IsFormed old.service (Asked request)
  pub provider : new.provider ≡ old.provider
  pub connector : new.connector ≡ old.connector
  pub base : new.service ≡ old.service
  pub sent : new.sent.items ≡ old.sent.items ++ message ∷ []
  pub report : report_of told ≡ sending_report (suc (length old.sent.items)) request

-- a message arrives: the running world has the parts of the world after that
abbrev pub Arrives : {R J : Type 0} → Registries R → Journals J → (old new : Running R J) → Message → ReportOf → Type 0
Arrives g h old new message told =
    Makes g h old new (λ scope w. Mirrors g h new (arrives w message)) (λ w. arrival_report w message) report_of
    told

-- ---- faults

-- the side that a message goes to is shut
abbrev pub IsShutTo : {R J : Type 0} → Running R J → Option Message → Type 0
IsShutTo r None = ⊥
IsShutTo r (Some (Asked request)) = r.is_provider_open ≡ false
IsShutTo r (Some (Answered request answer)) = is_open r.connector ≡ false

-- nothing changed
pub record Stays {R J : Type 0} (old new : Running R J) : Type 0 where
  pub provider : new.provider ≡ old.provider
  pub provider_open : new.is_provider_open ≡ old.is_provider_open
  pub connector : new.connector ≡ old.connector
  pub base : new.service ≡ old.service
  pub sent : new.sent.items ≡ old.sent.items

-- an event needs a side that is shut because the last attempt to open it failed
abbrev pub IsShutOff : {R J : Type 0} → Running R J → Event → Type 0
IsShutOff r (Changes row) = is_open r.connector ≡ false
IsShutOff r (Sends name) = is_open r.connector ≡ false
IsShutOff r (Delivers number) = IsShutTo r (message_at (messages_of r.sent.items) number)
IsShutOff r (Cuts number length) = ⊥
IsShutOff r Restarts_provider = ⊥
IsShutOff r Restarts_connector = ⊥
IsShutOff r (Doubts name) = is_open r.connector ≡ false

-- out of memory isn't a fault of a store; a fault of a store was counted, or a side that is needed was shut before
abbrev pub IsExcused : {R J : Type 0} → Registries R → Journals J → (old new : Running R J) → Event
    → WorldFault → Type 0
IsExcused g h old new event Memory = (g.faults new.provider ≡ g.faults old.provider)
    × (h.faults (journal_in new.connector) ≡ h.faults (journal_in old.connector))
IsExcused g h old new event Store = IsShutOff old event
    ⊎ (HasRisen (g.faults old.provider) (g.faults new.provider)
    ⊎ HasRisen (h.faults (journal_in old.connector)) (h.faults (journal_in new.connector)))

-- a connector that couldn't be opened again has forgotten what it saw; no other event that fails changes anything
abbrev pub if_restart : World → Event → World
if_restart w (Changes row) = w
if_restart w (Sends name) = w
if_restart w (Delivers number) = w
if_restart w (Cuts number length) = w
if_restart w Restarts_provider = w
if_restart w Restarts_connector = happens w Restarts_connector
if_restart w (Doubts name) = w

-- the store of the side that a message goes to is open
abbrev pub IsOpenTo : {R J : Type 0} → Registries R → Journals J → Running R J → Option Message → Type 0
IsOpenTo g h r None = Unit {0}
IsOpenTo g h r (Some (Asked request)) = g.is_faithful r.provider
IsOpenTo g h r (Some (Answered request answer)) = h.is_faithful (journal_in r.connector)

-- if a fault has shut the store, it is unknown whether the change of the failed event was made
abbrev pub IsKnown : {R J : Type 0} → Registries R → Journals J → (old new : Running R J) → Event → Type 0
IsKnown g h old new (Changes row) = h.is_faithful (journal_in new.connector)
IsKnown g h old new (Sends name) = Unit {0}
IsKnown g h old new (Delivers number) = IsOpenTo g h new (message_at (messages_of old.sent.items) number)
IsKnown g h old new (Cuts number length) = Unit {0}
IsKnown g h old new Restarts_provider = Unit {0}
IsKnown g h old new Restarts_connector = Unit {0}
IsKnown g h old new (Doubts name) = Unit {0}

-- what may be found if a store is opened again is what one of these worlds has
pub record HoldsOneOf {R J : Type 0} (g : Registries R) (h : Journals J) (r : Running R J) (w v : World) : Type 0 where
  pub rows : (found : List StoredRecord) → g.may_hold r.provider found → (found ≡ world_rows w) ⊎ (found ≡ world_rows v)
  pub entries : (found : EntryMap) → h.may_hold (journal_in r.connector) found
      → AreOf found w.book (world_names w) ⊎ AreOf found v.book (world_names v)

-- An event failed: no message was sent, and each world that ran before it runs now, if its fault shut no store. Whether
-- it did or not, each store holds what it held before the event, or what the event would have made of it
pub record Fails {R J : Type 0} (g : Registries R) (h : Journals J) (old new : Running R J)
    (event : Event) (fault : WorldFault) : Type 0 where
  pub was : IsSound g h new → IsSound g h old
  pub base : new.service ≡ old.service
  pub sent : new.sent.items ≡ old.sent.items
  pub is : IsSound g h new → IsKnown g h old new event → {scope : Scope} (w : World) → IsAmong g h scope old w
      → IsAmong g h scope new (if_restart w event)
  pub leaves : IsSound g h new → {scope : Scope} (w : World) → IsAmong g h scope old w
      → HoldsOneOf g h new w (happens w event)
  pub excused : IsExcused g h old new event fault

-- a message didn't arrive, whatever its number
pub record FailsToArrive {R J : Type 0} (g : Registries R) (h : Journals J) (old new : Running R J)
    (message : Message) (fault : WorldFault) : Type 0 where
  pub was : IsSound g h new → IsSound g h old
  pub base : new.service ≡ old.service
  pub sent : new.sent.items ≡ old.sent.items
  pub is : IsSound g h new → IsOpenTo g h new (Some message) → {scope : Scope} (w : World) → IsAmong g h scope old w
      → IsAmong g h scope new w
  pub leaves : IsSound g h new → {scope : Scope} (w : World) → IsAmong g h scope old w
      → HoldsOneOf g h new w (arrives w message)
  pub excused : (number : ℕ) → IsExcused g h old new (Delivers number) fault

-- what the connector knows, including what it has seen, while its side is open
abbrev pub known_in : {J : Type 0} → Side J → Option BookMap
known_in (Open connector) = Some connector.book
known_in (Shut journal) = None

-- the message is a request
abbrev pub IsRequest : Option Message → Type 0
IsRequest None = ⊥
IsRequest (Some (Asked request)) = Unit {0}
IsRequest (Some (Answered request answer)) = ⊥

-- an event reads the registry: a request arrives, or the provider restarts
abbrev pub ReadsRegistry : {R J : Type 0} → Running R J → Event → Type 0
ReadsRegistry r (Changes row) = ⊥
ReadsRegistry r (Sends name) = ⊥
ReadsRegistry r (Delivers number) = IsRequest (message_at (messages_of r.sent.items) number)
ReadsRegistry r (Cuts number length) = ⊥
ReadsRegistry r Restarts_provider = Unit {0}
ReadsRegistry r Restarts_connector = ⊥
ReadsRegistry r (Doubts name) = ⊥

-- an event reads the journal: the connector restarts. All else goes by what the connector knows
abbrev pub ReadsJournal : Event → Type 0
ReadsJournal (Changes row) = ⊥
ReadsJournal (Sends name) = ⊥
ReadsJournal (Delivers number) = ⊥
ReadsJournal (Cuts number length) = ⊥
ReadsJournal Restarts_provider = ⊥
ReadsJournal Restarts_connector = Unit {0}
ReadsJournal (Doubts name) = ⊥

-- What an event that failed keeps, even if its fault shut a store: the connector knows and has seen what it had, unless
-- the event was its restart
abbrev pub Keeps : {R J : Type 0} → (old new : Running R J) → Event → Type 0
Keeps old new event = (ReadsJournal event → ⊥) → known_in new.connector ≡ known_in old.connector

-- Whatever the result of an event, the side that it doesn't need is unchanged: the connector, what it knows and its
-- journal, if the event reads the registry, and otherwise the provider
pub record Apart {R J : Type 0} (old new : Running R J) (event : Event) : Type 0 where
  pub connector : ReadsRegistry old event → new.connector ≡ old.connector
  pub provider : (ReadsRegistry old event → ⊥) → new.provider ≡ old.provider

-- ---- runs

-- the journal after a start, whatever the result
abbrev pub journal_after : {R J : Type 0} → Result (Running R J) (WorldFault × R × J) → J
journal_after (Ok world) = journal_in world.connector
journal_after (Err refused) = refused.2

-- a world that starts: over empty stores it is the empty world
pub record Starts {R J : Type 0} (g : Registries R) (h : Journals J) (registry : R) (journal : J)
    (r : Running R J) : Type 0 where
  pub was : IsSound g h r → g.is_honest registry × h.is_faithful journal
  pub stays_open : g.is_faithful registry → g.is_faithful r.provider
  pub journal_open : IsSound g h r → h.is_faithful (journal_in r.connector)
  pub is : IsSound g h r → g.is_faithful registry → g.rows registry ≡ [] → h.entries journal ≡ fin.empty
      → (ours : Names) → IsAmong g h (from_empty ours) r empty

-- events one after the other, with their reports. Each row that is offered is one of our records
pub record Runs {R J : Type 0} (g : Registries R) (h : Journals J) (old new : Running R J)
    (events : List Event) (told : List ReportOf) : Type 0 where
  pub was : IsSound g h new → IsSound g h old
  pub base : new.service ≡ old.service
  pub stays_open : IsSound g h new → g.is_faithful old.provider → g.is_faithful new.provider
  pub journal_open : IsSound g h new → h.is_faithful (journal_in old.connector)
      → h.is_faithful (journal_in new.connector)
  pub is : IsSound g h new → {scope : Scope} (w : World) → IsAmong g h scope old w
      → AllByRecursion (OfOurs scope.ours) events → IsAmong g h scope new (run w events)
  pub told_so : IsSound g h new → {scope : Scope} (w : World) → IsAmong g h scope old w
      → AllByRecursion (OfOurs scope.ours) events
      → map report_of told ≡ reports (message_size old.service) w events

-- an event failed, with all that is known of that
pub record FailsOurs {R J : Type 0} (g : Registries R) (h : Journals J) (old new : Running R J) (event : Event)
    (fault : WorldFault) : Type 0 where
  pub fails : Fails g h old new event fault
  pub keeps : Keeps old new event
  pub apart : Apart old new event

-- a world starts over these stores, with connector and provider open
pub record StartsAt {R J : Type 0} (g : Registries R) (h : Journals J) (registry : R) (journal : J) (base : List ℕ)
    (first : Running R J) : Type 0 where
  pub base_is : first.service ≡ base
  pub opens : opens_of first ≡ (true, true)
  pub starts : Starts g h registry journal first

-- events up to one that fails, from a world that starts
abbrev pub FailsAt : {R J : Type 0} → Registries R → Journals J → R → J → (base : List ℕ) → List Event → WorldFault
    → Type 0
FailsAt {R} {J} g h registry journal base events fault =
    (first : Running R J) × StartsAt g h registry journal base first
    × FailsAfter (Runs g h) (FailsOurs g h) first events fault

-- Why a run failed: a fault of the journal's store was counted at the start, or an event failed, or memory ran out
abbrev pub EndsRun : {R J : Type 0} → Registries R → Journals J → R → J → (base : List ℕ) → List Event
    → WorldFault → Type 0
EndsRun {R} {J} g h registry journal base events fault =
    (fault ≡ Memory) ⊎ (((left : J) × HasRisen (h.faults journal) (h.faults left))
    ⊎ FailsAt g h registry journal base events fault)

-- What ran is the model's run of the events: its rows, its book, its messages with their bytes, and its reports. After
-- each event it was safe, and from each moment to each later one nothing was lost and the headline held
pub record IsRun {R J : Type 0} (g : Registries R) (h : Journals J) (at : List ℕ) (events : List Event)
    (ran : Running R J) (told : List ReportOf) : Type 0 where
  pub base : ran.service ≡ at
  pub opened : g.is_faithful ran.provider
  pub journal_open : h.is_faithful (journal_in ran.connector)
  pub is : Is g h ran (run empty events)
  pub told_so : map report_of told ≡ reports (message_size at) empty events
  pub safe : (early late : List Event) → early ++ late ≡ events → Safe (run empty early)
  pub onward : (early middle late : List Event) → (early ++ middle) ++ late ≡ events
      → Onward (run empty early) (run empty (early ++ middle))
  pub headline : (early middle late : List Event) → (early ++ middle) ++ late ≡ events
      → Headline (run empty early) (run empty (early ++ middle))

-- the same over empty stores, if the provider's is open and both are sound in the end
abbrev pub RunsFromEmpty : {R J : Type 0} → Registries R → Journals J → R → J → (base : List ℕ)
    → List Event → (ran : Running R J) → List ReportOf → Type 0
RunsFromEmpty g h registry journal base events ran told =
    g.is_faithful registry → g.rows registry ≡ [] → h.entries journal ≡ fin.empty → IsSound g h ran
    → IsRun g h base events ran told
