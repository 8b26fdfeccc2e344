-- Several connectors that run over one provider, each with its journal, its book and its messages.
use Rattle.std.specs.Prelude.{◌≡◌, ◌≢◌, ◌<◌, ◌+◌, ◌-◌, ◌^◌, ℕ, zero, suc, List, [], ◌∷◌, ◌++◌, Some}
use Rattle.std.specs.Prelude.{map, length, min, slice_set}
use Rattle.std.specs.FinMap as fin
use Rattle.std.specs.List.{AllByRecursion, slice_get}
use Rattle.provider_core.specs.declared.registry.Registry.{Ghosts as Registries}
use Rattle.journal_core.specs.declared.journals.Journal.{Ghosts as Journals}
use Rattle.world_model.specs.Invariant.{Names}
use Rattle.world_model.specs.Others.{HeadlineAmong, OfOurs, SafeAmong}
use Rattle.world_model.specs.Reports.{Report, report}
use Rattle.world_model.specs.Safe.{Onward}
use Rattle.world_model.specs.Room.{HasRoom}
use Rattle.world_model.specs.Several.{Shared, nobody, world_at, with_world, Turn, On, happens_at, run_several}
use Rattle.world_model.specs.Several.{side_after}
use Rattle.world_model.specs.Several.{NoneShared, EachItsOwn}
use Rattle.world_model.specs.World.{World, Message, Event}
use Rattle.world_sim.specs.Events.{event_of, report_of}
use Rattle.world_sim.specs.Messages.{message_size}
use Rattle.world_sim.specs.Running.{FailsOurs, Happens, IsAmong, IsSound, Starts, from_empty, journal_in}
use Rattle.world_sim.specs.Settling.{IsSettling, Settles, Stops}
use Rattle.world_sim.specs.Sides.{CountsWorldFault}
use Rattle.world_sim.specs.declared.reports.WorldFault.{WorldFault}
use Rattle.world_sim.specs.declared.settling.Count.{Count}
use Rattle.world_sim.specs.declared.several.Seat.{Seat}
use Rattle.world_sim.specs.declared.several.SharedWorld.{SharedWorld}
use Rattle.world_sim.specs.declared.several.Turn.{Turn as TurnOf}
use Rattle.world_sim.specs.declared.several.TurnReport.{TurnReport}
use Rattle.world_sim.specs.declared.worlds.World.{World as Running}

-- ---- the sides

-- the side that is in a world
abbrev pub seat_of : {R J : Type 0} → Running R J → Seat J
seat_of r = record { connector = r.connector; sent = r.sent }

-- the world with another side in it
abbrev pub seated : {R J : Type 0} → Running R J → Seat J → Running R J
seated r seat = record r { connector = seat.connector; sent = seat.sent }

-- the sides by their places, which are counted from 0
abbrev pub seats_of : {R J : Type 0} → SharedWorld R J → List (Seat J)
seats_of r = seat_of r.first ∷ r.others.items

-- the side at this place
abbrev pub IsSeatAt : {R J : Type 0} → SharedWorld R J → (place : ℕ) → Seat J → Type 0
IsSeatAt r place seat = slice_get (seats_of r) place ≡ Some seat

-- the sides behind the first one, with this side at this place, if it isn't the first
abbrev pub others_with : {J : Type 0} → (place : ℕ) → Seat J → List (Seat J) → List (Seat J)
others_with zero seat others = others
others_with (suc place) seat others = slice_set others place seat

-- ---- what runs

-- the provider's store and every journal returned what was committed
abbrev pub AreSound : {R J : Type 0} → Registries R → Journals J → SharedWorld R J → Type 0
AreSound {R} {J} g h r = (place : ℕ) (seat : Seat J) → IsSeatAt r place seat → IsSound g h (seated r.first seat)

-- every journal is open
abbrev pub AreOpen : {R J : Type 0} → Journals J → SharedWorld R J → Type 0
AreOpen {R} {J} h r = (place : ℕ) (seat : Seat J) → IsSeatAt r place seat → h.is_faithful (journal_in seat.connector)

-- Each running side is its world of what they share in the model, among others who leave its records alone; and no two
-- sides have a record in common
pub record AreAmong {R J : Type 0} (g : Registries R) (h : Journals J) (ours : ℕ → Names) (r : SharedWorld R J)
    (s : Shared) : Type 0 where
  pub none_shared : NoneShared ours
  pub each : (place : ℕ) (seat : Seat J) → IsSeatAt r place seat
      → IsAmong g h (from_empty (ours place)) (seated r.first seat) (world_at s place)

-- ---- one turn

-- the model's turn
abbrev pub turn_of : TurnOf → Turn
turn_of turn = On turn.place (event_of turn.event)

abbrev pub turns_of : List TurnOf → List Turn
turns_of turns = map turn_of turns

-- the turn is of one of so many connectors
abbrev pub IsBelow : (count : ℕ) → TurnOf → Type 0
IsBelow count turn = turn.place < count

-- a connector's number, which is counted from 1, and a report
abbrev pub turn_report_of : TurnReport → ℕ × Report
turn_report_of said = (said.connector, report_of said.report)

-- The side at this place did this, over the provider that all share, and all other sides are unchanged
pub record IsDoneAt {R J : Type 0} (old new : SharedWorld R J) (place : ℕ) (deed : (was is : Running R J) → Type 0)
    : Type 0 where
  pub before : Seat J
  pub after : Seat J
  pub was_there : IsSeatAt old place before
  pub is_there : IsSeatAt new place after
  pub does : deed (seated old.first before) (seated new.first after)
  pub others : (other : ℕ) → place ≢ other → slice_get (seats_of new) other ≡ slice_get (seats_of old) other
  pub count : length (seats_of new) ≡ length (seats_of old)

-- what a turn keeps, whatever it does: stores that are sound after it were sound before, and open stores stay open
pub record GoesOnSharing {R J : Type 0} (g : Registries R) (h : Journals J) (old new : SharedWorld R J) : Type 0 where
  pub was : AreSound g h new → AreSound g h old
  pub base : new.first.service ≡ old.first.service
  pub stays_open : AreSound g h new → g.is_faithful old.first.provider → g.is_faithful new.first.provider
  pub journals_open : AreSound g h new → AreOpen h old → AreOpen h new

-- One turn: an event happened on the side at this place, and on no other. Whatever they shared before, they share now
-- what the turn makes of it, if the source of that side offers rows of its own records alone; and the report is the
-- model's, with the connector's number
pub record HappensAt {R J : Type 0} (g : Registries R) (h : Journals J) (old new : SharedWorld R J) (place : ℕ)
    (event : Event) (told : TurnReport) : Type 0 where
  pub done : IsDoneAt old new place (λ was is. Happens g h was is event told.report)
  pub on : GoesOnSharing g h old new
  pub is : AreSound g h new → {ours : ℕ → Names} (s : Shared) → AreAmong g h ours old s → OfOurs (ours place) event
      → AreAmong g h ours new (happens_at s (On place event))
  pub number : told.connector ≡ place + 1
  pub says : AreSound g h new → {ours : ℕ → Names} (s : Shared) → AreAmong g h ours old s
      → report_of told.report ≡ report (message_size old.first.service) (world_at s place) event

-- an event failed on the side at this place, as it fails in the world of that side, and all other sides are unchanged
abbrev pub FailsAtPlace : {R J : Type 0} → Registries R → Journals J → (old new : SharedWorld R J) → (place : ℕ)
    → Event → WorldFault → Type 0
FailsAtPlace g h old new place event fault = IsDoneAt old new place (λ was is. FailsOurs g h was is event fault)

-- ---- turns one after the other

-- the reports of turns, each with the number of its connector; `size` is the number of bytes of a message
abbrev pub turn_reports : (size : Message → ℕ) → Shared → List TurnOf → List (ℕ × Report)
turn_reports size s [] = []
turn_reports size s (turn ∷ turns) =
    (turn.place + 1, report size (world_at s turn.place) (event_of turn.event))
    ∷ turn_reports size (happens_at s (turn_of turn)) turns

-- turns one after the other, with their reports
pub record RunsSeveral {R J : Type 0} (g : Registries R) (h : Journals J) (old new : SharedWorld R J)
    (turns : List TurnOf) (said : List TurnReport) : Type 0 where
  pub on : GoesOnSharing g h old new
  pub count : length (seats_of new) ≡ length (seats_of old)
  pub numbers : map (λ (t : TurnReport). t.connector) said ≡ map (λ (turn : TurnOf). turn.place + 1) turns
  pub is : AreSound g h new → {ours : ℕ → Names} (s : Shared) → AreAmong g h ours old s
      → EachItsOwn ours (turns_of turns) → AreAmong g h ours new (run_several s (turns_of turns))
  pub told_so : AreSound g h new → {ours : ℕ → Names} (s : Shared) → AreAmong g h ours old s
      → EachItsOwn ours (turns_of turns)
      → map turn_report_of said ≡ turn_reports (message_size old.first.service) s turns

-- ---- the start

-- a journal has no entries
abbrev pub IsNew : {J : Type 0} → Journals J → J → Type 0
IsNew h journal = h.entries journal ≡ fin.empty

-- Connectors that start, one over each journal: over empty stores, each side is the empty world
pub record StartsSeveral {R J : Type 0} (g : Registries R) (h : Journals J) (registry : R) (journals : List J)
    (base : List ℕ) (r : SharedWorld R J) : Type 0 where
  pub base_is : r.first.service ≡ base
  pub stays_open : g.is_faithful registry → g.is_faithful r.first.provider
  pub journals_open : AreSound g h r → AreOpen h r
  pub count : length (seats_of r) ≡ length journals
  pub is : AreSound g h r → g.is_faithful registry → g.rows registry ≡ [] → AllByRecursion (IsNew h) journals
      → (ours : ℕ → Names) → NoneShared ours → AreAmong g h ours r nobody

-- one connector more, over this journal, after the others
pub record Adds {R J : Type 0} (g : Registries R) (h : Journals J) (old new : SharedWorld R J) (journal : J)
    : Type 0 where
  pub seat : Seat J
  pub first : new.first ≡ old.first
  pub added : new.others.items ≡ old.others.items ++ seat ∷ []
  pub starts : Starts g h old.first.provider journal (seated old.first seat)

-- A connector didn't start over one of these journals: a fault of the journal's store was counted, or memory ran out
pub record FailsToStart {J : Type 0} (h : Journals J) (journals : List J) (fault : WorldFault) : Type 0 where
  pub place : ℕ
  pub journal : J
  pub is_there : slice_get journals place ≡ Some journal
  pub left : J
  pub counted : CountsWorldFault (h.faults journal) (h.faults left) fault

-- ---- whole runs

-- What ran is the model's run of the turns, with its reports. After each turn it was safe for each connector's records,
-- and from each moment to each later one nothing was lost and the headline held for the records of each
pub record IsRunSeveral {R J : Type 0} (g : Registries R) (h : Journals J) (ours : ℕ → Names) (at : List ℕ)
    (turns : List TurnOf) (ran : SharedWorld R J) (said : List TurnReport) : Type 0 where
  pub base : ran.first.service ≡ at
  pub opened : g.is_faithful ran.first.provider
  pub journals_open : AreOpen h ran
  pub is : AreAmong g h ours ran (run_several nobody (turns_of turns))
  pub told_so : map turn_report_of said ≡ turn_reports (message_size at) nobody turns
  pub safe : (early late : List TurnOf) → early ++ late ≡ turns → (place : ℕ)
      → SafeAmong (ours place) (side_after (turns_of early) place)
  pub onward : (early middle late : List TurnOf) → (early ++ middle) ++ late ≡ turns → (place : ℕ)
      → Onward (side_after (turns_of early) place) (side_after (turns_of (early ++ middle)) place)
  pub headline : (early middle late : List TurnOf) → (early ++ middle) ++ late ≡ turns → (place : ℕ)
      → HeadlineAmong (ours place) (side_after (turns_of early) place) (side_after (turns_of (early ++ middle)) place)

-- the same over empty stores, if the provider's is open and all are sound in the end, whichever records are whose, if
-- no two connectors have a record in common and each source offers rows of its own records alone
abbrev pub RunsSeveralFromEmpty : {R J : Type 0} → Registries R → Journals J → R → List J → (base : List ℕ)
    → List TurnOf → (ran : SharedWorld R J) → List TurnReport → Type 0
RunsSeveralFromEmpty g h registry journals base turns ran said =
    g.is_faithful registry → g.rows registry ≡ [] → AllByRecursion (IsNew h) journals → AreSound g h ran
    → (ours : ℕ → Names) → NoneShared ours → EachItsOwn ours (turns_of turns)
    → IsRunSeveral g h ours base turns ran said

-- ---- runs to convergence

-- The records of the side at this place were settled, as `settle` does it in the world of that side, and all other
-- sides are unchanged. Whatever they shared before, they share now what exchanges for that side's records make of it,
-- and if the provider has room for these records, this was a run to convergence with this number of exchanges
pub record SettlesAt {R J : Type 0} (g : Registries R) (h : Journals J) (old new : SharedWorld R J) (place : ℕ)
    (count : Count) : Type 0 where
  pub done : IsDoneAt old new place (λ was is. Settles g h was is count)
  pub on : GoesOnSharing g h old new
  pub is : AreSound g h new → {ours : ℕ → Names} (s : Shared) → AreAmong g h ours old s
      → (v : World) × (HasRoom (world_at s place) → IsSettling (world_at s place) count.exchanges v)
      × AreAmong g h ours new (with_world s place v)

-- some exchanges were made for that side's records, and the next event failed
abbrev pub StopsAt : {R J : Type 0} → Registries R → Journals J → (old new : SharedWorld R J) → (place : ℕ)
    → WorldFault → Type 0
StopsAt g h old new place fault = IsDoneAt old new place (λ was is. Stops g h was is fault)

-- Runs to convergence of the sides before this place, in their order and by so many exchanges in all, lead from what is
-- shared in s to what is shared in t: each is one if the provider has room for the records of that side
abbrev pub AreSettling : Shared → (place : ℕ) → (exchanges : ℕ) → Shared → Type 0
AreSettling s zero exchanges t = (t ≡ s) × (exchanges ≡ 0)
AreSettling s (suc place) exchanges t =
    (u : Shared) × (v : World) × (before here : ℕ) × AreSettling s place before u
    × (HasRoom (world_at u place) → IsSettling (world_at u place) here v) × (t ≡ with_world u place v)
    × (exchanges ≡ min (before + here) (2 ^ 32 - 1))

-- The records of the sides before this place were settled, side after side
pub record SettlesEach {R J : Type 0} (g : Registries R) (h : Journals J) (old new : SharedWorld R J) (place : ℕ)
    (exchanges : ℕ) : Type 0 where
  pub on : GoesOnSharing g h old new
  pub count : length (seats_of new) ≡ length (seats_of old)
  pub is : AreSound g h new → {ours : ℕ → Names} (s : Shared) → AreAmong g h ours old s
      → (t : Shared) × AreSettling s place exchanges t × AreAmong g h ours new t

-- the records of the sides before a place were settled, and an event on the side at that place failed
pub record StopsEach {R J : Type 0} (g : Registries R) (h : Journals J) (old new : SharedWorld R J) (fault : WorldFault)
    : Type 0 where
  pub place : ℕ
  pub mid : SharedWorld R J
  pub exchanges : ℕ
  pub settles : SettlesEach g h old mid place exchanges
  pub stops : StopsAt g h mid new place fault

-- ---- runs that ended early

-- a turn failed: the event on its side did, and all other sides are unchanged
abbrev pub FailsTurn : {R J : Type 0} → Registries R → Journals J → (old new : SharedWorld R J) → TurnOf → WorldFault
    → Type 0
FailsTurn g h old new turn fault = FailsAtPlace g h old new turn.place (event_of turn.event) fault
