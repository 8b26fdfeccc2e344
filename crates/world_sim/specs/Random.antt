-- The events that a seed draws.
use Rattle.std.specs.Prelude.{ℕ, zero, suc, ◌+◌, ◌/◌, ◌%◌, ◌==◌, List, [], ◌∷◌, ◌++◌, Option, Some}
use Rattle.std.specs.Prelude.{codes, if◌then◌else◌, map, min, nat_lt, replicate, slice_index, slice_set}
use Rattle.std.specs.List.{slice_index_or}
use Rattle.std.specs.Fmt.{decimal}
use Rattle.std.specs.Option.{option_map}
use Rattle.rand_core.specs.Pcg32Seed.{pcg32_seed}
use Rattle.rand_pcg.specs.Lcg.{Lcg}
use Rattle.rand_pcg.specs.Pcg.{pcg32, pcg32_of_seed}
use Rattle.scim_key.specs.declared.revisions.TheConstants.{LAST_REVISION}
use Rattle.scim_key.specs.declared.records.Kind.{Kind}
use Rattle.scim_key.specs.declared.records.Kind.TheVariants.{User, Group}
use Rattle.scim_filter.specs.Names.{record_named}
use Rattle.source_csv.specs.Fields.{Record}
use Rattle.world_sim.specs.Schedules.{change_in, row_in}
use Rattle.world_sim.specs.declared.acting.Act.{Act}
use Rattle.world_sim.specs.declared.acting.Act.TheVariants as acts
use Rattle.world_sim.specs.declared.events.Event.{Event}
use Rattle.world_sim.specs.declared.events.Event.TheVariants as events
use Rattle.world_sim.specs.declared.several.Turn.{Turn}

-- ---- the records: the users a, b and c, and the group g

abbrev pub kind_at : (place : ℕ) → Kind
kind_at place = if nat_lt place 3 then User else Group

abbrev pub letter_at : (place : ℕ) → List ℕ
letter_at place =
    if place == 0 then codes "a" else if place == 1 then codes "b" else if place == 2 then codes "c" else codes "g"

-- their names end in a suffix, which may be empty
abbrev pub name_at : (suffix : List ℕ) → (place : ℕ) → List ℕ
name_at suffix place = letter_at place ++ suffix

-- a user has left at each third revision, and has no other fields
abbrev pub status_at : (revision : ℕ) → List ℕ
status_at revision = if revision % 3 == 0 then codes ",,,,left" else codes ",,,,active"

-- the group has one member at odd revisions and two at even ones
abbrev pub members_at : (suffix : List ℕ) → (revision : ℕ) → List ℕ
members_at suffix revision =
    if revision % 2 == 0 then codes "a" ++ (suffix ++ (codes " b" ++ suffix)) else codes "a" ++ suffix

-- the record at a revision, as a line of a file
abbrev pub record_at : (suffix : List ℕ) → (place revision : ℕ) → List ℕ
record_at suffix place revision =
    name_at suffix place ++ (codes "," ++ (decimal revision ++ (codes ","
    ++ (if nat_lt place 3 then status_at revision else members_at suffix revision))))

-- ---- one event

-- a counter rises by one, and isn't above the last revision
abbrev pub risen : (counter : ℕ) → ℕ
risen counter = min (counter + 1) LAST_REVISION

abbrev pub message_drawn : (rest : ℕ) → ℕ
message_drawn rest = 1 + rest % 64

-- a side is opened again, or a message arrives in part
abbrev pub trouble_drawn : (rest : ℕ) → Event
trouble_drawn rest =
    if rest % 3 == 0 then events.RestartProvider
    else if rest % 3 == 1 then events.RestartConnector
    else events.Cut (message_drawn rest) (rest % 50)

-- The event of a word, given the suffix and the counters of the records: by its remainder modulo 8 a change, a request,
-- a message that arrives, or a trouble; its other bits say of which record, or which message
unfoldable pub event_drawn : (List ℕ → List Record) → (suffix counters : List ℕ) → (word : ℕ) → Option Event
event_drawn records_in suffix counters word =
    if nat_lt (word % 8) 2 then change_in records_in (kind_at (word / 8 % 4))
    (record_at suffix (word / 8 % 4) (risen (slice_index counters (word / 8 % 4))))
    else if nat_lt (word % 8) 4 then option_map events.Send
    (record_named (name_at suffix (word / 8 % 4)) (kind_at (word / 8 % 4)))
    else if nat_lt (word % 8) 7 then Some (events.Deliver (message_drawn (word / 8)))
    else Some (trouble_drawn (word / 8))

-- the counters after that: a change raises the record's
unfoldable pub counters_after : (counters : List ℕ) → (word : ℕ) → List ℕ
counters_after counters word =
    if nat_lt (word % 8) 2 then slice_set counters (word / 8 % 4)
    (risen (slice_index counters (word / 8 % 4))) else counters

-- ---- all events

-- the next events of a generator, each by its next word
abbrev pub drawn : (List ℕ → List Record) → Lcg → (counters : List ℕ) → (count : ℕ) → List (Option Event)
drawn records_in generator counters zero = []
drawn records_in generator counters (suc count) =
    event_drawn records_in [] counters (pcg32 generator).0 ∷ drawn records_in (pcg32 generator).1
    (counters_after counters (pcg32 generator).0) count

-- The events of a seed: all counters begin at 0
abbrev pub seed_draws : (List ℕ → List Record) → (seed count : ℕ) → List (Option Event)
seed_draws records_in seed count = drawn records_in (pcg32_of_seed (pcg32_seed 16 seed)) (0 ∷ 0 ∷ 0 ∷ 0 ∷ []) count

-- ---- a random start

-- what the name of a record that is held at the start ends in: nothing if it is one of the source, and else a digit
abbrev pub suffix_drawn : (rest : ℕ) → List ℕ
suffix_drawn rest = if rest % 2 == 0 then [] else decimal (rest / 8 % 8)

-- the record that is held at the start, by the higher half of a word: at a revision from 1 to 9
unfoldable pub held_drawn : (List ℕ → List Record) → (rest : ℕ) → Option Act
held_drawn records_in rest =
    option_map acts.Holds (row_in records_in (kind_at (rest / 2 % 4))
    (record_at (suffix_drawn rest) (rest / 2 % 4) (1 + rest / 64 % 9)))

-- the next records of a generator, each by its next word
abbrev pub holds_drawn : (List ℕ → List Record) → Lcg → (count : ℕ) → List (Option Act)
holds_drawn records_in generator zero = []
holds_drawn records_in generator (suc count) =
    held_drawn records_in ((pcg32 generator).0 / 65_536) ∷ holds_drawn records_in (pcg32 generator).1 count

-- 1 to 36 records, as the first word says
abbrev pub start_drawn : (List ℕ → List Record) → Lcg → List (Option Act)
start_drawn records_in generator =
    holds_drawn records_in (pcg32 generator).1 (1 + (pcg32 generator).0 / 65_536 % 36)

-- The start of a seed
abbrev pub seed_holds : (List ℕ → List Record) → (seed : ℕ) → List (Option Act)
seed_holds records_in seed = start_drawn records_in (pcg32_of_seed (pcg32_seed 16 seed))

-- and then its events: all counters begin at 9, so that the source's revisions are above those that are held
abbrev pub seed_draws_acts : (List ℕ → List Record) → (seed count : ℕ) → List (Option Act)
seed_draws_acts records_in seed count =
    seed_holds records_in seed
    ++ map (option_map acts.Ours)
    (drawn records_in (pcg32_of_seed (pcg32_seed 16 seed)) (9 ∷ 9 ∷ 9 ∷ 9 ∷ []) count)

-- ---- turns of several connectors

-- what the names of the records of a connector end in: its number, which is counted from 1
abbrev pub suffix_of : (place : ℕ) → List ℕ
suffix_of place = decimal (place + 1)

-- the counters of the connector at this place
abbrev pub counters_at : (all : List (List ℕ)) → (place : ℕ) → List ℕ
counters_at all place = slice_index_or all place []

-- the place of the connector that the next word draws
abbrev pub place_drawn : (connectors : ℕ) → Lcg → ℕ
place_drawn connectors generator = (pcg32 generator).0 % connectors

-- the word after that, and the generator after both
abbrev pub word_drawn : Lcg → ℕ × Lcg
word_drawn generator = pcg32 (pcg32 generator).1

abbrev pub turn_at : (place : ℕ) → Event → Turn
turn_at place event = record { place = place; event = event }

-- the turn of the connector at this place, by a word, given the counters of all
abbrev pub turn_drawn : (List ℕ → List Record) → (all : List (List ℕ)) → (place word : ℕ) → Option Turn
turn_drawn records_in all place word =
    option_map (turn_at place) (event_drawn records_in (suffix_of place) (counters_at all place) word)

-- the counters of all after that
abbrev pub all_after : (all : List (List ℕ)) → (place word : ℕ) → List (List ℕ)
all_after all place word = slice_set all place (counters_after (counters_at all place) word)

-- the next turns of a generator, each by its next two words
abbrev pub turns_drawn : (List ℕ → List Record) → Lcg → (all : List (List ℕ)) → (connectors count : ℕ)
    → List (Option Turn)
turns_drawn records_in generator all connectors zero = []
turns_drawn records_in generator all connectors (suc count) =
    turn_drawn records_in all (place_drawn connectors generator) (word_drawn generator).0
    ∷ turns_drawn records_in (word_drawn generator).1
    (all_after all (place_drawn connectors generator) (word_drawn generator).0) connectors count

-- The turns of a seed: all counters begin at 0
abbrev pub seed_draws_turns : (List ℕ → List Record) → (seed connectors count : ℕ) → List (Option Turn)
seed_draws_turns records_in seed connectors count =
    turns_drawn records_in (pcg32_of_seed (pcg32_seed 16 seed)) (replicate connectors (0 ∷ 0 ∷ 0 ∷ 0 ∷ [])) connectors
    count
