-- Schedules: what a text says, line by line, should happen in a world.
use Rattle.std.specs.Prelude.{ℕ, ◌+◌, Bool, true, List, [], ◌∷◌, ◌++◌, Option, Some, None, Result, Ok, if◌then◌else◌, ◌==◌, ◌&&◌, codes, length, nat_le, option_to_list}
use Rattle.std.specs.Char.{is_ascii_digit}
use Rattle.std.specs.List.{after_first, before_first, join_with_byte, list_all}
use Rattle.std.specs.Option.{ok_or, option_and_then, option_map, option_or}
use Rattle.std.specs.Str.{bytes_eq}
use Rattle.std.specs.Str.Lines.{lines}
use Rattle.std.specs.Str.Parse.{digits_value}
use Rattle.scim_key.specs.Outcome.{◌>>=◌}
use Rattle.scim_key.specs.declared.records.Kind.{Kind}
use Rattle.scim_key.specs.declared.records.Kind.TheVariants as kind
use Rattle.scim_key.specs.declared.records.RecordName.{RecordName}
use Rattle.scim_filter.specs.Names.{record_named}
use Rattle.source_csv.specs.Fields.{Record}
use Rattle.source_csv.specs.Files.{AreRecordsOf, headers_of, rows_of}
use Rattle.source_csv.specs.declared.layouts.Separator.TheVariants.{Comma}
use Rattle.source_csv.specs.declared.faults.RowFault.{RowFault}
use Rattle.source_csv.specs.declared.faults.SourceFault.{SourceFault}
use Rattle.source_csv.specs.declared.rows.Row.{Row}
use Rattle.world_sim.specs.declared.acting.Act.{Act}
use Rattle.world_sim.specs.declared.acting.Act.TheVariants as acts
use Rattle.world_sim.specs.declared.events.Event.{Event}
use Rattle.world_sim.specs.declared.events.Event.TheVariants as events
use Rattle.world_sim.specs.declared.schedules.ScheduleFault.{ScheduleFault}
use Rattle.world_sim.specs.declared.schedules.ScheduleFault.TheVariants.{Line}
use Rattle.world_sim.specs.declared.schedules.TheConstants.{NUMBER_DIGITS}

-- the records of each file of the source; `FilesHaveRecords` of source_csv says that every file has exactly one list of
-- records
abbrev pub ReadsFiles : (List ℕ → List Record) → Type 0
ReadsFiles records_in = (bytes : List ℕ) → AreRecordsOf Comma bytes (records_in bytes)

-- a file with one record: this header, a line end, and the record
abbrev pub file_of : Record → List ℕ → List ℕ
file_of columns text = join_with_byte 44 columns ++ 10 ∷ text

-- the only row of a file, if it has exactly one record and that is a row
abbrev pub only_row : Result (List (Result Row RowFault)) SourceFault → Option Row
only_row (Ok (Ok row ∷ [])) = Some row
only_row other = None

-- the row that a record of this kind is under the first of these headers that makes it exactly one row
abbrev pub row_under : (List ℕ → List Record) → Kind → List ℕ → List Record → Option Row
row_under records_in of text [] = None
row_under records_in of text (columns ∷ headers) =
    option_or (only_row (rows_of of (records_in (file_of columns text)))) (row_under records_in of text headers)

-- the row that a record of this kind is
unfoldable pub row_in : (List ℕ → List Record) → Kind → List ℕ → Option Row
row_in records_in of text = row_under records_in of text (headers_of of)

-- `user` or `group` and a record: the source offers that row
unfoldable pub change_in : (List ℕ → List Record) → Kind → List ℕ → Option Event
change_in records_in of text = option_map events.Change (row_in records_in of text)

-- the text before the first space, and the text after it
abbrev pub first_word : List ℕ → List ℕ
first_word text = before_first (λ b. b == 32) text

abbrev pub behind : List ℕ → List ℕ
behind text = after_first (λ b. b == 32) text

-- a type of resource and a name: the record
unfoldable pub record_in : List ℕ → Option RecordName
record_in text =
    if bytes_eq (first_word text) (codes "user") then record_named (behind text) kind.User
    else if bytes_eq (first_word text) (codes "group") then record_named (behind text) kind.Group
    else None

-- 1 to `NUMBER_DIGITS` digits
abbrev pub is_number : List ℕ → Bool
is_number text = nat_le 1 (length text) && nat_le (length text) NUMBER_DIGITS && list_all is_ascii_digit text

-- the number that these digits write
unfoldable pub number_in : List ℕ → Option ℕ
number_in text = if is_number text then Some (digits_value 10 text) else None

-- the number of a message, and how many bytes of it arrive
unfoldable pub cut_in : List ℕ → Option Event
cut_in text =
    option_and_then (λ number. option_map (λ bytes. events.Cut number bytes) (number_in (behind text)))
    (number_in (first_word text))

-- the restart of a side
unfoldable pub restart_in : List ℕ → Option Event
restart_in text =
    if bytes_eq text (codes "provider") then Some events.RestartProvider
    else if bytes_eq text (codes "connector") then Some events.RestartConnector
    else None

-- the event of a line with this first word, and this text after its first space
unfoldable pub event_of_words : (List ℕ → List Record) → (word rest : List ℕ) → Option Event
event_of_words records_in word rest =
    if bytes_eq word (codes "user") then change_in records_in kind.User rest
    else if bytes_eq word (codes "group") then change_in records_in kind.Group rest
    else if bytes_eq word (codes "send") then option_map events.Send (record_in rest)
    else if bytes_eq word (codes "doubt") then option_map events.Doubt (record_in rest)
    else if bytes_eq word (codes "deliver") then option_map events.Deliver (number_in rest)
    else if bytes_eq word (codes "cut") then cut_in rest
    else if bytes_eq word (codes "restart") then restart_in rest
    else None

-- The event in a line
abbrev pub event_in : (List ℕ → List Record) → List ℕ → Option Event
event_in records_in line = event_of_words records_in (first_word line) (behind line)

-- an empty line and a line that begins with `#` are skipped
abbrev pub is_silent : List ℕ → Bool
is_silent [] = true
is_silent (b ∷ line) = b == 35

-- what the line with this number says; nothing if the line is skipped; or the fault that it says nothing valid
unfoldable pub said_at : {T : Type 0} → (said : List ℕ → Option T) → ℕ → List ℕ → Result (Option T) ScheduleFault
said_at said number line = if is_silent line then Ok None else ok_or (option_map Some (said line)) (Line number)

-- what these lines say, the first of which has this number
abbrev pub said_from : {T : Type 0} → (said : List ℕ → Option T) → ℕ → List (List ℕ) → Result (List T) ScheduleFault
said_from said number [] = Ok []
said_from said number (line ∷ lines) = do
  one ← said_at said number line
  more ← said_from said (number + 1) lines
  Ok (option_to_list one ++ more)

-- The events in the lines of a schedule, which are numbered from 1, or the first line that isn't an event
abbrev pub events_in : (List ℕ → List Record) → List ℕ → Result (List Event) ScheduleFault
events_in records_in text = said_from (event_in records_in) 1 (lines text)

-- ---- schedules among others

-- a type of resource and a record: the row
unfoldable pub typed_row_in : (List ℕ → List Record) → List ℕ → Option Row
typed_row_in records_in text =
    if bytes_eq (first_word text) (codes "user") then row_in records_in kind.User (behind text)
    else if bytes_eq (first_word text) (codes "group") then row_in records_in kind.Group (behind text)
    else None

-- the act of a line with this first word, and this text after its first space: `other` or `held` and a row, or an
-- event
unfoldable pub act_of_words : (List ℕ → List Record) → (word rest : List ℕ) → Option Act
act_of_words records_in word rest =
    if bytes_eq word (codes "other") then option_map acts.WritesRow (typed_row_in records_in rest)
    else if bytes_eq word (codes "held") then option_map acts.Holds (typed_row_in records_in rest)
    else option_map acts.Ours (event_of_words records_in word rest)

-- The act in a line
abbrev pub act_in : (List ℕ → List Record) → List ℕ → Option Act
act_in records_in line = act_of_words records_in (first_word line) (behind line)

-- The acts in the lines of a schedule, which are numbered from 1, or the first line that is neither an event nor what
-- others write nor what is held
abbrev pub acts_in : (List ℕ → List Record) → List ℕ → Result (List Act) ScheduleFault
acts_in records_in text = said_from (act_in records_in) 1 (lines text)

-- the numbers of the lines that aren't skipped, the first of which has this number
abbrev pub said_lines : ℕ → List (List ℕ) → List ℕ
said_lines number [] = []
said_lines number (line ∷ lines) =
    if is_silent line then said_lines (number + 1) lines else number ∷ said_lines (number + 1) lines
