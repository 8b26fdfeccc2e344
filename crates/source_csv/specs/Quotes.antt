-- Whether a file ends within quotes, by the grammar of `csv`.
use Rattle.std.specs.Prelude.{ℕ, Bool, true, false, not, ◌==◌, ◌||◌, List, [], ◌∷◌, Option, Some, None, if◌then◌else◌}
use Rattle.csv.specs.Machine.{step}
use Rattle.csv.specs.Reading.{strip_bom}
use Rattle.csv.specs.declared.parser.Config.{Config}
use Rattle.csv.specs.declared.parser.State.{State}
use Rattle.csv.specs.declared.parser.State.TheVariants as state
use Rattle.source_csv.specs.Files.{config_of, separator_byte}
use Rattle.source_csv.specs.declared.layouts.Separator.{Separator}
use Rattle.source_csv.specs.declared.quotes.Quoting.{Quoting}
use Rattle.source_csv.specs.declared.quotes.Quoting.TheVariants.{Start, Plain, Quoted, AfterQuote}

-- the state of the grammar after these bytes
abbrev pub state_after : Config → State → List ℕ → State
state_after config before [] = before
state_after config before (byte ∷ bytes) = state_after config (step config before byte).0 bytes

-- whether a quote is open
abbrev pub is_quoted : State → Bool
is_quoted state.StartRecord = false
is_quoted state.StartField = false
is_quoted state.InField = false
is_quoted state.InQuoted = true
is_quoted state.AfterQuote = false
is_quoted state.InEscape = true
is_quoted state.InComment = false
is_quoted state.AfterCr = false

-- whether no quote is open at the end of a file with this separator
abbrev pub is_closed : Separator → List ℕ → Bool
is_closed separator bytes =
    not (is_quoted (state_after (config_of separator) state.StartRecord (strip_bom bytes)))

-- ---- what the code keeps of the state

-- where a state stands as far as quotes go; none in a comment and after an escape, which no file has
abbrev pub quoting_of : State → Option Quoting
quoting_of state.StartRecord = Some Start
quoting_of state.StartField = Some Start
quoting_of state.InField = Some Plain
quoting_of state.InQuoted = Some Quoted
quoting_of state.AfterQuote = Some AfterQuote
quoting_of state.InEscape = None
quoting_of state.InComment = None
quoting_of state.AfterCr = Some Start

-- where a byte leads that isn't within quotes, and opens none
abbrev pub outside : Separator → ℕ → Quoting
outside separator byte =
    if (byte == separator_byte separator) || ((byte == 13) || (byte == 10)) then Start else Plain

-- where a byte leads at which a quote opens or goes on
abbrev pub opening : Separator → ℕ → Quoting
opening separator byte = if byte == 34 then Quoted else outside separator byte

-- where a byte within quotes leads
abbrev pub within : ℕ → Quoting
within byte = if byte == 34 then AfterQuote else Quoted

-- where a byte leads
abbrev pub after : Separator → Quoting → ℕ → Quoting
after separator Start byte = opening separator byte
after separator Plain byte = outside separator byte
after separator Quoted byte = within byte
after separator AfterQuote byte = opening separator byte

-- where these bytes lead
abbrev pub quoting_after : Separator → Quoting → List ℕ → Quoting
quoting_after separator quoting [] = quoting
quoting_after separator quoting (byte ∷ bytes) = quoting_after separator (after separator quoting byte) bytes

-- whether a quote is open there
abbrev pub is_open : Quoting → Bool
is_open Start = false
is_open Plain = false
is_open Quoted = true
is_open AfterQuote = false
