-- Addresses to listen on and to connect to.
use Rattle.std.specs.Prelude.{◌≡◌, option_map, ◌⊎◌, ◌≤◌, ◌<◌, ◌^◌, ℕ, List, length, Option, Some, None, Result, Ok, Err}
use denote.Ref.{Bor}
use Rattle.std.specs.Str.Parse.{IsNumeral, without_leading_plus}
use Rattle.std.specs.Str.Pattern.{RFindsChar, SplitsAroundMatch}
use Rattle.commands.specs.Words.{number_in}
use Rattle.commands.specs.declared.status.CommandFault.{CommandFault}

-- digits that spell a port that is at least this one
abbrev pub IsPort : (least : ℕ) → List ℕ → Type 0
IsPort least text = IsNumeral 10 (without_leading_plus text) × (number_in text < 2 ^ 16) × (least ≤ number_in text)

-- the text before the last colon, and the text after it
abbrev pub SplitsAtColon : (text host port : List ℕ) → Type 0
SplitsAtColon text host port = SplitsAroundMatch (RFindsChar 58) text host port

-- HOST:PORT: there is a text before the last colon, and such a port after it
abbrev pub IsAddress : (least : ℕ) → List ℕ → Type 0
IsAddress least text = (host port : List ℕ) × SplitsAtColon text host port × (0 < length host) × IsPort least port

-- there is no colon, or nothing before the last one, or no such port after it
abbrev pub IsNoAddress : (least : ℕ) → List ℕ → Type 0
IsNoAddress least text =
    RFindsChar 58 text None
    ⊎ ((host port : List ℕ) × SplitsAtColon text host port × ((length host ≡ 0) ⊎ (IsPort least port → ⊥)))

-- ---- of a command line

abbrev pub text_in : Option (Bor (List ℕ)) → Option (List ℕ)
text_in given = option_map (λ text. text.now) given

-- the arguments have no address
abbrev pub IsLacking : (least : ℕ) → Option (List ℕ) → Type 0
IsLacking least None = Unit {0}
IsLacking least (Some text) = IsNoAddress least text

-- the address in the arguments; or this fault if there is none
abbrev pub GivesAddress : (least : ℕ) → (wrong : CommandFault) → Option (List ℕ)
    → Result (Bor (List ℕ)) CommandFault → Type 0
GivesAddress least wrong given (Ok address) = (given ≡ Some address.now) × IsAddress least address.now
GivesAddress least wrong given (Err fault) = (fault ≡ wrong) × IsLacking least given
