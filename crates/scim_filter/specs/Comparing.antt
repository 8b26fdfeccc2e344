-- How a text of a resource compares with the text of a filter.
use Rattle.std.specs.Prelude.{ℕ, ◌-◌, List, [], ◌∷◌, length, take, drop, Bool, true, false, ◌&&◌, ◌||◌, ◌==◌, nat_le}
use Rattle.std.specs.Str.{bytes_eq, str_to_ascii_lowercase}
use Rattle.scim_filter.specs.declared.terms.TextOperator.{TextOperator}
use Rattle.scim_filter.specs.declared.terms.TextOperator.TheVariants.{Equal, NotEqual, Contains, StartsWith, EndsWith}

-- the bytes as they are, or with ASCII letters in lower case
abbrev pub folded : Bool → List ℕ → List ℕ
folded true text = text
folded false text = str_to_ascii_lowercase text

abbrev pub begins_with : List ℕ → List ℕ → Bool
begins_with text given = nat_le (length given) (length text) && bytes_eq (take (length given) text) given

abbrev pub ends_with : List ℕ → List ℕ → Bool
ends_with text given = nat_le (length given) (length text) && bytes_eq (drop (length text - length given) text) given

-- the given text occurs somewhere in the text
unfoldable pub contains : List ℕ → List ℕ → Bool
contains [] given = length given == 0
contains (b ∷ bs) given = begins_with (b ∷ bs) given || contains bs given

-- `ne` is decided over all values together: see `text_holds`
abbrev pub compares : TextOperator → List ℕ → List ℕ → Bool
compares Equal text given = bytes_eq text given
compares NotEqual text given = bytes_eq text given
compares Contains text given = contains text given
compares StartsWith text given = begins_with text given
compares EndsWith text given = ends_with text given
