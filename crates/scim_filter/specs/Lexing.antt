-- One token from the front of a text, as the code reads it.
use Rattle.std.specs.Prelude.{ℕ, ◌+◌, List, [], ◌∷◌, take, drop, false, Option, Some, None, option_map, Result, Ok, Err, ◌==◌, if◌then◌else◌}
use Rattle.std.specs.List.{prefix_len}
use Rattle.serde_json.specs.Data.{Data, null, boolean, number, string, array, object}
use Rattle.serde_json.specs.Read.{read}
use Rattle.scim_key.specs.Outcome.{◌>>=◌}
use Rattle.scim_filter.specs.Words.{word_named}
use Rattle.scim_filter.specs.Tokens.{is_space, is_word_byte, quote_at}
use Rattle.scim_filter.specs.declared.tokens.Token.{Token}
use Rattle.scim_filter.specs.declared.tokens.Token.TheVariants.{Gap, Open, Close, Plain, Quoted}
use Rattle.scim_filter.specs.declared.filters.FilterFault.{FilterFault}
use Rattle.scim_filter.specs.declared.filters.FilterFault.TheVariants.{Unsupported}

-- the value, or P3 if there is none
abbrev pub or_unsupported : {A : Type 0} → Option A → Result A FilterFault
or_unsupported None = Err Unsupported
or_unsupported (Some x) = Ok x

abbrev pub string_in : Option Data → Option (List ℕ)
string_in None = None
string_in (Some null) = None
string_in (Some (boolean b)) = None
string_in (Some (number n)) = None
string_in (Some (string s)) = Some s
string_in (Some (array ds)) = None
string_in (Some (object ms)) = None

-- the text that a JSON string spells
unfoldable pub text_of : List ℕ → Result (List ℕ) FilterFault
text_of spelled = or_unsupported (string_in (read spelled))

unfoldable pub word_at : List ℕ → Result (Token × List ℕ) FilterFault
word_at bs = or_unsupported (option_map (λ w. (Plain w, drop (prefix_len is_word_byte bs) bs))
    (word_named (take (prefix_len is_word_byte bs) bs)))

unfoldable pub gap_at : List ℕ → Token × List ℕ
gap_at bs = (Gap, drop (prefix_len is_space bs) bs)

-- the text begins with a quote; n is the place of the next quote, counted from the byte after the first
abbrev pub quoted_to : List ℕ → Option ℕ → Result (Token × List ℕ) FilterFault
quoted_to bs None = Err Unsupported
quoted_to bs (Some n) = text_of (take (n + 2) bs) >>= λ s. Ok (Quoted s, drop (n + 2) bs)

unfoldable pub quoted_at : List ℕ → Result (Token × List ℕ) FilterFault
quoted_at bs = quoted_to bs (quote_at false (drop 1 bs))

unfoldable pub token_at : List ℕ → Result (Token × List ℕ) FilterFault
token_at [] = Err Unsupported
token_at (b ∷ bs) =
    if b == 32 then Ok (gap_at (b ∷ bs))
    else if b == 40 then Ok (Open, bs)
    else if b == 41 then Ok (Close, bs)
    else if b == 34 then quoted_at (b ∷ bs)
    else word_at (b ∷ bs)
