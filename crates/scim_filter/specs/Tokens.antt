-- The tokens that a filter's text consists of.
use Rattle.std.specs.Prelude.{◌≡◌, ℕ, suc, ◌<◌, List, [], ◌∷◌, ◌++◌, length, Bool, true, false, ◌||◌, ◌&&◌, ◌==◌, nat_le, if◌then◌else◌, Option, Some, None, option_map}
use Rattle.std.specs.List.{list_all}
use Rattle.serde_json.specs.Data.{string}
use Rattle.serde_json.specs.Read.{read}
use Rattle.scim_filter.specs.Words.{word_named}
use Rattle.scim_filter.specs.declared.words.Word.{Word}
use Rattle.scim_filter.specs.declared.tokens.Token.{Token}
use Rattle.scim_filter.specs.declared.tokens.Token.TheVariants.{Gap, Open, Close, Plain, Quoted}

abbrev pub is_space : ℕ → Bool
is_space b = b == 32

-- an ASCII letter or a point
abbrev pub is_word_byte : ℕ → Bool
is_word_byte b = (nat_le 65 b && nat_le b 90) || (nat_le 97 b && nat_le b 122) || (b == 46)

-- the place of the first quote that no backslash escapes; the boolean says whether one escapes the first byte
unfoldable pub quote_at : Bool → List ℕ → Option ℕ
quote_at escaped [] = None
quote_at true (b ∷ bs) = option_map suc (quote_at false bs)
quote_at false (b ∷ bs) =
    if b == 92 then option_map suc (quote_at true bs) else if b == 34 then Some 0
    else option_map suc (quote_at false bs)

-- one space or more
abbrev pub IsGap : List ℕ → Type 0
IsGap bs = (0 < length bs) × (list_all is_space bs ≡ true)

-- letters and points that spell this word, in any case
abbrev pub IsWord : Word → List ℕ → Type 0
IsWord w bs = (list_all is_word_byte bs ≡ true) × (word_named bs ≡ Some w)

-- a JSON string of this text, from a quote to the next quote that no backslash escapes
pub record IsString (text : List ℕ) (bs : List ℕ) : Type 0 where
  pub body : List ℕ
  pub quoted : bs ≡ 34 ∷ (body ++ 34 ∷ [])
  pub ends : quote_at false (body ++ 34 ∷ []) ≡ Some (length body)
  pub spells : read bs ≡ Some (string text)

abbrev pub IsToken : Token → List ℕ → Type 0
IsToken Gap bs = IsGap bs
IsToken Open bs = bs ≡ 40 ∷ []
IsToken Close bs = bs ≡ 41 ∷ []
IsToken (Plain w) bs = IsWord w bs
IsToken (Quoted text) bs = IsString text bs

-- two adjacent gaps are one gap, and two adjacent words are one word
abbrev pub runs_on : Token → Token → Bool
runs_on Gap Gap = true
runs_on (Plain v) (Plain w) = true
runs_on s t = false

abbrev pub EndsBefore : Token → List Token → Type 0
EndsBefore t [] = Unit {0}
EndsBefore t (u ∷ us) = runs_on t u ≡ false

-- the text is these tokens, one after the other
pub data Consists : List ℕ → List Token → Type 0 where
  nothing : Consists [] []
  token : (bs : List ℕ) {rest : List ℕ} (t : Token) {ts : List Token} → IsToken t bs → EndsBefore t ts
      → Consists rest ts → Consists (bs ++ rest) (t ∷ ts)
