-- Comma lists of entity tags, as in the fields `If-Match` and `If-None-Match` (RFC 7232 sections 3.1 and 3.2).
use Rattle.std.specs.Prelude.{◌≡◌, ◌⊎◌, ℕ, Bool, false, List, [], ◌∷◌, ◌++◌, ◌==◌, ◌&&◌, ◌||◌, not, map, filter, reverse, length, nat_lt, IsTrue, if◌then◌else◌, codes}
use Rattle.std.specs.List.{list_all}
use Rattle.scim_version.specs.Tags.{IsEntityTag}

-- a space or a tab
abbrev pub is_blank : ℕ → Bool
is_blank b = (b == 0x20) || (b == 0x09)

abbrev pub IsBlank : List ℕ → Type 0
IsBlank text = IsTrue (list_all is_blank text)

-- an element of a list: `*` or an entity tag
abbrev pub IsElement : List ℕ → Type 0
IsElement text = (text ≡ codes "*") ⊎ IsEntityTag text

-- The grammar: a text is a list of these elements. Blanks are a list without elements. An element with blanks around it
-- is a list of one. Two lists joined by a comma are one list.
pub data IsListOf : List ℕ → List (List ℕ) → Type 0 where
  empty : {blanks : List ℕ} → IsBlank blanks → IsListOf blanks []
  single : (before element after : List ℕ) → IsBlank before → IsElement element → IsBlank after
      → IsListOf (before ++ element ++ after) (element ∷ [])
  joined : {left right : List ℕ} {first rest : List (List ℕ)} → IsListOf left first
      → IsListOf right rest → IsListOf (left ++ 0x2C ∷ right) (first ++ rest)

-- The same as a function: the parts between the commas outside double quotes, without the blanks around them. Empty
-- parts are left out.

-- puts a byte in front of the first of some parts
abbrev pub put_first : ℕ → List (List ℕ) → List (List ℕ)
put_first b [] = (b ∷ []) ∷ []
put_first b (part ∷ more) = (b ∷ part) ∷ more

-- the parts of a text that begins inside or outside of quotes
unfoldable pub parts : Bool → List ℕ → List (List ℕ)
parts quoted [] = [] ∷ []
parts quoted (b ∷ bs) =
    if b == 0x22 then put_first b (parts (not quoted) bs)
    else if b == 0x2C && not quoted then [] ∷ parts quoted bs
    else put_first b (parts quoted bs)

unfoldable pub without_leading_blanks : List ℕ → List ℕ
without_leading_blanks [] = []
without_leading_blanks (b ∷ bs) = if is_blank b then without_leading_blanks bs else b ∷ bs

unfoldable pub without_trailing_blanks : List ℕ → List ℕ
without_trailing_blanks text = reverse (without_leading_blanks (reverse text))

unfoldable pub trimmed : List ℕ → List ℕ
trimmed text = without_trailing_blanks (without_leading_blanks text)

-- the parts without the blanks around them; empty parts are left out
unfoldable pub kept : List (List ℕ) → List (List ℕ)
kept found = filter (λ part. nat_lt 0 (length part)) (map trimmed found)

unfoldable pub elements : List ℕ → List (List ℕ)
elements text = kept (parts false text)
