-- Texts of attributes.
use Rattle.std.specs.Str.{IsUtf8}
use Rattle.scim_resource.specs.declared.texts.TheConstants.{TEXT_LIMIT}
use Rattle.std.specs.Prelude.{◌≡◌, ℕ, Bool, true, List, [], ◌∷◌, Option, Some, None, length, ◌&&◌, nat_le, IfSome}

-- a text of 1 to 256 bytes
unfoldable pub is_short_text : List ℕ → Bool
is_short_text bs = nat_le 1 (length bs) && nat_le (length bs) TEXT_LIMIT

abbrev pub IsText : List ℕ → Type 0
IsText bs = is_short_text bs ≡ true

-- a text of an attribute in UTF-8, as a `Text` is
pub record IsUtf8Text (bs : List ℕ) : Type 0 where
  pub short : IsText bs
  pub utf8 : IsUtf8 bs

-- the text with these bytes, which is absent if there are none
abbrev pub text_if : List ℕ → Option (List ℕ)
text_if [] = None
text_if (b ∷ bs) = Some (b ∷ bs)

-- a text of 1 to 256 bytes, or none
abbrev pub IsTextIf : Option (List ℕ) → Type 0
IsTextIf o = IfSome o IsText
