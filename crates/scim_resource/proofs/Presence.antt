-- A text that may be absent.
use Rattle.std.proofs.Common.{◌≡◌, ℕ, ◌≤◌, List, [], ◌∷◌, Option, Some, None, length, Ok, true, refl, ap, arith}
use Rattle.std.proofs.lemmas.Bool.Decides.{nat_tests}
use Rattle.std.specs.Option.{SomeIff}
use Rattle.serde_json.specs.Data.{string}
use Rattle.scim_resource.specs.Reading.{text_in}
use Rattle.scim_resource.specs.Texts.{IsText, IsTextIf, is_short_text, text_if}
use Rattle.scim_resource.specs.declared.texts.TheConstants.{TEXT_LIMIT}

pub is_text : (b : ℕ) (bs : List ℕ) → length (b ∷ bs) ≤ TEXT_LIMIT → IsText (b ∷ bs)
unfolding is_short_text
is_text b bs short = grind (arith, nat_tests)

no_text : IsText [] → ⊥
unfolding is_short_text
no_text h = grind arith

pub text_if_is_text : (bs : List ℕ) → length bs ≤ TEXT_LIMIT → IsTextIf (text_if bs)
text_if_is_text [] short = tt
text_if_is_text (b ∷ bs) short = is_text b bs short

pub text_is_within : (bs : List ℕ) → IsText bs → length bs ≤ TEXT_LIMIT
unfolding is_short_text
text_is_within bs h = grind (arith, nat_tests)

-- a text is there
pub text_is_there : (bs : List ℕ) → IsText bs → text_if bs ≡ Some bs
text_is_there [] h = absurd (no_text h)
text_is_there (b ∷ bs) h = refl

-- what is there exactly if the bytes are a text, if they are one or none at all
pub text_if_of : (bs : List ℕ) (found : Option (List ℕ)) → IsTextIf (text_if bs) → SomeIff found (IsText bs) bs → found ≡ text_if bs
text_if_of [] None lawful h = refl
text_if_of [] (Some found) lawful h = absurd (no_text h.0)
text_if_of (b ∷ bs) None lawful h = absurd (h lawful)
text_if_of (b ∷ bs) (Some found) lawful h = ap Some h.1

-- a text that is short is read as what is there
pub text_read : (bs : List ℕ) (found : Option (List ℕ)) → is_short_text bs ≡ true → found ≡ text_if bs → text_in (Some (string bs)) ≡ Ok found
text_read bs found short is = rw (short, is, text_is_there bs short) refl
