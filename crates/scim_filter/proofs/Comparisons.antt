-- Lowering the letters of texts, and cutting them, go together.
use Rattle.std.proofs.Common.{◌≡◌, ℕ, ◌+◌, ◌-◌, ◌<◌, ◌≤◌, List, [], ◌∷◌, length, take, drop, get_or, Bool, true, false, ◌||◌, ◌==◌, refl, sym, ◌∙◌, arith, nat_le}
use Rattle.std.specs.Str.{bytes_eq}
use Rattle.std.specs.Char.{to_ascii_lowercase}
use Rattle.std.proofs.lemmas.List.{at_drop_more, length-map, take-map, drop-map}
use Rattle.std.proofs.lemmas.Bool.Decides.{nat_tests}
use Rattle.scim_filter.specs.Comparing.{folded, begins_with, ends_with, contains}

pub length-folded : (exact : Bool) (text : List ℕ) → length (folded exact text) ≡ length text
length-folded true text = refl
length-folded false text = length-map text to_ascii_lowercase

pub take-folded : (exact : Bool) (n : ℕ) (text : List ℕ) → take n (folded exact text) ≡ folded exact (take n text)
take-folded true n text = refl
take-folded false n text = take-map to_ascii_lowercase n text

pub drop-folded : (exact : Bool) (n : ℕ) (text : List ℕ) → drop n (folded exact text) ≡ folded exact (drop n text)
drop-folded true n text = refl
drop-folded false n text = drop-map to_ascii_lowercase n text

enough : (m n : ℕ) → m ≤ n → nat_le m n ≡ true
enough m n h = grind (arith, nat_tests)

too_few : (m n : ℕ) → n < m → nat_le m n ≡ false
too_few m n h = grind (arith, nat_tests)

pub begins-folded : (e : Bool) (text given : List ℕ) → length given ≤ length text → begins_with (folded e text) (folded e given) ≡ bytes_eq (folded e (take (length given) text)) (folded e given)
begins-folded e text given h = rw (length-folded e given, length-folded e text, take-folded e (length given) text, enough (length given) (length text) h) refl

pub begins-short : (e : Bool) (text given : List ℕ) → length text < length given → begins_with (folded e text) (folded e given) ≡ false
begins-short e text given h = rw (length-folded e given, length-folded e text, too_few (length given) (length text) h) refl

pub ends-folded : (e : Bool) (text given : List ℕ) → length given ≤ length text
    → ends_with (folded e text) (folded e given) ≡ bytes_eq (folded e (drop (length text - length given) text)) (folded e given)
ends-folded e text given h = rw (length-folded e given, length-folded e text, drop-folded e (length text - length given) text, enough (length given) (length text) h) refl

pub ends-short : (e : Bool) (text given : List ℕ) → length text < length given → ends_with (folded e text) (folded e given) ≡ false
ends-short e text given h = rw (length-folded e given, length-folded e text, too_few (length given) (length text) h) refl

-- ---- from place to place

contains-more : (e : Bool) (b : ℕ) (bs given : List ℕ) → contains (folded e (b ∷ bs)) (folded e given) ≡ (begins_with (folded e (b ∷ bs)) (folded e given) || contains (folded e bs) (folded e given))
unfolding contains
contains-more true b bs given = refl
contains-more false b bs given = refl

found_or : (a b : Bool) → a ≡ true → (a || b) ≡ true
found_or true b h = refl
found_or false b h = absurd (cc)

not_or : (a b : Bool) → a ≡ false → (a || b) ≡ b
not_or true b h = absurd (cc)
not_or false b h = refl

pub contains-here : (e : Bool) (text given : List ℕ) (i : ℕ) → i < length text → begins_with (folded e (drop i text)) (folded e given) ≡ true → contains (folded e (drop i text)) (folded e given) ≡ true
contains-here e text given i h k =
    at_drop_more (λ x. contains (folded e x) (folded e given)) text i 0 h
    ∙ contains-more e (get_or text i 0) (drop (i + 1) text) given
    ∙ found_or _ _ (sym (at_drop_more (λ x. begins_with (folded e x) (folded e given)) text i 0 h) ∙ k)

pub contains-on : (e : Bool) (text given : List ℕ) (i : ℕ) → i < length text → begins_with (folded e (drop i text)) (folded e given) ≡ false
    → contains (folded e (drop i text)) (folded e given) ≡ contains (folded e (drop (i + 1) text)) (folded e given)
contains-on e text given i h k =
    at_drop_more (λ x. contains (folded e x) (folded e given)) text i 0 h
    ∙ contains-more e (get_or text i 0) (drop (i + 1) text) given
    ∙ not_or _ _ (sym (at_drop_more (λ x. begins_with (folded e x) (folded e given)) text i 0 h) ∙ k)

pub contains-end : (e : Bool) (given : List ℕ) → contains (folded e []) (folded e given) ≡ (length given == 0)
unfolding contains
contains-end true given = refl
contains-end false given = rw (length-folded false given) refl
