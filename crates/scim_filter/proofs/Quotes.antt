-- The quote that ends a JSON string, place by place.
use Rattle.std.proofs.Common.{◌≡◌, ℕ, suc, ◌+◌, ◌<◌, List, ◌∷◌, true, false, length, get_or, drop, Option, Some, None, refl, sym, ap, ◌∙◌, arith}
use Rattle.std.specs.Prelude.{option_map}
use Rattle.std.proofs.lemmas.List.{at_drop_more}
use Rattle.std.proofs.lemmas.Bool.Decides.{nat_tests}
use Rattle.scim_filter.specs.Tokens.{quote_at}

-- one byte on
place_on : (i : ℕ) (o : Option ℕ) → option_map (λ n. i + 1 + n) o ≡ option_map (λ n. i + n) (option_map suc o)
place_on i None = refl
place_on i (Some n) = ap Some (omega arith)

quote_at-backslash : (b : ℕ) (bs : List ℕ) → b ≡ 92 → quote_at false (b ∷ bs) ≡ option_map suc (quote_at true bs)
unfolding quote_at
quote_at-backslash b bs e = rw e refl

pub quote_at-other : (b : ℕ) (bs : List ℕ) → (b ≡ 92 → ⊥) → (b ≡ 34 → ⊥) → quote_at false (b ∷ bs) ≡ option_map suc (quote_at false bs)
unfolding quote_at
quote_at-other b bs e f = grind (arith, nat_tests)

pub past_escaped : (bs : List ℕ) (i : ℕ) → i < length bs → option_map (λ n. i + 1 + n) (quote_at false (drop (i + 1) bs)) ≡ option_map (λ n. i + n) (quote_at true (drop i bs))
unfolding quote_at
past_escaped bs i h = place_on i (quote_at false (drop (i + 1) bs)) ∙ sym (ap (option_map (λ n. i + n)) (at_drop_more (quote_at true) bs i 0 h))

pub past_backslash : (bs : List ℕ) (i : ℕ) → i < length bs → get_or bs i 0 ≡ 92 → option_map (λ n. i + 1 + n) (quote_at true (drop (i + 1) bs)) ≡ option_map (λ n. i + n) (quote_at false (drop i bs))
past_backslash bs i h e =
    place_on i (quote_at true (drop (i + 1) bs))
    ∙ sym (ap (option_map (λ n. i + n)) (at_drop_more (quote_at false) bs i 0 h ∙ quote_at-backslash (get_or bs i 0) (drop (i + 1) bs) e))

pub past_other : (bs : List ℕ) (i : ℕ) → i < length bs → (get_or bs i 0 ≡ 92 → ⊥) → (get_or bs i 0 ≡ 34 → ⊥) → option_map (λ n. i + 1 + n) (quote_at false (drop (i + 1) bs)) ≡ option_map (λ n. i + n) (quote_at false (drop i bs))
past_other bs i h e f =
    place_on i (quote_at false (drop (i + 1) bs))
    ∙ sym (ap (option_map (λ n. i + n)) (at_drop_more (quote_at false) bs i 0 h ∙ quote_at-other (get_or bs i 0) (drop (i + 1) bs) e f))
