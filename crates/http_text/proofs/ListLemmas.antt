-- Lists in two parts.
use Rattle.std.proofs.Common.{◌≡◌, ℕ, ◌-◌, ◌<◌, ◌≤◌, List, [], ◌∷◌, ◌++◌, length, take, drop, refl, ap, sym, arith, length-drop}
use Rattle.std.proofs.lemmas.List.{take_all}

-- the rest of a slice from a place on
pub rest_from : {X : Type 0} → (k : ℕ) (xs : List X) → take (length xs - k) (drop k xs) ≡ drop k xs
rest_from k xs = take_all (length xs - k) (drop k xs) (simp length-drop (omega arith))

-- of two ways to part a list, the longer front begins with the shorter one
pub front_of : (a b c d : List ℕ) → a ++ b ≡ c ++ d → length a ≤ length c → (x : List ℕ) × (c ≡ a ++ x) × (b ≡ x ++ d)
front_of [] b c d h le = (c, refl, h)
front_of (x ∷ a) b [] d h le = absurd (omega arith)
front_of (x ∷ a) b (y ∷ c) d h le =
    let heads : x ≡ y = cc in
    let tails : a ++ b ≡ c ++ d = cc in
    let p = front_of a b c d tails (omega arith) in
    (p.0, (λ i. sym heads i ∷ p.1 i), p.2)

-- fronts of one length are equal, and so is what follows
pub same_split : (a b c d : List ℕ) → a ++ b ≡ c ++ d → length a ≡ length c → (a ≡ c) × (b ≡ d)
same_split [] b [] d h e = (refl, h)
same_split [] b (y ∷ c) d h e = absurd (omega arith)
same_split (x ∷ a) b [] d h e = absurd (omega arith)
same_split (x ∷ a) b (y ∷ c) d h e =
    let heads : x ≡ y = cc in
    let tails : a ++ b ≡ c ++ d = cc in
    let p = same_split a b c d tails (omega arith) in
    ((λ i. heads i ∷ p.0 i), p.1)

-- a list that isn't empty ends in an element
pub split_last : (xs : List ℕ) → 0 < length xs → (front : List ℕ) × (last : ℕ) × (xs ≡ front ++ last ∷ [])
split_last [] h = absurd (omega arith)
split_last (x ∷ []) h = ([], x, refl)
split_last (x ∷ y ∷ xs) h = let p = split_last (y ∷ xs) (omega arith) in (x ∷ p.0, p.1, ap (λ (t : List ℕ). x ∷ t) p.2)

-- an empty list by its length
pub empty_list : (xs : List ℕ) → length xs ≡ 0 → xs ≡ []
empty_list [] h = refl
empty_list (x ∷ xs) h = absurd (omega arith)
