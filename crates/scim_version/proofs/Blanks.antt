-- Texts with blanks before or behind them.
use Rattle.std.proofs.Common.{◌≡◌, ◌∙◌, sym, ap, refl, ℕ, ◌-◌, ◌<◌, ◌≤◌, true, false, List, [], ◌∷◌, length, get_or, take, drop, reverse, arith}
use Rattle.std.proofs.lemmas.List.{take_rest, reverse-append, reverse-reverse}
use Rattle.scim_version.specs.Lists.{is_blank, without_leading_blanks, without_trailing_blanks}
use Rattle.scim_version.proofs.Grammar.{front_and_last}

-- a blank in front is left out
pub leading-blank : (xs : List ℕ) → 1 ≤ length xs → is_blank (get_or xs 0 0) ≡ true → without_leading_blanks (take (length xs - 1) (drop 1 xs)) ≡ without_leading_blanks xs
unfolding without_leading_blanks
leading-blank [] some blank = absurd (omega arith)
leading-blank (x ∷ xs) some blank = rw blank (ap without_leading_blanks (take_rest (x ∷ xs) 1))

pub leading-other : (xs : List ℕ) → 1 ≤ length xs → is_blank (get_or xs 0 0) ≡ false → xs ≡ without_leading_blanks xs
unfolding without_leading_blanks
leading-other [] some other = refl
leading-other (x ∷ xs) some other = rw other refl

pub leading-nil : (xs : List ℕ) → length xs < 1 → xs ≡ without_leading_blanks xs
unfolding without_leading_blanks
leading-nil [] none = refl
leading-nil (x ∷ xs) none = absurd (omega arith)

reversed : (xs : List ℕ) → 1 ≤ length xs → reverse xs ≡ get_or xs (length xs - 1) 0 ∷ reverse (take (length xs - 1) xs)
reversed xs some = ap reverse (front_and_last xs some) ∙ reverse-append (take (length xs - 1) xs) (get_or xs (length xs - 1) 0 ∷ [])

-- a blank at the end is left out
pub trailing-blank : (xs : List ℕ) → 1 ≤ length xs → is_blank (get_or xs (length xs - 1) 0) ≡ true → without_trailing_blanks (take (length xs - 1) xs) ≡ without_trailing_blanks xs
unfolding without_trailing_blanks without_leading_blanks
trailing-blank xs some blank = rw (reversed xs some, blank) refl

pub trailing-other : (xs : List ℕ) → 1 ≤ length xs → is_blank (get_or xs (length xs - 1) 0) ≡ false → xs ≡ without_trailing_blanks xs
unfolding without_trailing_blanks without_leading_blanks
trailing-other xs some other =
    let stays : reverse xs ≡ without_leading_blanks (reverse xs) = rw (reversed xs some) (leading-other (get_or xs (length xs - 1) 0 ∷ reverse (take (length xs - 1) xs)) (omega arith) other) in
    sym (reverse-reverse xs) ∙ ap reverse stays

pub trailing-nil : (xs : List ℕ) → length xs < 1 → xs ≡ without_trailing_blanks xs
unfolding without_trailing_blanks without_leading_blanks
trailing-nil [] none = refl
trailing-nil (x ∷ xs) none = absurd (omega arith)
