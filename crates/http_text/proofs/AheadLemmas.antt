-- Bytes that were read ahead.
use Rattle.std.proofs.Common.{◌≡◌, ℕ, ◌+◌, List, ◌++◌, take, drop, slice_range, ap, sym, ◌∙◌, append_assoc, Option, Some, None}
use Rattle.std.proofs.lemmas.List.{take-append-drop, drop-drop}
use Rattle.std.proofs.lemmas.Slice.{between_is}
use Rattle.std.specs.Io.KnownBytes.{Consumes, prepend_known}

-- a part from a later place on
pub slice_from : (xs : List ℕ) (i k j : ℕ) → slice_range xs (i + k) j ≡ drop k (slice_range xs i j)
slice_from xs i k j = between_is xs (i + k) j ∙ sym (drop-drop k i (take j xs)) ∙ ap (drop k) (sym (between_is xs i j))

-- the front of the bytes that were read ahead is taken
pub Consumes-ahead : (xs : List ℕ) (known : Option (List ℕ)) (n : ℕ) → Consumes (prepend_known xs known) (prepend_known (drop n xs) known) (take n xs)
Consumes-ahead xs None n = tt
Consumes-ahead xs (Some ys) n = ap (λ (t : List ℕ). t ++ ys) (sym (take-append-drop n xs)) ∙ append_assoc (take n xs) (drop n xs) ys
