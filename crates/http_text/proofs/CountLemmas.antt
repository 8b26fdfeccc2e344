-- Counting up.
use Rattle.std.proofs.Common.{◌≡◌, ℕ, ◌+◌, ◌<◌, arith, inl, inr}
use Rattle.std.proofs.lemmas.Bool.Decides.{leb_tells}
use Rattle.http_text.specs.Counts.{greatest_count, count_up, HasRisen, HasReached}

pub count_up-then : (n a b : ℕ) → count_up (count_up n a) b ≡ count_up n (a + b)
count_up-then n a b = omega arith

pub count_up-zero : (n : ℕ) → count_up n 0 ≡ n
count_up-zero n = omega arith

-- a count that rises by one has risen, unless no count rises there
pub HasRisen-count_up : (n : ℕ) → HasRisen n (count_up n 1)
HasRisen-count_up n = elim (leb_tells greatest_count n) [ inl at_end ↦ inr at_end.1 | inr below ↦ inl (let room : n < greatest_count = below.1 in omega arith) ]

pub HasReached-count_up : (k n : ℕ) → HasReached k n (count_up n k)
HasReached-count_up k n = elim (leb_tells greatest_count (count_up n k)) [ inl at_end ↦ inr at_end.1 | inr below ↦ inl (let room : count_up n k < greatest_count = below.1 in omega arith) ]
