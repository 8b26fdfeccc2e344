-- Whose search is next.
use Rattle.std.proofs.Common.{◌≡◌, ◌+◌, ◌<◌, ◌≤◌, ◌++◌, ◌∷◌, [], ℕ, Bool, true, false, if◌then◌else◌, List, length, inl, inr, sym, subst, slice_index_or, arith}
use Rattle.std.proofs.lemmas.Bool.{cases_lt}
use Rattle.std.specs.Bool.{OnTrue}
use Rattle.std.specs.declared.net.ip_addr.IpAddr.{IpAddr}
use Rattle.connection.specs.declared.held.Held.{Held}
use Rattle.connection.specs.declared.searches.Searches.{Searches}
use Rattle.connection.specs.Searches.{Adds, IsNext, served_of}

module _ {S : Type 0} (waiting : List (Held S)) (served : List IpAddr) where
  -- of those before the place, the one that was found is next
  pub record NextSoFar (place found fewest : ℕ) : Type 0 where
    pub there : found < length waiting
    pub is : (d : Held S) → fewest ≡ served_of served (slice_index_or waiting found d)
    pub least : (n : ℕ) (d : Held S) → n < place → fewest ≤ served_of served (slice_index_or waiting n d)
    pub first : (n : ℕ) (d : Held S) → n < found → fewest < served_of served (slice_index_or waiting n d)

  module _ (place found fewest : ℕ) (so_far : NextSoFar place found fewest) (count : ℕ)
      (is : (d : Held S) → count ≡ served_of served (slice_index_or waiting place d)) where
    -- fewer of the one at the place were served
    pub next_is_this : place < length waiting → count < fewest → NextSoFar (place + 1) place count
    next_is_this there fewer = record {
      there = there;
      is = is;
      least = λ n d below. elim (cases_lt n place) [
        | inl earlier ↦ let least = so_far.least n d earlier in omega (arith, least, fewer)
        | inr later ↦
            let here : n ≡ place = omega (arith, below, later) in
            subst (λ (k : ℕ). count ≤ served_of served (slice_index_or waiting k d)) (sym here)
            (let it = is d in omega (arith, it))
      ];
      first = λ n d before. let least = so_far.least n d before in omega (arith, least, fewer);
    }

    -- no fewer were
    pub next_is_that : fewest ≤ count → NextSoFar (place + 1) found fewest
    next_is_that no_fewer = record {
      there = so_far.there;
      is = so_far.is;
      least = λ n d below. elim (cases_lt n place) [
        | inl earlier ↦ so_far.least n d earlier
        | inr later ↦
            let here : n ≡ place = omega (arith, below, later) in
            subst (λ (k : ℕ). fewest ≤ served_of served (slice_index_or waiting k d)) (sym here)
            (let it = is d in omega (arith, it, no_fewer))
      ];
      first = so_far.first;
    }

  -- the first one is next so far
  pub next_is_first : (fewest : ℕ) → 0 < length waiting
      → ((d : Held S) → fewest ≡ served_of served (slice_index_or waiting 0 d)) → NextSoFar 1 0 fewest
  next_is_first fewest there is = record {
    there = there;
    is = is;
    least = λ n d below.
        let here : n ≡ 0 = omega (arith, below) in
        subst (λ (k : ℕ). fewest ≤ served_of served (slice_index_or waiting k d)) (sym here)
        (let it = is d in omega (arith, it));
    first = λ n d before. absurd (omega (arith, before));
  }

  pub next_of_all : (place found fewest : ℕ) → length waiting ≤ place → NextSoFar place found fewest
      → IsNext waiting served found
  next_of_all place found fewest all so_far = record {
    there = so_far.there;
    fewest = λ n d below.
        let least = so_far.least n d (omega (arith, all, below)) in
        let it = so_far.is d in
        omega (arith, least, it);
    first = λ n d before.
        let first = so_far.first n d before in
        let it = so_far.is d in
        omega (arith, first, it);
  }

-- a connection was added behind the others, if it was added
pub added : {S : Type 0} (held last : Held S) (old new : Searches S) (is_added : Bool)
    → new.waiting.items ≡ (if is_added then old.waiting.items ++ last ∷ [] else old.waiting.items)
    → last.number ≡ held.number → last.peer ≡ held.peer → last.received.bytes.items ≡ held.received.bytes.items
    → new.served ≡ old.served → OnTrue is_added (Adds held old new)
added held last old new true are number peer bytes served =
    record { last = last; are = are; number = number; peer = peer; bytes = bytes; served = served }
added held last old new false are number peer bytes served = tt
