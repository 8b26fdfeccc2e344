-- The memory that requests take which aren't whole.
use Rattle.std.specs.Prelude.{◌≤◌, ◌<◌, ℕ, List, length, vec_capacity}
use Rattle.std.specs.List.{slice_index_or, sum_by}
use Rattle.connection.specs.declared.held.Held.{Held}

-- how many bytes of memory a request takes
abbrev pub size_of : {S : Type 0} → Held S → ℕ
size_of held = vec_capacity held.received.bytes

-- how many the requests of these connections take
abbrev pub memory_of : {S : Type 0} → List (Held S) → ℕ
memory_of connections = sum_by (λ held. size_of held) connections

-- none of these requests takes more than so much
abbrev pub AreWithin : {S : Type 0} → (most : ℕ) → List (Held S) → Type 0
AreWithin most connections = (n : ℕ) (d : Held _) → n < length connections
    → size_of (slice_index_or connections n d) ≤ most
