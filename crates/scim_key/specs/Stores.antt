-- What a call of any store keeps, what a stop of the program may leave, and which faults the store counts.
use Rattle.std.specs.Prelude.{◌≡◌, ◌⊎◌, ℕ, ◌+◌, ◌-◌, ◌^◌, ◌<◌, ◌≤◌, Result, OnOk, OnErr, MatchResult}
use Rattle.scim_key.specs.declared.stores.StoreFault.{StoreFault}
use Rattle.scim_key.specs.declared.stores.StoreFault.TheVariants.{Store, Memory}

-- ---- counts

-- a count rose, or has reached its greatest value
abbrev pub HasRisen : ℕ → ℕ → Type 0
HasRisen old new = (old < new) ⊎ (2 ^ 64 - 1 ≤ new)

-- a fault of the store is counted; out of memory isn't
abbrev pub CountsFault : (old new : ℕ) → StoreFault → Type 0
CountsFault old new Store = (old ≤ new) × HasRisen old new
CountsFault old new Memory = new ≡ old

-- if a call succeeds, the count of faults stays
abbrev pub CountsFaults : {T F : Type 0} → (counts : ℕ → ℕ → F → Type 0) → (old new : ℕ) → Result T F → Type 0
CountsFaults counts old new result = MatchResult result (λ _. new ≡ old) (λ fault. counts old new fault)

-- ---- stops

-- whatever a stop may leave now, it could have left before the call
abbrev pub LeavesNoMore : {C : Type 0} → (old new : C → Type 0) → Type 0
LeavesNoMore {C} old new = (found : C) → new found → old found

-- the same, or a stop may leave this
abbrev pub LeavesOr : {C : Type 0} → (old new also : C → Type 0) → Type 0
LeavesOr {C} old new also = (found : C) → new found → old found ⊎ also found

-- ---- calls

-- A call that only reads. The contents stay, nothing is written, and the call succeeds only if the store is open
pub record OnlyReads {S C T F : Type 0} (held : S → C) (is_faithful is_honest : S → Type 0)
    (may_hold : S → C → Type 0) (faults writes : S → ℕ) (counts : ℕ → ℕ → F → Type 0) (old new : S)
    (result : Result T F) : Type 0 where
  pub was : is_faithful new → is_faithful old
  pub same : is_faithful new → held new ≡ held old
  pub honest : is_honest new → is_honest old
  pub opened : is_honest new → OnOk result (is_faithful new)
  pub stop : is_honest new → LeavesNoMore (may_hold old) (may_hold new)
  pub counted : CountsFaults counts (faults old) (faults new) result
  pub unwritten : writes new ≡ writes old

-- A call that changes the contents to `later` by one write at most. If the call succeeds, the store holds `later`; if
-- it fails, the contents stay. A stop during the call leaves the old contents or the new
pub record WritesOnce {S C T F : Type 0} (held : S → C) (is_faithful is_honest : S → Type 0)
    (may_hold : S → C → Type 0) (faults writes : S → ℕ) (counts : ℕ → ℕ → F → Type 0) (old new : S)
    (later : C) (result : Result T F) : Type 0 where
  pub was : is_faithful new → is_faithful old
  pub done : is_faithful new → OnOk result (held new ≡ later)
  pub same : is_faithful new → OnErr result (held new ≡ held old)
  pub honest : is_honest new → is_honest old
  pub stop : is_honest new → LeavesOr (may_hold old) (may_hold new) (λ found. is_faithful old × (found ≡ later))
  pub counted : CountsFaults counts (faults old) (faults new) result
  pub written : writes new ≤ writes old + 1
  pub unwritten : OnErr result (writes new ≡ writes old)

-- A call that opens the store again. The store then holds what a stop may have left, and nothing is written
pub record Reopens {S C T F : Type 0} (held : S → C) (is_faithful is_honest : S → Type 0)
    (may_hold : S → C → Type 0) (faults writes : S → ℕ) (counts : ℕ → ℕ → F → Type 0) (old new : S)
    (result : Result T F) : Type 0 where
  pub found : is_honest new → OnOk result (may_hold old (held new))
  pub honest : is_honest new → is_honest old
  pub opened : is_honest new → OnOk result (is_faithful new)
  pub stop : is_honest new → LeavesNoMore (may_hold old) (may_hold new)
  pub counted : CountsFaults counts (faults old) (faults new) result
  pub unwritten : writes new ≡ writes old

-- what every call keeps: if the store returns what was committed now, it did so before, and no count falls
pub record IsQuiet {S : Type 0} (is_faithful : S → Type 0) (faults : S → ℕ) (old new : S) : Type 0 where
  pub was : is_faithful new → is_faithful old
  pub counts : faults old ≤ faults new
