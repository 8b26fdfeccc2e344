-- The rows of a record rise: each is the last one, or of a lower revision.
use Rattle.std.proofs.Common.{◌≡◌, ℕ, zero, suc, List, [], ◌∷◌, Some, None, ◌⊎◌, inl, inr, subst}
use Rattle.std.specs.List.{AllByRecursion, last_or}
use Rattle.scim_key.specs.Revisions.{RevisionValue, ◌≺◌}
use Rattle.source_csv.specs.Records.{row_revision}
use Rattle.source_csv.specs.declared.rows.Row.{Row}
use Rattle.connector_core.specs.History.{Rises}
use Rattle.world_model.specs.Safe.{IsAt}
use Rattle.world_model.proofs.Lists.{last_has}

above_all : (r : RevisionValue) (rows : List Row) (i : ℕ) (row : Row) → AllByRecursion (λ later. r ≺ row_revision later) rows → IsAt rows i row → r ≺ row_revision row
above_all r [] i row all at = absurd (cc)
above_all r (s ∷ rows) zero row all at = let same : s ≡ row = cc in subst (λ (x : Row). r ≺ row_revision x) same all.0
above_all r (s ∷ rows) (suc i) row all at = above_all r rows i row all.1 at

-- each row of a record is the last, or of a lower revision
pub last_or_below : (rows : List Row) (i : ℕ) (row last : Row) → Rises rows → IsAt rows i row → last_or None rows ≡ Some last → (row ≡ last) ⊎ (row_revision row ≺ row_revision last)
last_or_below [] i row last rises at is = absurd (cc)
last_or_below (r ∷ []) zero row last rises at is = inl (cc)
last_or_below (r ∷ []) (suc i) row last rises at is = absurd (cc)
last_or_below (r ∷ s ∷ rows) zero row last rises at is =
    let same : r ≡ row = cc in
    let there = last_has (s ∷ rows) last is in
    inr (subst (λ (x : Row). row_revision x ≺ row_revision last) same (above_all (row_revision r) (s ∷ rows) there.0 last rises.0 there.1))
last_or_below (r ∷ s ∷ rows) (suc i) row last rises at is = last_or_below (s ∷ rows) i row last rises.1 at is
