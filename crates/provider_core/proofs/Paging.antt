-- The places of rows while a registry is read and written.
use Rattle.std.proofs.Common.{◌≡◌, ℕ, ◌+◌, ◌<◌, ◌≤◌, min, List, ◌++◌, length, take, drop, sym, ap, ◌∙◌, arith}
use Rattle.std.specs.Prelude.{Option, Some, None, Result, Ok, Err, OnOk, OnErr, map}
use Rattle.std.proofs.Math.Seq.{take-add}
use Rattle.std.proofs.lemmas.List.{take_all, take_min}
use Rattle.scim_resource.specs.Rows.{StoredRecord, ShownRecord, shown}
use Rattle.provider_core.specs.Calls.{Reads, Writes}
use Rattle.provider_core.specs.Listing.{Places, places_of, rows_at, AddsRows, AreOf, KeepsPlaces}
use Rattle.provider_core.specs.Rows.{with_row, IsNumberedFrom}
use Rattle.provider_core.specs.Stores.{CountsProviderFault, HoldsNumber}
use Rattle.provider_core.specs.declared.registry.Registry.{Ghosts}
use Rattle.provider_core.proofs.PlaceLaws.{places-kept}

-- the places of the rows before `after` were found
pub record IsFinding {R : Type 0} (g : Ghosts R) (all after : ℕ) (old new : R) (places : Places) : Type 0 where
  pub reads : Reads g CountsProviderFault old new (Ok (tt {0}))
  pub found : g.is_faithful new → length (g.rows old) ≤ all → places ≡ places_of (take after (g.rows old))

-- the rows at the first `done` places are on the page
pub record IsShowing {R : Type 0} (g : Ghosts R) (wanted : List ℕ) (done : ℕ) (old new : R) (start page : List ShownRecord) : Type 0 where
  pub reads : Reads g CountsProviderFault old new (Ok (tt {0}))
  pub within : done ≤ length wanted
  pub shows : g.is_faithful new → page ≡ start ++ map shown (rows_at (take done wanted) (g.rows old))
  pub numbered : g.is_faithful new → 0 < done → IsNumberedFrom 1 (g.rows old)

-- a number past all rows takes them all
past : (n m : ℕ) (xs : List StoredRecord) → length xs ≤ m → take (min n m) xs ≡ take n xs
past n m xs short =
    let same : min (min n m) (length xs) ≡ min n (length xs) = omega arith in
    sym (take_min (min n m) xs) ∙ ap (λ k. take k xs) same ∙ take_min n xs

-- some rows more
pub finds-further : (most all after more : ℕ) (rows : List StoredRecord) (middle new : Places) → all ≤ most → length rows ≤ all
    → middle ≡ places_of (take after rows) → AddsRows (take more (drop after rows)) middle new → new ≡ places_of (take (min (after + more) most) rows)
finds-further most all after more rows middle new within short before page =
    page (take after rows) before ∙ ap places_of (sym (past (after + more) most rows (omega arith) ∙ take-add after more rows))

-- all rows
pub finds-all : (all after : ℕ) (rows : List StoredRecord) (places : Places) → all ≤ after → length rows ≤ all → places ≡ places_of (take after rows) → places ≡ places_of rows
finds-all all after rows places end short found = found ∙ ap places_of (take_all after rows (omega arith))

-- ---- what is kept

same-of : (places : Option Places) (old new : List StoredRecord) → places_of new ≡ places_of old → AreOf places old → AreOf places new
same-of None old new same are = tt
same-of (Some places) old new same are = are ∙ sym same

either-way : {T F : Type 0} (result : Result T F) (old new later : List StoredRecord) → places_of later ≡ places_of old → OnOk result (new ≡ later) → OnErr result (new ≡ old) → places_of new ≡ places_of old
either-way (Ok value) old new later same done failed = ap places_of done ∙ same
either-way (Err fault) old new later same done failed = ap places_of failed

-- a row that replaces the one of its number keeps the places
pub kept_update : {R T F : Type 0} {g : Ghosts R} {counts : ℕ → ℕ → F → Type 0} {old new : R} {result : Result T F} {places : Option Places} (row : StoredRecord)
    → (g.is_faithful old → HoldsNumber (g.rows old) row)
    → Writes g counts old new (with_row row (g.rows old)) result → KeepsPlaces g old places → KeepsPlaces g new places
kept_update {g} {old} {new} {result} {places} row holds writes kept = record {
  are = λ faithful.
      let was = writes.was faithful in
      same-of places (g.rows old) (g.rows new) (either-way result (g.rows old) (g.rows new) (with_row row (g.rows old)) (places-kept (g.rows old) row (holds was)) (writes.done faithful) (writes.same faithful)) (kept.are was);
}
