-- Some rows more are shown.
use Rattle.std.proofs.Common.{◌≡◌, ℕ, ◌+◌, ◌≤◌, List, [], ◌++◌, Option, Some, None, Result, Err, IfErr, length, take, drop, min, sym, ap, subst, ◌∙◌, refl, arith, append_assoc, append-nil}
use Rattle.std.proofs.lemmas.Grind.{flat_map-append}
use Rattle.std.proofs.Math.Seq.{take-add}
use Rattle.std.proofs.lemmas.List.{take_all, take_min}
use Rattle.std.specs.Io.KnownBytes.{Appends}
use Rattle.scim_resource.specs.Rows.{StoredRecord}
use Rattle.provider_core.specs.declared.registry.Registry.{Ghosts}
use Rattle.storage.specs.StoreLines.{row_line, lines_of}
use Rattle.storage.specs.ShowFaults.{IsOfStore}
use Rattle.storage.specs.StoreShowing.{ReadsOn}
use Rattle.storage.specs.declared.show_fault.ShowFault.{ShowFault}
use Rattle.storage.specs.declared.show_fault.ShowFault.TheVariants.{NoStore}

pub appends_nothing : (known : Option (List ℕ)) → Appends known known []
appends_nothing None = tt
appends_nothing (Some xs) = sym (append-nil xs)

pub appends_more : (old between new : Option (List ℕ)) (xs ys : List ℕ) → Appends old between xs → Appends between new ys → Appends old new (xs ++ ys)
appends_more None between new xs ys a b = tt
appends_more (Some o) None new xs ys a b = absurd a
appends_more (Some o) (Some m) None xs ys a b = absurd b
appends_more (Some o) (Some m) (Some n) xs ys a b = b ∙ ap (λ t. t ++ ys) a ∙ append_assoc o xs ys

-- the rows before `after` are shown
pub record IsShowing {R : Type 0} (g : Ghosts R) (before now : Option (List ℕ)) (all after : ℕ) (old new : R) : Type 0 where
  pub reads : ReadsOn g old new
  pub shown : g.is_faithful new → length (g.rows old) ≤ all → Appends before now (lines_of (take after (g.rows old)))

-- a number past all rows takes them all
past : (n m : ℕ) (xs : List StoredRecord) → length xs ≤ m → take (min n m) xs ≡ take n xs
past n m xs short =
    let same : min (min n m) (length xs) ≡ min n (length xs) = omega arith in
    sym (take_min (min n m) xs) ∙ ap (λ k. take k xs) same ∙ take_min n xs

module _ {R : Type 0} (g : Ghosts R) where
  pub none_shown : (known : Option (List ℕ)) (all : ℕ) (r : R) → IsShowing g known known all 0 r r
  none_shown known all r = record {
    reads = record { was = λ faithful. faithful; same = λ faithful. refl };
    shown = λ faithful short. appends_nothing known;
  }

  pub more_shown : (most all after more next : ℕ) (before middle now : Option (List ℕ)) (old between new : R) → all ≤ most → next ≡ min (after + more) most
      → IsShowing g before middle all after old between
      → ReadsOn g between new
      → (g.is_faithful new → Appends middle now (lines_of (take more (drop after (g.rows between)))))
      → IsShowing g before now all next old new
  more_shown most all after more next before middle now old between new within is so_far reads page = record {
    reads = record {
      was = λ faithful. so_far.reads.was (reads.was faithful);
      same = λ faithful. reads.same faithful ∙ so_far.reads.same (reads.was faithful);
    };
    shown = λ faithful short.
        let rows = g.rows old in
        let earlier = reads.was faithful in
        let parts : take next rows ≡ take after rows ++ take more (drop after rows) = ap (λ n. take n rows) is ∙ past (after + more) most rows (omega arith) ∙ take-add after more rows in
        let lines : lines_of (take next rows) ≡ lines_of (take after rows) ++ lines_of (take more (drop after rows)) =
        ap lines_of parts ∙ flat_map-append row_line (take after rows) (take more (drop after rows)) in
        let written = subst (λ (all_rows : List StoredRecord). Appends middle now (lines_of (take more (drop after all_rows)))) (so_far.reads.same earlier) (page faithful) in
        subst (Appends before now) (sym lines) (appends_more before middle now (lines_of (take after rows)) (lines_of (take more (drop after rows))) (so_far.shown earlier short) written);
  }

  pub all_shown : (all after : ℕ) (before now : Option (List ℕ)) (first old new : R) → all ≤ after
      → (g.is_faithful old → all ≡ length (g.rows first)) → (g.is_faithful old → g.rows old ≡ g.rows first)
      → IsShowing g before now all after old new
      → g.is_faithful new → Appends before now (lines_of (g.rows first))
  all_shown all after before now first old new end counted same showing faithful =
      let earlier = showing.reads.was faithful in
      let is = same earlier in
      let count = counted earlier in
      let short : length (g.rows old) ≤ all = omega (arith, count, ap length is) in
      subst (Appends before now) (ap lines_of (take_all after (g.rows old) (omega arith) ∙ is)) (showing.shown faithful short)

-- a fault of a store that was there isn't that there is none
pub never_missing : (missing : Type 0) (shown : Result (Unit {0}) ShowFault) → IfErr shown IsOfStore → shown ≡ Err NoStore → missing
never_missing missing shown there is = absurd (subst (λ (r : Result (Unit {0}) ShowFault). IfErr r IsOfStore) is there)
