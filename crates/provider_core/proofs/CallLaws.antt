-- Two calls one after the other.
use Rattle.std.proofs.Common.{◌≡◌, ℕ, subst, ◌∙◌}
use Rattle.std.specs.Prelude.{Result, Ok, Err, OnOk}
use Rattle.provider_core.specs.Calls.{Reads}
use Rattle.provider_core.specs.Stores.{CountsFaults}
use Rattle.provider_core.specs.declared.registry.Registry.{Ghosts}

counts-on : {U F : Type 0} (counts : ℕ → ℕ → F → Type 0) (old middle new : ℕ) (result : Result U F) → middle ≡ old → CountsFaults counts middle new result → CountsFaults counts old new result
counts-on counts old middle new result same counted = subst (λ (n : ℕ). CountsFaults counts n new result) same counted

-- a call that only reads, after another that read and succeeded
pub reads-on : {R T U F G : Type 0} (g : Ghosts R) {first_counts : ℕ → ℕ → F → Type 0} {counts : ℕ → ℕ → G → Type 0} {old middle new : R} {value : T} {result : Result U G}
    → Reads g first_counts old middle (Ok value) → Reads g counts middle new result → Reads g counts old new result
reads-on g {counts} {old} {middle} {new} {result} one two = record {
  was = λ faithful. one.was (two.was faithful);
  same = λ faithful. two.same faithful ∙ one.same (two.was faithful);
  honest = λ honest. one.honest (two.honest honest);
  opened = two.opened;
  stop = λ honest found holds. one.stop (two.honest honest) found (two.stop honest found holds);
  counted = counts-on counts (g.faults old) (g.faults middle) (g.faults new) result one.counted two.counted;
  unwritten = two.unwritten ∙ one.unwritten;
}

on-ok : {T F X : Type 0} (result : Result T F) → X → OnOk result X
on-ok (Ok value) x = x
on-ok (Err fault) x = tt

-- a call that read and succeeded, and then something without the store
pub reads-then : {R T U F G : Type 0} (g : Ghosts R) {first_counts : ℕ → ℕ → F → Type 0} {counts : ℕ → ℕ → G → Type 0} {old new : R} {value : T} {result : Result U G}
    → Reads g first_counts old new (Ok value) → ((faults : ℕ) → CountsFaults counts faults faults result) → Reads g counts old new result
reads-then g {counts} {old} {new} {result} reads after = record {
  was = reads.was;
  same = reads.same;
  honest = reads.honest;
  opened = λ honest. on-ok result (reads.opened honest);
  stop = reads.stop;
  counted = counts-on counts (g.faults old) (g.faults new) (g.faults new) result reads.counted (after (g.faults new));
  unwritten = reads.unwritten;
}

-- a call that read and succeeded, with another value
pub reads-as : {R T U F G : Type 0} (g : Ghosts R) {first_counts : ℕ → ℕ → F → Type 0} {counts : ℕ → ℕ → G → Type 0} {old new : R} {value : T} {other : U}
    → Reads g first_counts old new (Ok value) → Reads g counts old new (Ok other)
reads-as g reads = record {
  was = reads.was;
  same = reads.same;
  honest = reads.honest;
  opened = reads.opened;
  stop = reads.stop;
  counted = reads.counted;
  unwritten = reads.unwritten;
}
