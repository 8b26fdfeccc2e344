-- Runs of whatever leads from one state of a world to the next: an event, an act, or a turn of several connectors.
use Rattle.std.specs.Prelude.{◌≡◌, List, [], ◌∷◌, ◌++◌}
use Rattle.world_sim.specs.declared.reports.WorldFault.{WorldFault}

-- A run makes transitions one after the other, with their reports: none, or one more after a run
pub record AreRuns {W D T : Type 0} (makes : W → W → D → T → Type 0) (runs : W → W → List D → List T → Type 0)
    : Type 0 where
  pub none : (w : W) → runs w w [] []
  pub more : (old mid new : W) (early : List D) (next : D) (reports : List T) (report : T)
      → runs old mid early reports → makes mid new next report → runs old new (early ++ next ∷ []) (reports ++ report ∷ [])

-- the transitions before one were made, and that one failed
pub record FailsAfter {W D T : Type 0} (leads : W → W → List D → List T → Type 0)
    (breaks : W → W → D → WorldFault → Type 0) (first : W) (all : List D) (fault : WorldFault) : Type 0 where
  pub last : W
  pub left : W
  pub early : List D
  pub failed : D
  pub late : List D
  pub reports : List T
  pub split : all ≡ early ++ failed ∷ late
  pub runs : leads first last early reports
  pub fails : breaks last left failed fault
