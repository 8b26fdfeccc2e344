use Rattle.std.proofs.Common.{◌≡◌, ℕ, List, ◌++◌, drop, true}
use Rattle.std.specs.Fmt.{HasWritten, IsPlainFormatter}
use Rattle.checking.specs.Lines.{differences_text}
use Rattle.checking.proofs.differences.InAspectsDisplay.fmt.Given as goal

-- the differences so far are printed; those in the other aspects remain
abbrev pub invariant-loop-aspect : goal.invariant-loop-aspect
invariant-loop-aspect g l = IsPlainFormatter l.initial.f → (written : List ℕ)
    × HasWritten g.W.Write.write_str_gives l.initial.f written l.f
    × (differences_text l.self.wanted.now l.self.found.now true l.aspect-items
    ≡ written ++ differences_text l.self.wanted.now l.self.found.now l.is_first (drop l.aspect-index l.aspect-items))
