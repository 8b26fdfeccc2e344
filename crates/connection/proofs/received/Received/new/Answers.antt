use Rattle.std.proofs.Common.{List, ℕ, ap, sym, subst}
use Rattle.connection.specs.Arriving.{AreUndecided}
use Rattle.connection.specs.Lines.{lines_after}
use Rattle.connection.specs.declared.lines.HeadLines.TheVariants.{Blank}
use Rattle.connection.proofs.ArrivingLemmas.{none_read}
use Rattle.connection.proofs.received.Received.new.Goals as goal

pub invariant_of-result : goal.invariant_of-result
invariant_of-result c = record {
  undecided = ∣ subst (λ (t : List ℕ). AreUndecided t 0) (sym c.new.ensures.items) none_read ∣₁;
  length = ∣ tt ∣₁;
  followed = ap (lines_after Blank) (sym c.new.ensures.items);
}
