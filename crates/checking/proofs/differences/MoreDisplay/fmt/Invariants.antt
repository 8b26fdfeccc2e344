use Rattle.std.proofs.Common.{take}
use Rattle.std.specs.Fmt.{HasWritten, IsPlainFormatter}
use Rattle.checking.specs.Lines.{more_text}
use Rattle.checking.proofs.differences.MoreDisplay.fmt.Given as goal

-- the addresses so far are printed
abbrev pub invariant-loop-email : goal.invariant-loop-email
invariant-loop-email g l = IsPlainFormatter l.initial.f
    → HasWritten g.W.Write.write_str_gives l.initial.f (more_text (take l.email-index l.email-items)) l.f
