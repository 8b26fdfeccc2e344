use Rattle.std.proofs.Common.{take}
use Rattle.std.specs.Fmt.{HasWritten, IsPlainFormatter}
use Rattle.provisioning.specs.Changes.{more_text}
use Rattle.provisioning.proofs.changes.MoreDisplay.fmt.Given as goal

-- the columns so far are printed
abbrev pub invariant-loop-column : goal.invariant-loop-column
invariant-loop-column g l = IsPlainFormatter l.initial.f
    → HasWritten g.W.Write.write_str_gives l.initial.f (more_text (take l.column-index l.column-items)) l.f
