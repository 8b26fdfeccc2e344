use Rattle.std.proofs.Common.{take}
use Rattle.std.specs.Fmt.{HasWritten, IsPlainFormatter}
use Rattle.journal_core.specs.Printable.{printable_text}
use Rattle.journal_core.proofs.printable.PrintableDisplay.fmt.Given as goal

-- the bytes so far are printed
abbrev pub invariant-loop-byte : goal.invariant-loop-byte
invariant-loop-byte g l = IsPlainFormatter l.initial.f
    → HasWritten g.W.Write.write_str_gives l.initial.f (printable_text (take l.byte-index l.byte-items)) l.f
