use Rattle.std.proofs.Common.{◌≡◌, take}
use Rattle.connection.specs.Lines as spec
use Rattle.connection.specs.declared.lines.HeadLines.TheVariants.{Blank}
use Rattle.connection.proofs.lines.line_ends.Given as goal

-- only line ends so far
abbrev pub invariant-loop-place : goal.invariant-loop-place
invariant-loop-place l = spec.lines_after Blank (take l.place l.bytes) ≡ Blank
