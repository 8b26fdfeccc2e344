use Rattle.std.proofs.Common.{◌≡◌, ◌+◌, ◌≤◌, drop}
use Rattle.source_csv.specs.Lines.{field_lines, line_ends}
use Rattle.source_csv.proofs.line_counts.field_lines.Given as goal

-- the lines so far, with the line ends of the remaining bytes
abbrev pub invariant-loop-byte : goal.invariant-loop-byte
invariant-loop-byte l =
    (l.lines + line_ends l.after_return (drop l.byte-index l.field) ≡ field_lines l.field)
    × (l.lines ≤ l.byte-index + 1)
