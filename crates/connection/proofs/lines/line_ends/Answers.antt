use Rattle.std.proofs.Common.{inl, inr, ◌≡◌, ◌⊎◌, get_or}
use Rattle.connection.proofs.LineLemmas.{blank_stays_by}
use Rattle.connection.proofs.lines.line_ends.Goals as goal
use Rattle.connection.proofs.lines.line_ends.Goals.{else-byte-ne10-via-then-byte-ne10+else-byte-ne13, else-byte-ne10-via-else-byte-ne10}

pub loop-place-preserved : goal.loop-place-preserved
loop-place-preserved c =
    let byte = get_or c.args.bytes.now c.loop-place.place 0 in
    let is : (byte ≡ 10) ⊎ (byte ≡ 13) = elim c.else-byte-ne10.branch [
      | else-byte-ne10-via-then-byte-ne10+else-byte-ne13 w ↦ inr w.if-byte-ne13.false
      | else-byte-ne10-via-else-byte-ne10 w ↦ inl w.if-byte-ne10.false
    ] in
    blank_stays_by c.args.bytes.now c.loop-place.place c.loop-place-test.true c.loop-place.invariant is
