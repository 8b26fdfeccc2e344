use Rattle.std.proofs.Common.{refl}
use Rattle.commands.proofs.ImageLemmas.{took}
use Rattle.source_csv.proofs.StreamLemmas.{takes_none}
use Rattle.commands.proofs.images.print_next.Goals as goal

pub returns-then-not-branch-clause-prints : goal.returns-then-not-branch-clause-prints
returns-then-not-branch-clause-prints g c =
    let after = c.read_next.new.self in
    (refl, λ records left. takes_none c.in_ok-read_next.field-0 after.fields after.config after.remaining after.state records c.if-not-branch.true (c.in_ok-read_next.ensures.records records left))

pub returns-clause-prints : goal.returns-clause-prints
returns-clause-prints g c =
    let read = c.in_ok-read_next.ensures in (
      c.in_ok-row.row,
      c.is_ok-is_row.ensures.value,
      c.in_ok-write_record.ensures,
      λ records left. took c.args.rows.now c.read_next.new.self c.row.new.self c.in_ok-read_next.field-0 c.in_ok-row.row records c.if-not-branch.false read.kind read.columns read.place c.in_ok-row.ensures.rest c.in_ok-row.ensures.row (read.records records left),
    )
