use Rattle.std.proofs.Common.{◌∙◌, Ok, ap, refl, sym}
use Rattle.std.proofs.lemmas.List.{append-nil}
use Rattle.source_csv.proofs.files.rest_of.Goals as goal

pub loop-init : goal.loop-init
loop-init c all has = (all, has, rw c.new-records.ensures.items refl, rw c.new-multiline.ensures.items refl)

pub loop-preserved : goal.loop-preserved
loop-preserved c all first =
    let (left, has, same, marked) = c.loop.invariant all first in
    let (rest, more, next, marks) = rw c.if-not-branch.false at (c.in_ok-add_next.ensures.adds left has) in
    (rest, more, same ∙ next, marked ∙ marks)

pub returns-then-not-branch-clause-records : goal.returns-then-not-branch-clause-records
returns-then-not-branch-clause-records c all first =
    let (left, has, same, marked) = c.loop.invariant all first in
    let (none, kept, marks) = rw c.if-not-branch.true at (c.in_ok-add_next.ensures.adds left has) in
    ap Ok (same ∙ rw (none, kept) (append-nil _))

pub returns-then-not-branch-clause-multiline : goal.returns-then-not-branch-clause-multiline
returns-then-not-branch-clause-multiline c all first =
    let (left, has, same, marked) = c.loop.invariant all first in
    let (none, kept, marks) = rw c.if-not-branch.true at (c.in_ok-add_next.ensures.adds left has) in
    sym (marked ∙ rw (none, marks) (append-nil _))
