use Rattle.std.proofs.Common.{◌∙◌, arith}
use Rattle.scim_version.proofs.Parts.{unread-start, unread-quote, unread-other, unread-inside, unread-comma, unread-end}
use Rattle.scim_version.proofs.lists.elements_of.Goals as goal
use Rattle.scim_version.proofs.lists.elements_of.Goals.{then-byte-eq34, else-byte-eq34+then-byte-eq44+then-not-quoted+in_ok-push_part, else-byte-eq34+else-byte-eq44, else-byte-eq44-via-then-byte-eq44+else-not-quoted, else-byte-eq44-via-else-byte-eq44}

pub loop-i-init : goal.loop-i-init
loop-i-init c = record { begun = omega arith; all = rw c.new-found.ensures.items (unread-start c.args.text.now) }

pub loop-i-preserved : goal.loop-i-preserved
loop-i-preserved c =
    let begun = c.loop-i.invariant.begun in
    let inside = c.loop-i-test.true in
    elim c.if-byte-eq34.branch [
      | then-byte-eq34 w ↦ rw (w.found-is, w.start-is, w.quoted-is) (record {
        begun = omega arith;
        all = unread-quote _ _ _ _ _ begun inside w.if-byte-eq34.true ∙ c.loop-i.invariant.all;
      })
      | else-byte-eq34+then-byte-eq44+then-not-quoted+in_ok-push_part w ↦ rw (w.found-is, w.start-is, w.quoted-is) (record {
        begun = omega arith;
        all = rw w.in_ok-push_part.ensures (unread-comma _ _ _ _ _ inside w.if-byte-eq44.true w.if-not-quoted.true ∙ c.loop-i.invariant.all);
      })
      | else-byte-eq34+else-byte-eq44 w ↦ rw (w.found-is, w.start-is, w.quoted-is) (elim w.else-byte-eq44.branch [
        | else-byte-eq44-via-then-byte-eq44+else-not-quoted v ↦ record {
          begun = omega arith;
          all = unread-inside _ _ _ _ _ begun inside w.if-byte-eq34.false v.if-not-quoted.false ∙ c.loop-i.invariant.all;
        }
        | else-byte-eq44-via-else-byte-eq44 v ↦ record {
          begun = omega arith;
          all = unread-other _ _ _ _ _ begun inside w.if-byte-eq34.false v.if-byte-eq44.false ∙ c.loop-i.invariant.all;
        }
      ])
    ]

pub returns : goal.returns
returns c = rw c.in_ok-push_part-2.ensures (unread-end _ c.args.text.now c.loop-i.start c.loop-i.i c.loop-i.quoted (omega arith) ∙ c.loop-i.invariant.all)
