use Rattle.std.proofs.Common.{◌≡◌, ◌∙◌, ◌++◌, ◌∷◌, [], ap, Ok}
use Rattle.scim_message.proofs.Pages.{reads_one, reads_none}
use Rattle.scim_message.proofs.answers.page_of.Goals as goal
use Rattle.scim_message.proofs.answers.page_of.Goals.{in-Some+in_ok-push, in_default}

pub loop-item-preserved : goal.loop-item-preserved
loop-item-preserved c =
    let kind = c.args.kind in
    let vs = c.args.items.now in
    let i = c.loop-item.item-index in
    let v = c.item-item.result in
    let xs = c.loop-item.page.items in
    elim c.match-branch-2.branch [
      | in-Some+in_ok-push w ↦
          let s = w.in-Some.shown in
          let more : c.match-branch-2.page.items ≡ xs ++ s ∷ [] = ap (λ x. x.items) w.page-is ∙ w.in_ok-push.ensures.items in
          let read = c.in_ok-shown.ensures ∙ ap Ok w.in-Some.is in
          rw more (reads_one kind vs i v xs s _ c.loop-item-test.true c.item-item.is read c.loop-item.invariant)
      | in_default w ↦
          let same : c.match-branch-2.page.items ≡ xs = ap (λ x. x.items) w.page-is in
          let read = c.in_ok-shown.ensures ∙ ap Ok w.in_default.is in
          rw same (reads_none kind vs i v xs _ c.loop-item-test.true c.item-item.is read c.loop-item.invariant)
    ]
