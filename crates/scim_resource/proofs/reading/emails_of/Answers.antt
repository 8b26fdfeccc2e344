use Rattle.std.proofs.Common.{◌≡◌, ◌∙◌, ◌++◌, ◌∷◌, [], ap, Ok}
use Rattle.scim_resource.proofs.EmailLists.{reads_one, reads_none, AreEmails-push}
use Rattle.scim_resource.proofs.reading.emails_of.Goals as goal
use Rattle.scim_resource.proofs.reading.emails_of.Goals.{in-Some+in_ok-push, in_default}

pub loop-item-preserved : goal.loop-item-preserved
loop-item-preserved c =
    let vs = c.args.items.now in
    let i = c.loop-item.item-index in
    let v = c.item-item.result in
    let xs = c.loop-item.emails.items in
    elim c.match-branch-3.branch [
      | in-Some+in_ok-push w ↦
          let e = w.in-Some.email in
          let more : c.match-branch-3.emails.items ≡ xs ++ e ∷ [] = ap (λ x. x.items) w.emails-is ∙ w.in_ok-push.ensures.items in
          let is_email = rw w.in-Some.is at c.in_ok-email.ensures.lawful in
          let read = c.in_ok-email.ensures.given ∙ ap Ok w.in-Some.is in
          rw more
          (record {
            so_far = reads_one vs i v xs e _ c.loop-item-test.true c.item-item.is read c.loop-item.invariant.so_far;
            lawful = AreEmails-push xs e c.loop-item.invariant.lawful is_email;
          })
      | in_default w ↦
          let same : c.match-branch-3.emails.items ≡ xs = ap (λ x. x.items) w.emails-is in
          let read = c.in_ok-email.ensures.given ∙ ap Ok w.in_default.is in
          rw same
          (record {
            so_far = reads_none vs i v xs _ c.loop-item-test.true c.item-item.is read c.loop-item.invariant.so_far;
            lawful = c.loop-item.invariant.lawful;
          })
    ]
