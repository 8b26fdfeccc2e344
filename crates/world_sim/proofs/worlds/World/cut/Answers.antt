use Rattle.std.proofs.Common.{◌≡◌, ◌<◌, ◌≤◌, Some, None, length, take, refl, rules}
use Rattle.world_model.specs.World.{message_at}
use Rattle.world_sim.specs.Messages.{messages_of, says, text_at, texts_of}
use Rattle.world_model.specs.World.{Cuts}
use Rattle.world_sim.proofs.GoingOn.{on_all}
use Rattle.world_sim.proofs.Steps.{cuts_message, cuts_none, cuts_whole}
use Rattle.world_sim.proofs.worlds.World.cut.Goals as goal
use Rattle.world_sim.proofs.worlds.World.cut.Goals.{in_default-via-in-Some+else-length-len, in_default-via-in_default}

pub returns-in_ok-is_read-in-Some-clause-done : goal.returns-in_ok-is_read-in-Some-clause-done
returns-in_ok-is_read-in-Some-clause-done g c =
    let said : message_at (messages_of c.args.self.now.sent.items) c.args.number ≡ Some (says c.in-Some.sent.now.said) = search rules in
    let text : text_at (texts_of c.args.self.now.sent.items) c.args.number ≡ Some c.deref-in-Some.result.now = search rules in
    let less : c.args.length < length c.deref-in-Some.result.now = search rules in
    cuts_message g.R.Registry g.J.Journal c.args.self.now c.args.number c.args.length (says c.in-Some.sent.now.said) c.deref-in-Some.result.now (take c.args.length c.deref-in-Some.result.now) c.cut_short.result
    said text less refl (λ more some reads. c.cut_short.ensures (c.in_ok-is_read-in-Some.ensures more some reads))

pub returns-in_ok-is_read-in-Some-clause-goes_on : goal.returns-in_ok-is_read-in-Some-clause-goes_on
returns-in_ok-is_read-in-Some-clause-goes_on g c =
    let said : message_at (messages_of c.args.self.now.sent.items) c.args.number ≡ Some (says c.in-Some.sent.now.said) = search rules in
    let text : text_at (texts_of c.args.self.now.sent.items) c.args.number ≡ Some c.deref-in-Some.result.now = search rules in
    let less : c.args.length < length c.deref-in-Some.result.now = search rules in
    on_all g.R.Registry g.J.Journal c.args.self.now c.args.self.now (Cuts c.args.number c.args.length) _ (λ k l. cuts_message k l c.args.self.now c.args.number c.args.length (says c.in-Some.sent.now.said) c.deref-in-Some.result.now (take c.args.length c.deref-in-Some.result.now) c.cut_short.result
    said text less refl (λ more some reads. c.cut_short.ensures (c.in_ok-is_read-in-Some.ensures more some reads)))

pub returns-in_default-clause-done : goal.returns-in_default-clause-done
returns-in_default-clause-done g c = elim c.in_default.branch [
  | in_default-via-in-Some+else-length-len w ↦
      let said : message_at (messages_of c.args.self.now.sent.items) c.args.number ≡ Some (says w.in-Some.sent.now.said) = search rules in
      let text : text_at (texts_of c.args.self.now.sent.items) c.args.number ≡ Some w.in-Some.sent.now.bytes.items = search rules in
      let whole : length w.in-Some.sent.now.bytes.items ≤ c.args.length = search rules in
      cuts_whole g.R.Registry g.J.Journal c.args.self.now c.args.number c.args.length (says w.in-Some.sent.now.said) w.in-Some.sent.now.bytes.items _ said text whole refl
  | in_default-via-in_default w ↦
      let none : message_at (messages_of c.args.self.now.sent.items) c.args.number ≡ None = search rules in
      cuts_none g.R.Registry g.J.Journal c.args.self.now c.args.number c.args.length _ none refl
]

pub returns-in_default-clause-goes_on : goal.returns-in_default-clause-goes_on
returns-in_default-clause-goes_on g c = elim c.in_default.branch [
  | in_default-via-in-Some+else-length-len w ↦
      let said : message_at (messages_of c.args.self.now.sent.items) c.args.number ≡ Some (says w.in-Some.sent.now.said) = search rules in
      let text : text_at (texts_of c.args.self.now.sent.items) c.args.number ≡ Some w.in-Some.sent.now.bytes.items = search rules in
      let whole : length w.in-Some.sent.now.bytes.items ≤ c.args.length = search rules in
      on_all g.R.Registry g.J.Journal c.args.self.now c.args.self.now (Cuts c.args.number c.args.length) _ (λ k l. cuts_whole k l c.args.self.now c.args.number c.args.length (says w.in-Some.sent.now.said) w.in-Some.sent.now.bytes.items _ said text whole refl)
  | in_default-via-in_default w ↦
      let none : message_at (messages_of c.args.self.now.sent.items) c.args.number ≡ None = search rules in
      on_all g.R.Registry g.J.Journal c.args.self.now c.args.self.now (Cuts c.args.number c.args.length) _ (λ k l. cuts_none k l c.args.self.now c.args.number c.args.length _ none refl)
]
