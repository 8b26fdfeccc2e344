use Rattle.std.proofs.Common.{◌≡◌, Some, Err, ap, refl, subst, rules}
use Rattle.world_model.specs.World.{Answered, Asked, Delivers, message_at}
use Rattle.world_sim.specs.Messages.{messages_of, text_at, texts_of}
use Rattle.world_sim.specs.Reading.{IsOrMemory}
use Rattle.world_sim.specs.declared.reading.ReadingFault.TheVariants.{Unread}
use Rattle.world_sim.proofs.Restarts.{fails_to_learn}
use Rattle.world_sim.proofs.Steps.{delivers_unread, fails_numbered, learns_told, request_told}
use Rattle.world_sim.proofs.GoingOn.{answer_reads, apart_connector, apart_provider, arrives_whole, delivers_unread_on, fails_on_learning, fails_on_request, fails_whole, learns_on, request_on, request_reads}
use Rattle.world_sim.proofs.Keeping.{all_err, known_still, on_err}
use Rattle.world_sim.specs.Running.{known_in}
use Rattle.world_sim.proofs.worlds.World.deliver.Goals as goal

pub returns-in-Ok-clause-done : goal.returns-in-Ok-clause-done
returns-in-Ok-clause-done g c =
    let said : message_at (messages_of c.args.self.now.sent.items) c.args.number ≡ Some (Asked c.in-Asked-2.field-0.request) = search rules in
    let text : text_at (texts_of c.args.self.now.sent.items) c.args.number ≡ Some c.deref-in-Asked-2.result.now = search rules in
    request_told g.R.Registry g.J.Journal c.args.self.now c.answer.new.self c.args.number c.in-Asked-2.field-0.request c.in-Ok.request c.deref-in-Asked-2.result.now c.answer.result
    said text c.in-Ok.ensures.only (arrives_whole g.R.Registry g.J.Journal c.args.self.now c.answer.new.self c.in-Ok.request c.answer.result c.answer.ensures.apart c.answer.ensures.done)

pub returns-in-Ok-clause-fails : goal.returns-in-Ok-clause-fails
returns-in-Ok-clause-fails g c =
    let said : message_at (messages_of c.args.self.now.sent.items) c.args.number ≡ Some (Asked c.in-Asked-2.field-0.request) = search rules in
    let text : text_at (texts_of c.args.self.now.sent.items) c.args.number ≡ Some c.deref-in-Asked-2.result.now = search rules in
    fails_numbered g.R.Registry g.J.Journal c.args.self.now c.answer.new.self c.args.number c.in-Asked-2.field-0.request c.in-Ok.request c.deref-in-Asked-2.result.now c.answer.result
    said text c.in-Ok.ensures.only (fails_whole g.R.Registry g.J.Journal c.args.self.now c.answer.new.self c.in-Ok.request c.answer.result c.answer.ensures.apart c.answer.ensures.fails)

pub returns-in-Err-Unread-clause-done : goal.returns-in-Err-Unread-clause-done
returns-in-Err-Unread-clause-done g c =
    let said : message_at (messages_of c.args.self.now.sent.items) c.args.number ≡ Some (Asked c.in-Asked-2.field-0.request) = search rules in
    let text : text_at (texts_of c.args.self.now.sent.items) c.args.number ≡ Some c.deref-in-Asked-2.result.now = search rules in
    let unread : c.in-Err-Unread.field-0 ≡ Unread = search rules in
    delivers_unread g.R.Registry g.J.Journal c.args.self.now c.args.number c.in-Asked-2.field-0.request c.deref-in-Asked-2.result.now _
    said text (λ request spells. subst (λ f. IsOrMemory request (Err f)) unread (c.in-Err-Unread.ensures.only request spells))

pub returns-in-Open-clause-done : goal.returns-in-Open-clause-done
returns-in-Open-clause-done g c =
    let sent : message_at (messages_of c.args.self.now.sent.items) c.args.number ≡ Some (Answered c.in-Answered.asked.request c.in-Answered.field-1) = search rules in
    let text : text_at (texts_of c.args.self.now.sent.items) c.args.number ≡ Some c.deref-in-Open.result.now = search rules in
    let heard = c.hear.ensures in
    learns_told g.R.Registry g.J.Journal c.args.self.now c.in-Open.connector c.hear.new.connector c.args.number c.in-Answered.asked.request c.in-Answered.field-1 c.deref-in-Open.result.now c.hear.result
    sent text c.in-Open.is heard.report heard.book heard.names heard.honest heard.open heard.leaves

pub returns-in-Open-clause-fails : goal.returns-in-Open-clause-fails
returns-in-Open-clause-fails g c =
    let sent : message_at (messages_of c.args.self.now.sent.items) c.args.number ≡ Some (Answered c.in-Answered.asked.request c.in-Answered.field-1) = search rules in
    let text : text_at (texts_of c.args.self.now.sent.items) c.args.number ≡ Some c.deref-in-Open.result.now = search rules in
    let heard = c.hear.ensures in
    fails_to_learn g.R.Registry g.J.Journal c.args.self.now c.in-Open.connector c.hear.new.connector c.args.number c.in-Answered.asked.request c.in-Answered.field-1 c.deref-in-Open.result.now c.hear.result
    sent text c.in-Open.is heard.same heard.honest heard.still heard.leaves heard.counted

pub returns-in-Ok-clause-goes_on : goal.returns-in-Ok-clause-goes_on
returns-in-Ok-clause-goes_on g c =
    let said : message_at (messages_of c.args.self.now.sent.items) c.args.number ≡ Some (Asked c.in-Asked-2.field-0.request) = search rules in
    let text : text_at (texts_of c.args.self.now.sent.items) c.args.number ≡ Some c.deref-in-Asked-2.result.now = search rules in
    request_on g.R.Registry g.J.Journal c.args.self.now c.answer.new.self c.args.number c.in-Asked-2.field-0.request c.in-Ok.request c.deref-in-Asked-2.result.now c.answer.result
    said text c.in-Ok.ensures.only c.answer.ensures.done

pub returns-in-Ok-clause-fails_on : goal.returns-in-Ok-clause-fails_on
returns-in-Ok-clause-fails_on g c =
    let said : message_at (messages_of c.args.self.now.sent.items) c.args.number ≡ Some (Asked c.in-Asked-2.field-0.request) = search rules in
    let text : text_at (texts_of c.args.self.now.sent.items) c.args.number ≡ Some c.deref-in-Asked-2.result.now = search rules in
    fails_on_request g.R.Registry g.J.Journal c.args.self.now c.answer.new.self c.args.number c.in-Asked-2.field-0.request c.in-Ok.request c.deref-in-Asked-2.result.now c.answer.result
    said text c.in-Ok.ensures.only c.answer.ensures.apart c.answer.ensures.fails

pub returns-in-Ok-clause-keeps : goal.returns-in-Ok-clause-keeps
returns-in-Ok-clause-keeps g c = all_err c.answer.result (λ _. ap known_in c.answer.ensures.apart)

pub returns-in-Ok-clause-apart : goal.returns-in-Ok-clause-apart
returns-in-Ok-clause-apart g c =
    let said : message_at (messages_of c.args.self.now.sent.items) c.args.number ≡ Some (Asked c.in-Asked-2.field-0.request) = search rules in
    apart_connector c.args.self.now c.answer.new.self (Delivers c.args.number) (request_reads c.args.self.now c.args.number c.in-Asked-2.field-0.request said) c.answer.ensures.apart

pub returns-in-Err-Unread-clause-goes_on : goal.returns-in-Err-Unread-clause-goes_on
returns-in-Err-Unread-clause-goes_on g c =
    let said : message_at (messages_of c.args.self.now.sent.items) c.args.number ≡ Some (Asked c.in-Asked-2.field-0.request) = search rules in
    let text : text_at (texts_of c.args.self.now.sent.items) c.args.number ≡ Some c.deref-in-Asked-2.result.now = search rules in
    let unread : c.in-Err-Unread.field-0 ≡ Unread = search rules in
    delivers_unread_on g.R.Registry g.J.Journal c.args.self.now c.args.number c.in-Asked-2.field-0.request c.deref-in-Asked-2.result.now _
    said text (λ request spells. subst (λ f. IsOrMemory request (Err f)) unread (c.in-Err-Unread.ensures.only request spells))

pub returns-in-Open-clause-goes_on : goal.returns-in-Open-clause-goes_on
returns-in-Open-clause-goes_on g c =
    let sent : message_at (messages_of c.args.self.now.sent.items) c.args.number ≡ Some (Answered c.in-Answered.asked.request c.in-Answered.field-1) = search rules in
    let text : text_at (texts_of c.args.self.now.sent.items) c.args.number ≡ Some c.deref-in-Open.result.now = search rules in
    let heard = c.hear.ensures in
    learns_on g.R.Registry g.J.Journal c.args.self.now c.in-Open.connector c.hear.new.connector c.args.number c.in-Answered.asked.request c.in-Answered.field-1 c.deref-in-Open.result.now c.hear.result
    sent text c.in-Open.is heard.report heard.book heard.names heard.honest heard.open heard.leaves

pub returns-in-Open-clause-fails_on : goal.returns-in-Open-clause-fails_on
returns-in-Open-clause-fails_on g c =
    let sent : message_at (messages_of c.args.self.now.sent.items) c.args.number ≡ Some (Answered c.in-Answered.asked.request c.in-Answered.field-1) = search rules in
    let text : text_at (texts_of c.args.self.now.sent.items) c.args.number ≡ Some c.deref-in-Open.result.now = search rules in
    let heard = c.hear.ensures in
    fails_on_learning g.R.Registry g.J.Journal c.args.self.now c.in-Open.connector c.hear.new.connector c.args.number c.in-Answered.asked.request c.in-Answered.field-1 c.deref-in-Open.result.now c.hear.result
    sent text c.in-Open.is heard.same heard.honest heard.still heard.leaves heard.counted

pub returns-in-Open-clause-keeps : goal.returns-in-Open-clause-keeps
returns-in-Open-clause-keeps g c = on_err c.hear.result (λ same _. known_still c.args.self.now.connector c.in-Open.connector c.hear.new.connector c.in-Open.is same) c.hear.ensures.same

pub returns-in-Open-clause-apart : goal.returns-in-Open-clause-apart
returns-in-Open-clause-apart g c =
    let sent : message_at (messages_of c.args.self.now.sent.items) c.args.number ≡ Some (Answered c.in-Answered.asked.request c.in-Answered.field-1) = search rules in
    apart_provider c.args.self.now _ (Delivers c.args.number) (answer_reads c.args.self.now c.args.number c.in-Answered.asked.request c.in-Answered.field-1 sent) refl
