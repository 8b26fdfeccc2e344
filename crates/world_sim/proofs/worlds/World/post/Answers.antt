use Rattle.std.proofs.Common.{◌≡◌, suc, [], ◌∷◌, ◌++◌, length, refl, rules}
use Rattle.world_model.specs.Reports as model
use Rattle.world_sim.specs.Events.{report_of}
use Rattle.world_sim.proofs.worlds.World.post.Goals as goal

pub returns-clause-sent : goal.returns-clause-sent
returns-clause-sent g c =
    let sent : c.push.new.self.items ≡ c.args.self.now.sent.items ++ c.in_ok-message.message ∷ [] = search rules in
    let said : report_of c.sending-report.result ≡ model.sending_report (suc (length c.args.self.now.sent.items)) c.args.request = search rules in
    record { message = c.in_ok-message.message; is = c.in_ok-message.ensures.message; formed = c.in_ok-message.ensures.formed; provider = refl; connector = refl; base = refl; sent = sent; report = said }
