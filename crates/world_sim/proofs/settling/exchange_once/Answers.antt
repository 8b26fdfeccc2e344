use Rattle.std.proofs.Common.{◌≡◌, ◌≢◌, length, rules}
use Rattle.std.proofs.lemmas.Result.{err_from_is_err_and}
use Rattle.world_model.specs.World.{Delivers, Sends}
use Rattle.world_sim.proofs.SettlingLemmas.{both_done, none_done, one_done, stops, takes_none, takes_one}
use Rattle.world_sim.proofs.settling.exchange_once.Goals as goal

pub returns-in_err-send-clause-stops : goal.returns-in_err-send-clause-stops
returns-in_err-send-clause-stops g c =
    let p = err_from_is_err_and c.from_residual.result c.from_residual.ensures.1 in
    rw (p.1, p.2) (stops g.R.Registry g.J.Journal c.args.world.now c.args.world.now c.send.new.self (none_done g.R.Registry g.J.Journal c.args.world.now)
    (Sends c.args.name.now) tt c.in_err-send.field-0.0 c.in_err-send.ensures.fails)

pub returns-then-request-before-clause-step : goal.returns-then-request-before-clause-step
returns-then-request-before-clause-step g c =
    let same : length c.send.new.self.sent.items ≡ length c.args.world.now.sent.items = search rules in
    takes_none g.R.Registry g.J.Journal c.args.world.now c.send.new.self c.args.name.now c.in_ok-send.field-0 c.in_ok-send.ensures.done same

pub returns-in_err-deliver-clause-stops : goal.returns-in_err-deliver-clause-stops
returns-in_err-deliver-clause-stops g c =
    let p = err_from_is_err_and c.from_residual-in_err-deliver.result c.from_residual-in_err-deliver.ensures.1 in
    rw (p.1, p.2) (stops g.R.Registry g.J.Journal c.args.world.now c.send.new.self c.deliver.new.self
    (one_done g.R.Registry g.J.Journal c.args.world.now c.send.new.self (Sends c.args.name.now) tt c.in_ok-send.field-0 c.in_ok-send.ensures.done)
    (Delivers c.len-request.result) tt c.in_err-deliver.field-0.0 c.in_err-deliver.ensures.fails)

pub returns-in_err-deliver-2-clause-stops : goal.returns-in_err-deliver-2-clause-stops
returns-in_err-deliver-2-clause-stops g c =
    let p = err_from_is_err_and c.from_residual-in_err-deliver-2.result c.from_residual-in_err-deliver-2.ensures.1 in
    rw (p.1, p.2) (stops g.R.Registry g.J.Journal c.args.world.now c.deliver.new.self c.deliver-2.new.self
    (both_done g.R.Registry g.J.Journal c.args.world.now c.send.new.self c.deliver.new.self
    (one_done g.R.Registry g.J.Journal c.args.world.now c.send.new.self (Sends c.args.name.now) tt c.in_ok-send.field-0 c.in_ok-send.ensures.done)
    (one_done g.R.Registry g.J.Journal c.send.new.self c.deliver.new.self (Delivers c.len-request.result) tt c.in_ok-deliver.field-0 c.in_ok-deliver.ensures.done))
    (Delivers c.len-reply.result) tt c.in_err-deliver-2.field-0.0 c.in_err-deliver-2.ensures.fails)

pub returns-clause-step : goal.returns-clause-step
returns-clause-step g c =
    let request : c.len-request.result ≡ length c.send.new.self.sent.items = search rules in
    let reply : c.len-reply.result ≡ length c.deliver.new.self.sent.items = search rules in
    let other : length c.send.new.self.sent.items ≢ length c.args.world.now.sent.items = search rules in
    takes_one g.R.Registry g.J.Journal c.args.world.now c.send.new.self c.deliver.new.self c.deliver-2.new.self c.args.name.now c.len-request.result c.len-reply.result
    c.in_ok-send.field-0 c.in_ok-deliver.field-0 c.in_ok-deliver-2.field-0 c.in_ok-send.ensures.done c.in_ok-deliver.ensures.done c.in_ok-deliver-2.ensures.done request reply other
