use Rattle.std.proofs.Common.{◌≡◌, Some, ap, refl, rules}
use Rattle.connector_core.specs.Asking.{asking}
use Rattle.connector_core.specs.Maps.{book_of}
use Rattle.connector_core.specs.declared.asking.Ask.TheVariants as asks
use Rattle.world_model.specs.World.{Sends}
use Rattle.world_sim.proofs.Steps.{sends_nothing, sends_told}
use Rattle.world_sim.proofs.GoingOn.{apart_provider, fails_on_send, sends_nothing_on, sends_on}
use Rattle.world_sim.proofs.Keeping.{on_err}
use Rattle.world_sim.specs.Running.{known_in}
use Rattle.world_sim.proofs.worlds.World.send.Goals as goal

pub returns-in-Ok-Waits-clause-done : goal.returns-in-Ok-Waits-clause-done
returns-in-Ok-Waits-clause-done g c =
    let asked : asking (book_of c.in-Open.connector.book) c.args.name.now ≡ Some (asks.Waits c.in-Ok-Waits.member) = search rules in
    sends_nothing g.R.Registry g.J.Journal c.args.self.now c.in-Open.connector c.args.name.now (Some (asks.Waits c.in-Ok-Waits.member)) _ c.in-Open.is asked (λ w. refl) (λ n. refl)

pub returns-in-Ok-Send-clause-done : goal.returns-in-Ok-Send-clause-done
returns-in-Ok-Send-clause-done g c =
    let asked : asking (book_of c.in-Open.connector.book) c.args.name.now ≡ Some (asks.Send c.in-Ok-Send.request) = search rules in
    sends_told g.R.Registry g.J.Journal c.args.self.now c.post.new.self c.in-Open.connector c.args.name.now c.in-Ok-Send.request c.post.result c.in-Open.is asked c.post.ensures.sent

pub returns-in-Ok-Waits-clause-goes_on : goal.returns-in-Ok-Waits-clause-goes_on
returns-in-Ok-Waits-clause-goes_on g c =
    let asked : asking (book_of c.in-Open.connector.book) c.args.name.now ≡ Some (asks.Waits c.in-Ok-Waits.member) = search rules in
    sends_nothing_on g.R.Registry g.J.Journal c.args.self.now c.in-Open.connector c.args.name.now (Some (asks.Waits c.in-Ok-Waits.member)) _ c.in-Open.is asked (λ w. refl) (λ n. refl)

pub returns-in-Ok-Send-clause-goes_on : goal.returns-in-Ok-Send-clause-goes_on
returns-in-Ok-Send-clause-goes_on g c =
    let asked : asking (book_of c.in-Open.connector.book) c.args.name.now ≡ Some (asks.Send c.in-Ok-Send.request) = search rules in
    sends_on g.R.Registry g.J.Journal c.args.self.now c.post.new.self c.in-Open.connector c.args.name.now c.in-Ok-Send.request c.post.result c.in-Open.is asked c.post.ensures.sent

pub returns-in-Ok-Send-clause-fails_on : goal.returns-in-Ok-Send-clause-fails_on
returns-in-Ok-Send-clause-fails_on g c = fails_on_send g.R.Registry g.J.Journal c.args.self.now c.post.new.self c.args.name.now c.post.result c.post.ensures.memory c.post.ensures.stays

pub returns-in-Ok-Send-clause-keeps : goal.returns-in-Ok-Send-clause-keeps
returns-in-Ok-Send-clause-keeps g c = on_err c.post.result (λ stays _. ap known_in stays.connector) c.post.ensures.stays

pub returns-in-Ok-Send-clause-apart : goal.returns-in-Ok-Send-clause-apart
returns-in-Ok-Send-clause-apart g c = apart_provider c.args.self.now c.post.new.self (Sends c.args.name.now) (λ reads. reads) c.post.ensures.apart
