use Rattle.connector_core.specs.Maps.{book_of}
use Rattle.provisioning.proofs.TrackLemmas.{spent_at}
use Rattle.provisioning.proofs.tracks.spent.Goals as goal

pub returns : goal.returns
returns g c = spent_at c.args.service.now (book_of c.args.connector.now.book) c.args.account.now c.standing_after.result c.requires c.standing_after.ensures
