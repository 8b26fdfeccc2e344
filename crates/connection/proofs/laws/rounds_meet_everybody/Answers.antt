use Rattle.connection.proofs.RoundLemmas.{meets_everybody}
use Rattle.connection.proofs.laws.rounds_meet_everybody.Goals as goal

pub returns : goal.returns
returns g c most = meets_everybody g.S.Read.remaining most
