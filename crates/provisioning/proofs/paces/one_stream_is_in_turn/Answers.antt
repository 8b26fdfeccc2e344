use Rattle.provisioning.proofs.InTurnLemmas.{one_stream}
use Rattle.provisioning.proofs.paces.one_stream_is_in_turn.Goals as goal

pub returns : goal.returns
returns g c = one_stream g.D.Reader.Read.remaining g.D.Writer.Write.contents g.J.Journal
