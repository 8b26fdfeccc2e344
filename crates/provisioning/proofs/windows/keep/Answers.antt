use Rattle.provisioning.proofs.WindowLemmas.{keeps_not}
use Rattle.provisioning.proofs.windows.keep.Goals as goal

pub returns-in-Err : goal.returns-in-Err
returns-in-Err g c = keeps_not g.D.Reader.Read.remaining g.D.Writer.Write.contents g.J.Journal c.args.service.now 0 c.args.first c.args.beside c.in-Err.fault c.args.connector.now c.close.new.connector c.close.result c.in-Err.is c.close.ensures
