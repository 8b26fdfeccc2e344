use Rattle.std.proofs.Common.{[], arith}
use Rattle.std.proofs.lemmas.Result.{err_from_is_err_and}
use Rattle.provisioning.proofs.ListLemmas.{adds_none}
use Rattle.provisioning.proofs.WindowLemmas.{abreast, abreast_none}
use Rattle.provisioning.specs.Windows.{window_of}
use Rattle.provisioning.proofs.windows.push_abreast.Goals as goal

pub returns-in_err-with_capacity : goal.returns-in_err-with_capacity
returns-in_err-with_capacity g c =
    let p = err_from_is_err_and c.from_residual.result c.from_residual.ensures.1 in
    rw p.1 ([], adds_none (g.D.Dial.opened c.args.dial.now), abreast_none g.D.Reader.Read.remaining g.D.Writer.Write.contents g.J.Journal c.args.service.now (window_of c.args.streams) c.args.limit c.args.names.items c.args.connector.now (g.T.Tell.told c.args.teller.now) (g.T.Tell.told c.args.teller.now) p.0 (omega arith) p.2)

pub returns : goal.returns
returns g c =
    let b = c.push_through-pushed.ensures in (
      b.0,
      b.1,
      abreast g.D.Reader.Read.remaining g.D.Writer.Write.contents g.J.Journal c.args.service.now (window_of c.args.streams) c.args.limit c.args.names.items b.0 c.args.connector.now c.push_through-pushed.new.connector c.look_through.new.connector c.push_through-pushed.new.window (g.T.Tell.told c.args.teller.now) (g.T.Tell.told c.push_through-pushed.new.teller)
          c.push_through-pushed.result c.in_ok-with_capacity.field-0.items c.in_ok-with_capacity.ensures.items b.2 c.look_through.ensures,
    )
