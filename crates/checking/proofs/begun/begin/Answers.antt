use Rattle.std.proofs.Common.{◌≡◌, [], ◌∷◌, Ok, refl, subst, sym, ◌∙◌}
use Rattle.std.proofs.lemmas.Result.{err_from_is_err_and}
use Rattle.connector_core.specs.Maps.{book_of}
use Rattle.provisioning.specs.Services.{Service}
use Rattle.checking.specs.Findings.{looking}
use Rattle.checking.proofs.CheckLemmas.{unsent}
use Rattle.checking.proofs.begun.begin.Goals as goal

pub returns-in_err-look : goal.returns-in_err-look
returns-in_err-look g c =
    let p = err_from_is_err_and c.from_residual.result c.from_residual.ensures.1 in
    unsent g.D.Reader.Read.remaining g.D.Writer.Write.contents c.args.service.now (book_of c.args.connector.now.book) (g.D.Dial.opened c.args.dial.now)
    c.args.name.now p.0 c.from_residual.result p.1 (p.2 ∙ c.in_err-look.ensures.fault)

pub returns : goal.returns
returns g c = (
  Ok c.in-Ok-dial.stream ∷ [],
  c.in-Ok-dial.ensures,
  record {
    stream = c.in-Ok-dial.stream;
    request = c.in-Ok.look.request;
    asked = subst (λ (s : Service). looking s.keeps (book_of c.args.connector.now.book) c.args.name.now ≡ Ok c.in-Ok.look)
        c.service.view_is (sym c.in_ok-look.ensures.looks ∙ c.in-Ok.is);
    opened_are = refl;
    set_out = c.send_on-flight.ensures;
  },
)
