use Rattle.std.proofs.Common.{sym}
use Rattle.std.proofs.lemmas.Result.{err_from_is_err_and}
use Rattle.http_text.specs.Parsing.{form_of}
use Rattle.http_text.proofs.FormLaws.{laws_of}
use Rattle.http_text.proofs.HeadLemmas.{TakesRefused-head, TakesRefused-cut, TakesMessage-body}
use Rattle.http_text.proofs.reading.read_whole.Goals as goal

pub returns-in_err-length-clause-refused : goal.returns-in_err-length-clause-refused
returns-in_err-length-clause-refused g c =
    let p = err_from_is_err_and c.from_residual-in_err-length.result c.from_residual-in_err-length.ensures.1 in
    rw (p.1, p.2) (TakesRefused-head (form_of c.args.kind) (laws_of c.args.kind) _ _ _ _ c.in_ok-message.ensures.head (sym c.in_err-length.ensures))

pub returns-in_err-read_body-clause-refused : goal.returns-in_err-read_body-clause-refused
returns-in_err-read_body-clause-refused g c =
    let p = err_from_is_err_and c.from_residual-in_err-read_body.result c.from_residual-in_err-read_body.ensures.1 in
    rw (p.1, p.2) (TakesRefused-cut (form_of c.args.kind) (laws_of c.args.kind) _ _ _ _ _ c.in_ok-message.ensures.head (sym c.in_ok-length.ensures) _ c.in_err-read_body.ensures.cut)

pub returns-clause-message : goal.returns-clause-message
returns-clause-message g c =
    TakesMessage-body (form_of c.args.kind) (laws_of c.args.kind) _ _ _ _ _ c.in_ok-message.ensures.head (sym c.in_ok-length.ensures) _ c.in_ok-read_body.ensures.body
