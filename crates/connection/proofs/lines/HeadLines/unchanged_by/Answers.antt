use Rattle.std.proofs.Common.{◌≡◌, sym, length, take, subst, arith}
use Rattle.connection.specs.Lines as spec
use Rattle.connection.specs.declared.lines.HeadLines.{HeadLines}
use Rattle.connection.proofs.LineLemmas.{ended, inside_stays}
use Rattle.connection.proofs.lines.HeadLines.unchanged_by.Goals as goal

pub returns-in-Some-clause-same : goal.returns-in-Some-clause-same
returns-in-Some-clause-same c =
    let before = c.in-Some.ensures.0.before in
    let stays = inside_stays c.args.bytes.now c.in-Some.place (λ k below. before k (omega arith) below) in
    subst (λ (lines : HeadLines). spec.lines_after lines (take c.in-Some.place c.args.bytes.now) ≡ lines) (sym c.in-Inside.is) stays

pub returns-in-None-clause-same : goal.returns-in-None-clause-same
returns-in-None-clause-same c =
    let stays = inside_stays c.args.bytes.now (length c.args.bytes.now) (λ k below. c.in-None.ensures k (omega arith) below) in
    subst (λ (lines : HeadLines). spec.lines_after lines (take (length c.args.bytes.now) c.args.bytes.now) ≡ lines) (sym c.in-Inside.is) stays

pub returns-in-Ended-clause-same : goal.returns-in-Ended-clause-same
returns-in-Ended-clause-same c =
    subst (λ (lines : HeadLines). spec.lines_after lines (take (length c.args.bytes.now) c.args.bytes.now) ≡ lines) (sym c.in-Ended.is)
    (ended (take (length c.args.bytes.now) c.args.bytes.now))
