use Rattle.std.proofs.Common.{sym, ◌∙◌}
use Rattle.http_text.proofs.FieldLemmas.{values-at_named, values-at_other}
use Rattle.http_text.proofs.ListLemmas.{rest_from}
use Rattle.http_text.proofs.incoming.split_named.Goals as goal

pub returns-then-eq_ignore_ascii_case-clause-first : goal.returns-then-eq_ignore_ascii_case-clause-first
returns-then-eq_ignore_ascii_case-clause-first c =
    rw rest_from (sym c.loop-i.invariant ∙ values-at_named _ _ c.args.fields.now c.loop-i.i _ c.loop-i-test.true _ c.of.ensures _ c.eq_ignore_ascii_case.ensures.test _ c.of-then-eq_ignore_ascii_case.ensures c.if-eq_ignore_ascii_case.true)

pub loop-i-preserved : goal.loop-i-preserved
loop-i-preserved c =
    sym (values-at_other _ _ c.args.fields.now c.loop-i.i _ c.loop-i-test.true _ c.of.ensures _ c.eq_ignore_ascii_case.ensures.test c.if-eq_ignore_ascii_case.false) ∙ c.loop-i.invariant
