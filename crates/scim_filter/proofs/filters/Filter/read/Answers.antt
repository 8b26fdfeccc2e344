use Rattle.std.proofs.lemmas.Result.{err_from_is_err_and}
use Rattle.scim_filter.proofs.Progress.{spelled, given, fault_gives}
use Rattle.scim_filter.proofs.filters.Filter.read.Goals as goal

pub returns-in_err-tokens-clause-only : goal.returns-in_err-tokens-clause-only
returns-in_err-tokens-clause-only c = λ f w.
    let p = err_from_is_err_and c.from_residual.result c.from_residual.ensures.1 in
    rw (p.1, p.2) (fault_gives _ c.in_err-tokens.field-0.0 f (c.in_err-tokens.ensures.only w.tokens w.consists) (λ e. cc))

pub returns-clause-found : goal.returns-clause-found
returns-clause-found c =
    spelled c.args.text.now c.in_ok-tokens.tokens.items c.read_filter.result c.if-text-gt-TEXT_LIMIT.false c.in_ok-tokens.ensures.found (rw c.deref.ensures.value at c.read_filter.ensures)

pub returns-clause-only : goal.returns-clause-only
returns-clause-only c = λ f w.
    given c.in_ok-tokens.tokens.items c.read_filter.result f (c.in_ok-tokens.ensures.only w.tokens w.consists) w.grammatical (rw c.deref.ensures.value at c.read_filter.ensures)
