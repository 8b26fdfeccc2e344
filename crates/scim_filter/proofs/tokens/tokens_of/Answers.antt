use Rattle.std.proofs.Common.{◌<◌, subst, length, ap, arith, rules}
use Rattle.std.specs.Prelude.{Ok}
use Rattle.std.proofs.lemmas.Result.{err_from_is_err_and}
use Rattle.std.proofs.lemmas.Bool.Decides.{nat_tests}
use Rattle.scim_filter.proofs.Lexical.{Shorter, shorter}
use Rattle.scim_filter.proofs.Progress.{keeps_start, keeps_step, no_token, fault_gives, consists_at_end, only_at_end}
use Rattle.scim_filter.proofs.tokens.tokens_of.Goals as goal

pub loop-rest-init : goal.loop-rest-init
loop-rest-init c = (c.utf8.text, rw c.new-tokens.ensures.items (keeps_start c.args.text.now))

pub is_empty-requires-text-self : goal.is_empty-requires-text-self
is_empty-requires-text-self c = λ _. c.loop-rest.invariant.0

pub returns-in_err-token-clause-only : goal.returns-in_err-token-clause-only
returns-in_err-token-clause-only c = λ ts w.
    let h : 0 < length c.loop-rest.rest.now = grind (arith, nat_tests) in
    let p = err_from_is_err_and c.from_residual.result c.from_residual.ensures.1 in
    rw (p.1, p.2) (fault_gives _ c.in_err-token.field-0.0 ts (c.in_err-token.ensures {u = tt})
    (λ e. no_token c.args.text.now c.loop-rest.rest.now c.loop-rest.tokens.items ts c.in_err-token.field-0.0 h e c.loop-rest.invariant.1 w))

pub loop-rest-smaller : goal.loop-rest-smaller
loop-rest-smaller c = subst (Shorter c.loop-rest.rest.now) (c.in_ok-token.ensures {u = tt}) (shorter c.loop-rest.rest.now)

pub loop-rest-preserved : goal.loop-rest-preserved
loop-rest-preserved c =
    let h : 0 < length c.loop-rest.rest.now = grind (arith, nat_tests) in (
      search rules,
      rw c.in_ok-push.ensures.items
          (keeps_step c.args.text.now c.loop-rest.rest.now c.in_ok-token.more.now c.loop-rest.tokens.items c.in_ok-token.token h (c.in_ok-token.ensures {u = tt}) c.loop-rest.invariant.1),
    )

pub returns-clause-found : goal.returns-clause-found
returns-clause-found c = consists_at_end c.args.text.now c.loop-rest.rest.now c.loop-rest.tokens.items (grind (arith, nat_tests)) c.loop-rest.invariant.1

pub returns-clause-only : goal.returns-clause-only
returns-clause-only c = λ ts w.
    ap Ok (only_at_end c.args.text.now c.loop-rest.rest.now c.loop-rest.tokens.items ts (grind (arith, nat_tests)) c.loop-rest.invariant.1 w)
