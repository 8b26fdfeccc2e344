use Rattle.std.proofs.Common.{◌<◌, length, sym, ap, arith}
use Rattle.std.proofs.lemmas.Result.{err_from_is_err_and}
use Rattle.scim_filter.specs.Lexing.{or_unsupported}
use Rattle.scim_filter.specs.Parsing.{operand}
use Rattle.scim_filter.proofs.Chains.{first, no_first, next, fails, stops, some_supported, fault_kept}
use Rattle.scim_filter.proofs.reader.+reading.Goals as goal

pub chain-returns-in_err-left-clause-value : goal.chain-returns-in_err-left-clause-value
chain-returns-in_err-left-clause-value t c =
    let p = err_from_is_err_and c.from_residual.result c.from_residual.ensures.1 in
    rw (p.1, p.2) (fault_kept _ _ c.in_err-left.field-0.0 (no_first c.args.connective (operand c.args.connective c.args.depth) c.args.tokens.now) c.in_err-left.ensures.value)

pub chain-loop-more-init : goal.chain-loop-more-init
chain-loop-more-init t c =
    (first c.args.connective (operand c.args.connective c.args.depth) c.args.tokens.now c.in_ok-left.rest.now c.in_ok-left.left (some_supported _ _ c.in_ok-left.ensures.value), c.in_ok-left.ensures.shorter)

pub chain-returns-in_err-right-clause-value : goal.chain-returns-in_err-right-clause-value
chain-returns-in_err-right-clause-value t c =
    let p = err_from_is_err_and c.from_residual-in_err-right.result c.from_residual-in_err-right.ensures.1 in
    let l = c.loop-more in
    rw (p.1, p.2) (fault_kept _ _ c.in_err-right.field-0.0
    (fails c.args.connective (operand c.args.connective c.args.depth) l.invariant.0 c.in-Some.more.now (sym c.in-Some.ensures.value) c.in-Some.ensures.shorter)
    c.in_err-right.ensures.value)

pub chain-loop-more-preserved : goal.chain-loop-more-preserved
chain-loop-more-preserved t c =
    let l = c.loop-more in
    let less : length c.in_ok-right.after.now < length l.rest.now = omega (arith, c.in-Some.ensures.shorter, c.in_ok-right.ensures.shorter) in (
      rw c.in_ok-left-2.ensures (next c.args.connective (operand c.args.connective c.args.depth) l.invariant.0 c.in_ok-right.right c.in-Some.more.now c.in_ok-right.after.now
          (sym c.in-Some.ensures.value) (some_supported _ _ c.in_ok-right.ensures.value) less),
      omega (arith, less, l.invariant.1),
    )

pub chain-returns-clause-value : goal.chain-returns-clause-value
chain-returns-clause-value t c =
    let l = c.loop-more in
    ap or_unsupported (stops c.args.connective (operand c.args.connective c.args.depth) l.invariant.0 (sym c.in_default.ensures.value))
