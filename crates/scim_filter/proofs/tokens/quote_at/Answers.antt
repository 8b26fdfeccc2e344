use Rattle.std.proofs.Common.{◌∙◌}
use Rattle.scim_filter.proofs.Quotes.{past_escaped, past_backslash, past_other}
use Rattle.scim_filter.proofs.tokens.quote_at.Goals as goal
use Rattle.scim_filter.proofs.tokens.quote_at.Goals.{then-escaped, else-escaped+then-byte-eq92, else-escaped+else-byte-eq92+else-byte-eq34}

pub loop-place-preserved : goal.loop-place-preserved
loop-place-preserved c =
    let bs = c.args.text.now in
    let i = c.loop-place.place in
    elim c.if-escaped.branch [
      | then-escaped w ↦ rw w.escaped-is (past_escaped bs i c.loop-place-test.true ∙ rw w.if-escaped.true at c.loop-place.invariant)
      | else-escaped+then-byte-eq92 w ↦ rw w.escaped-is (past_backslash bs i c.loop-place-test.true w.if-byte-eq92.true ∙ rw w.if-escaped.false at c.loop-place.invariant)
      | else-escaped+else-byte-eq92+else-byte-eq34 w ↦ rw w.escaped-is (rw w.if-escaped.false (past_other bs i c.loop-place-test.true w.if-byte-eq92.false w.if-byte-eq34.false ∙ rw w.if-escaped.false at c.loop-place.invariant))
    ]
