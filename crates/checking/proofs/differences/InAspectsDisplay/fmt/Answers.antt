use Rattle.std.proofs.Common.{◌∙◌, refl, subst, sym}
use Rattle.std.proofs.lemmas.Grind.{put_two}
use Rattle.std.specs.Fmt.{HasWritten}
use Rattle.checking.proofs.LineLemmas.{agreed, differed, ended}
use Rattle.checking.proofs.differences.InAspectsDisplay.fmt.Goals as goal

pub loop-aspect-preserved-then-agree : goal.loop-aspect-preserved-then-agree
loop-aspect-preserved-then-agree g c plain =
    let before = c.loop-aspect.invariant plain in
    (before.0, before.1, agreed _ _ _ _ _ _ _ _ c.loop-aspect-test.true before.2 (sym c.agree.ensures ∙ c.if-agree.true))

pub loop-aspect-preserved : goal.loop-aspect-preserved
loop-aspect-preserved g c plain =
    let before = c.loop-aspect.invariant plain in
    let more = c.in_ok-write.ensures.writes before.1.plain refl in (
      _,
      put_two _ _ _ _ _ _ _ before.1 more refl,
      rw c.separator.ensures (differed _ _ _ _ _ _ _ _ c.loop-aspect-test.true before.2 (sym c.agree.ensures ∙ c.if-agree.false)),
    )

pub returns-clause-writes : goal.returns-clause-writes
returns-clause-writes g c plain done =
    let before = c.loop-aspect.invariant plain in
    subst (λ text. HasWritten g.W.Write.write_str_gives c.args.f.now text c.loop-aspect.f)
    (sym (ended _ _ _ _ _ _ _ c.loop-aspect-test.false before.2)) before.1
