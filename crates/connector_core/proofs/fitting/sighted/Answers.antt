use Rattle.std.proofs.Common.{◌≡◌, ◌∙◌, Some, false, ap, sym, refl}
use Rattle.scim_key.specs.Revisions.{before}
use Rattle.connector_core.specs.Learning.{Sight}
use Rattle.connector_core.specs.Noting.{lesson_of}
use Rattle.connector_core.specs.declared.fitting.News.TheVariants.{Passing}
use Rattle.connector_core.specs.declared.learning.Learnt.TheVariants as learnts
use Rattle.connector_core.proofs.Lessons.{sighted-again}
use Rattle.connector_core.proofs.fitting.sighted.Goals as goal

pub returns-then-is_known-clause-gives : goal.returns-then-is_known-clause-gives
returns-then-is_known-clause-gives c =
    let known = c.args.known.now in
    let is = c.sight.view_is in
    let not_higher : before known.confirmed c.args.sight.revision ≡ false =
    ap (λ (s : Sight). before known.confirmed s.revision) (sym is) ∙ sym c.is_before.ensures ∙ c.if-is_before.false in
    let id : known.id ≡ Some c.args.sight.id = c.is_known.ensures.0 c.if-is_known.true ∙ ap (λ (s : Sight). Some s.id) is in
    ap (λ s. lesson_of known (Passing s false learnts.Seen)) c.seen_at.ensures
    ∙ sighted-again known c.args.sight learnts.Seen not_higher id refl
