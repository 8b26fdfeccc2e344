use Rattle.std.proofs.Common.{◌≡◌, ◌∙◌, List, ℕ, ap, subst, sym, rules}
use Rattle.scim_key.specs.Revisions.{RevisionValue, later}
use Rattle.connector_core.specs.Learning.{Sight}
use Rattle.connector_core.specs.Noting.{IsToBeKept}
use Rattle.connector_core.proofs.Lessons.{to-be-kept}
use Rattle.connector_core.proofs.fitting.lasting.Goals as goal

pub returns-clause-news : goal.returns-clause-news
returns-clause-news c =
    let known = c.args.known.now in
    let copy : c.in_ok-clone.field-0 ≡ c.sight.inside.id = search rules in
    let id : c.in_ok-clone.field-0 ≡ c.args.sight.id = copy ∙ ap (λ (s : Sight). s.id) c.sight.view_is in
    let revision : c.later.result ≡ later known.confirmed c.args.sight.revision =
    c.later.ensures ∙ ap (λ (s : Sight). later known.confirmed s.revision) c.sight.view_is in
    let I : List ℕ → Type 0 = λ i. IsToBeKept known c.later.result i in
    let R : RevisionValue → Type 0 = λ r. IsToBeKept known r c.args.sight.id in
    subst I (sym id) (subst R (sym revision) (to-be-kept known c.args.sight c.requires.fit c.requires.new))
