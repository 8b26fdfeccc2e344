use Rattle.std.proofs.Common.{subst, sym}
use Rattle.scim_key.specs.Outcome.{GivesBy}
use Rattle.scim_resource.specs.declared.contents.Content.{Content}
use Rattle.connector_core.specs.Keeps.{carried, lesson_at, standing_for}
use Rattle.connector_core.specs.declared.keeps.Keeps.{Keeps}
use Rattle.connector_core.specs.Learning as spec
use Rattle.connector_core.specs.Maps.{book_of}
use Rattle.connector_core.specs.Noting.{lesson_of}
use Rattle.connector_core.specs.declared.learning.LearnFault.TheVariants.{Memory}
use Rattle.connector_core.proofs.fitting.shown.Goals as goal

pub returns-in-Revisions-clause-gives : goal.returns-in-Revisions-clause-gives
returns-in-Revisions-clause-gives c =
    let book = book_of c.args.book.now in
    let known = c.args.known.now in
    let K : Keeps → Type 0 = λ k. GivesBy (lesson_of known) Memory c.shown_as.result (lesson_at k book c.args.name.now known (carried c.args.request.now) (spec.Shows c.args.shown.now)) in
    let S : Content → Type 0 = λ x. GivesBy (lesson_of known) Memory c.shown_as.result (spec.shown_lesson book c.args.name.now known (standing_for x c.args.shown.now)) in
    subst K (sym c.in-Revisions.is) (subst S c.content.ensures c.shown_as.ensures.gives)
