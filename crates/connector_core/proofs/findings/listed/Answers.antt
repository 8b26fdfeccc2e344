use Rattle.std.proofs.Common.{◌≡◌, Result, Ok, subst, sym, rules}
use Rattle.scim_key.specs.Outcome.{GivesBy}
use Rattle.connector_core.specs.Keeps.{carried}
use Rattle.connector_core.specs.Learning as spec
use Rattle.connector_core.specs.Learning.{Finding}
use Rattle.connector_core.specs.Maps.{book_of}
use Rattle.connector_core.specs.Noting.{lesson_if, lesson_of}
use Rattle.connector_core.specs.declared.learning.LearnFault.{LearnFault}
use Rattle.connector_core.specs.declared.learning.LearnFault.TheVariants.{Memory}
use Rattle.connector_core.proofs.findings.listed.Goals as goal

pub returns-in-len1-clause-gives : goal.returns-in-len1-clause-gives
returns-in-len1-clause-gives c =
    let known = c.args.known.now in
    let L : Result Finding LearnFault → Type 0 = λ r. GivesBy (lesson_of known) Memory c.shown.result (lesson_if c.args.keeps (book_of c.args.book.now) c.args.name.now known (carried c.args.request.now) r) in
    let is : spec.listed c.args.list.now.total c.args.list.now.resources ≡ Ok (spec.Shows c.only-item.result) = search rules in
    subst L (sym is) c.shown.ensures.gives
