use Rattle.std.proofs.Common.{◌∙◌, [], ◌∷◌, ap}
use Rattle.scim_filter.specs.Matching.{some_compares}
use Rattle.scim_filter.proofs.matching.asks_id.Goals as goal

pub returns : goal.returns
returns c =
    c.of_one.ensures ∙ ap (λ x. some_compares c.args.question.now.exact c.args.question.now.operator c.args.question.now.given.now (x ∷ [])) c.spell.ensures
