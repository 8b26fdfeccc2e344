use Rattle.std.proofs.Common.{◌-◌, ◌∙◌, length, sym, ap}
use Rattle.std.specs.Str.{bytes_eq}
use Rattle.std.proofs.lemmas.List.{take_rest}
use Rattle.scim_filter.specs.Comparing.{folded}
use Rattle.scim_filter.proofs.Comparisons.{ends-folded}
use Rattle.scim_filter.proofs.comparing.ends_with.Goals as goal

pub returns : goal.returns
returns c =
    let text = c.args.text.now in
    let given = c.args.given.now in
    c.is_same.ensures
    ∙ ap (λ x. bytes_eq (folded c.args.exact x) (folded c.args.exact given)) (take_rest text (length text - length given))
    ∙ sym (ends-folded c.args.exact text given c.if-given-text.false)
