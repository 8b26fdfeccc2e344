use Rattle.std.proofs.Common.{◌∙◌, ap, filter, rules}
use Rattle.std.proofs.lemmas.Fn.{filter_same}
use Rattle.provisioning.specs.Changes.{is_changed}
use Rattle.provisioning.proofs.changes.changes_of.Goals as goal

pub returns : goal.returns
returns c =
    let here = is_changed c.args.before.now c.args.after.now in
    filter_same _ here _ (λ x b f' k. search rules) _ _ c.retain.ensures.filtered ∙ ap (filter here) (c.in_ok-columns.ensures.items ∙ c.columns_of.ensures)
