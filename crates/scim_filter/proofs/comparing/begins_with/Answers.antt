use Rattle.std.proofs.Common.{◌∙◌, sym}
use Rattle.scim_filter.proofs.Comparisons.{begins-folded}
use Rattle.scim_filter.proofs.comparing.begins_with.Goals as goal

pub returns : goal.returns
returns c = c.is_same.ensures ∙ sym (begins-folded c.args.exact c.args.text.now c.args.given.now c.if-given-text.false)
