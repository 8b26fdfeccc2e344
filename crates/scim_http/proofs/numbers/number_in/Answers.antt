use Rattle.std.proofs.Common.{◌∙◌, rules}
use Rattle.scim_http.proofs.NumberLemmas.{parsed, unparsed}
use Rattle.scim_http.proofs.numbers.number_in.Goals as goal

pub returns-then-is_digits : goal.returns-then-is_digits
returns-then-is_digits c = c.ok.ensures.value ∙ parsed c.args.text.now c.parse.result (search rules) c.parse.ensures.value.0

pub returns-else-is_digits : goal.returns-else-is_digits
returns-else-is_digits c = unparsed c.args.text.now (search rules)
