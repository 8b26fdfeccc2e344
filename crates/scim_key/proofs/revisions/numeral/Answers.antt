use Rattle.std.proofs.Common.{◌≡◌, true, ◌∙◌, ap, rules}
use Rattle.std.specs.Result.{result_ok}
use Rattle.scim_key.proofs.RevisionLaws.{numeral_is_read}
use Rattle.scim_key.specs.Revisions.{is_numeral}
use Rattle.scim_key.proofs.revisions.numeral.Goals as goal

pub returns-then-is_numeral : goal.returns-then-is_numeral
returns-then-is_numeral c =
    let numeral : is_numeral c.args.text.now ≡ true = search rules in
    c.ok.ensures.value ∙ (ap result_ok (numeral_is_read c.args.text.now c.parse.result c.parse.ensures.value.0 numeral) ∙ search rules)
