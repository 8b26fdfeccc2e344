use Rattle.std.proofs.Common.{◌≡◌, true, ◌∙◌, ap, rules}
use Rattle.std.specs.Result.{result_ok}
use Rattle.scim_key.proofs.RevisionLaws.{numeral_is_read}
use Rattle.provisioning.specs.Delays.{is_number}
use Rattle.provisioning.proofs.delaying.number_in.Goals as goal

pub returns-then-is_number : goal.returns-then-is_number
returns-then-is_number c =
    let number : is_number c.args.text.now ≡ true = search rules in
    c.ok.ensures.value ∙ (ap result_ok (numeral_is_read c.args.text.now c.parse.result c.parse.ensures.value.0 number) ∙ search rules)
