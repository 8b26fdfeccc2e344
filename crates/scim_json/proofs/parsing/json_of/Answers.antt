use Rattle.std.proofs.Common.{◌∙◌, rules}
use Rattle.scim_json.proofs.Utf8Texts.{json_of-utf8, json_of-none}
use Rattle.scim_json.proofs.parsing.json_of.Goals as goal

pub returns-in-Ok : goal.returns-in-Ok
returns-in-Ok c = record { read = json_of-utf8 c.args.bytes.now c.in-Ok.ensures.ok.0 ∙ c.in-Ok.ensures.ok.1; refused = λ e. search rules }

pub returns-in-Err-2 : goal.returns-in-Err-2
returns-in-Err-2 c = record { read = tt; refused = λ e. json_of-none c.args.bytes.now (c.in-Err-2.ensures.err (search rules)) }
