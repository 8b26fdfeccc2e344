use Rattle.std.proofs.Common.{rules, ◌≡◌, true, false}
use Rattle.json.specs.Token.{key}
use Rattle.scim_json.specs.Writing.{members_from}
use Rattle.scim_json.proofs.Written.{one, keyed}
use Rattle.serde_json.specs.Data.{object}
use Rattle.scim_resource.specs.UserTexts.{has_some}
use Rattle.scim_resource.specs.Writing.{text_parts}
use Rattle.scim_resource.proofs.Written.{held_none, held_some}
use Rattle.scim_resource.proofs.writing.write_held.Goals as goal

pub returns-then-not-has_some : goal.returns-then-not-has_some
returns-then-not-has_some c =
    let none : has_some c.args.user.now.texts c.args.texts.now ≡ false = search rules in
    held_none c.args.name.now c.args.user.now.texts c.args.texts.now c.args.out.now none

pub returns : goal.returns
returns c =
    let some : has_some c.args.user.now.texts c.args.texts.now ≡ true = search rules in
    let d = object (members_from (text_parts c.args.user.now.texts c.args.texts.now)) in
    held_some c.write_text_object.result c.args.name.now c.args.user.now.texts c.args.texts.now c.args.out.now c.write_text_object.new.out some
    (keyed c.write_text_object.result c.args.name.now d c.args.out.now c.key.new.self c.write_text_object.new.out
    (one c.in_ok-key.field-0 (key c.args.name.now) c.args.out.now c.key.new.self c.in_ok-key.ensures) c.write_text_object.ensures)
