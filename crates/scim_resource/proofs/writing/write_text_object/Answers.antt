use Rattle.std.proofs.Common.{refl}
use Rattle.json.specs.Token.{begin_object}
use Rattle.scim_json.specs.Writing.{parts_tokens}
use Rattle.scim_json.proofs.Written.{one, object_closed}
use Rattle.scim_resource.specs.Writing.{text_parts}
use Rattle.scim_resource.proofs.writing.write_text_object.Goals as goal

pub returns : goal.returns
returns c =
    let ps = text_parts c.args.user.now.texts c.args.texts.now in
    object_closed c.end_object.result ps (parts_tokens ps) c.args.out.now c.begin_object.new.self c.write_texts.new.out c.end_object.new.self refl
    (one c.in_ok-begin_object.field-0 begin_object c.args.out.now c.begin_object.new.self c.in_ok-begin_object.ensures) c.in_ok-write_texts.ensures c.end_object.ensures
