use Rattle.std.proofs.Common.{codes, option_map, Some, rules}
use Rattle.json.specs.Token.{begin_object}
use Rattle.scim_json.proofs.Written.{one}
use Rattle.serde_json.specs.Data.{string}
use Rattle.scim_json.specs.Writing.{WritesPart}
use Rattle.scim_resource.proofs.Written.{email_closed}
use Rattle.scim_resource.proofs.writing.write_email.Goals as goal

pub returns : goal.returns
returns c =
    let e = c.args.email.now in
    let kind : WritesPart (codes "type") (option_map string e.type_text) c.write_primary.new.out c.write_text_if.new.out = search rules in
    let value : WritesPart (codes "value") (Some (string e.value)) c.write_text_if.new.out c.write_text.new.out = search rules in
    email_closed c.end_object.result e c.args.out.now c.begin_object.new.self c.write_primary.new.out c.write_text_if.new.out c.write_text.new.out c.end_object.new.self
    (one c.in_ok-begin_object.field-0 begin_object c.args.out.now c.begin_object.new.self c.in_ok-begin_object.ensures) c.in_ok-write_primary.ensures kind value c.end_object.ensures
