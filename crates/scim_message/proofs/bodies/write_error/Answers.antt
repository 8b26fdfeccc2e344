use Rattle.std.proofs.Common.{codes, option_map, Some, sym}
use Rattle.std.specs.Fmt.{decimal}
use Rattle.json.specs.Token.{begin_object}
use Rattle.serde_json.specs.Data.{array, item, no_items, string}
use Rattle.scim_json.specs.Writing.{WritesPart}
use Rattle.scim_json.proofs.Written.{one}
use Rattle.scim_message.specs.Bodies.{error_message}
use Rattle.scim_message.proofs.Written.{error_closed}
use Rattle.scim_message.proofs.bodies.write_error.Goals as goal

pub returns : goal.returns
returns c =
    let e = c.args.error.now in
    let detail : WritesPart (codes "detail") (option_map string e.detail) c.begin_object.new.self c.write_text_if.new.out = rw (sym c.detail.ensures) c.in_ok-write_text_if.ensures in
    let schemas : WritesPart (codes "schemas") (Some (array (item (string error_message) no_items))) c.write_text_if.new.out c.write_schema.new.out = rw (sym c.error_schema.ensures) c.in_ok-write_schema.ensures in
    let kind : WritesPart (codes "scimType") (option_map string e.scim_type) c.write_schema.new.out c.write_text_if-2.new.out = rw (sym c.scim_type.ensures) c.in_ok-write_text_if-2.ensures in
    let status : WritesPart (codes "status") (Some (string (decimal e.status))) c.write_text_if-2.new.out c.write_status.new.out = rw (sym c.status.ensures.code) c.in_ok-write_status.ensures in
    error_closed c.end_object.result e c.args.out.now c.begin_object.new.self c.write_text_if.new.out c.write_schema.new.out c.write_text_if-2.new.out c.write_status.new.out c.end_object.new.self
    (one c.in_ok-begin_object.field-0 begin_object c.args.out.now c.begin_object.new.self c.in_ok-begin_object.ensures) detail schemas kind status c.end_object.ensures
