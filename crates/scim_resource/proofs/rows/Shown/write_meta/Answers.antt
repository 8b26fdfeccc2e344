use Rattle.std.proofs.Common.{◌≡◌, codes, Some, sym, rules}
use Rattle.json.specs.Token.{begin_object, key}
use Rattle.scim_json.proofs.Written.{one, keyed}
use Rattle.serde_json.specs.Data.{string}
use Rattle.scim_json.specs.Writing.{WritesPart}
use Rattle.scim_resource.specs.Contents.{content_kind}
use Rattle.scim_resource.specs.Locations.{type_name}
use Rattle.scim_resource.specs.Writing.{meta_data}
use Rattle.scim_resource.proofs.Written.{meta_closed}
use Rattle.scim_resource.proofs.rows.Shown.write_meta.Goals as goal

pub returns-clause-written : goal.returns-clause-written
returns-clause-written c =
    let s = c.args.self.now in
    let place : WritesPart (codes "location") (Some (string c.args.location.now)) c.begin_object.new.self c.write_text.new.out = search rules in
    let named : c.type_name.result.now ≡ type_name (content_kind s.content) = search rules in
    let name : WritesPart (codes "resourceType") (Some (string (type_name (content_kind s.content)))) c.write_text.new.out c.write_text-2.new.out = rw (sym named) c.in_ok-write_text-2.ensures in
    keyed c.end_object.result (codes "meta") (meta_data c.args.location.now s) c.args.out.now c.key.new.self c.end_object.new.self (one c.in_ok-key.field-0 (key (codes "meta")) c.args.out.now c.key.new.self c.in_ok-key.ensures)
    (meta_closed c.end_object.result c.args.location.now s c.key.new.self c.begin_object.new.self c.write_text.new.out c.write_text-2.new.out c.write_version.new.out c.end_object.new.self
    (one c.in_ok-begin_object.field-0 begin_object c.key.new.self c.begin_object.new.self c.in_ok-begin_object.ensures) place name c.in_ok-write_version.ensures.written c.end_object.ensures)
