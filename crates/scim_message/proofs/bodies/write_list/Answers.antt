use Rattle.std.proofs.Common.{◌∷◌, [], codes, length, Some, sym}
use Rattle.json.specs.Token.{begin_object, key}
use Rattle.serde_json.specs.Data.{array, item, no_items, number, string, unsigned}
use Rattle.scim_json.specs.Writing.{data_tokens, WritesPart, Writes}
use Rattle.scim_json.proofs.Written.{one, then}
use Rattle.scim_message.specs.Bodies.{list_message, page_data}
use Rattle.scim_message.proofs.Written.{page_closed}
use Rattle.scim_message.proofs.bodies.write_list.Goals as goal

pub returns-clause-written : goal.returns-clause-written
returns-clause-written c =
    let l = c.args.list.now in
    let base = c.args.base.now in
    let page = page_data base l.resources in
    let named = one c.in_ok-key.field-0 (key (codes "Resources")) c.begin_object.new.self c.key.new.self c.in_ok-key.ensures in
    let written : Writes (array page) c.key.new.self c.write_page.new.out = rw (sym c.as_slice-page.ensures) c.in_ok-write_page.ensures.written in
    let shown : WritesPart (codes "Resources") (Some (array page)) c.begin_object.new.self c.write_page.new.out =
    then (key (codes "Resources") ∷ []) (data_tokens (array page)) c.begin_object.new.self c.key.new.self c.write_page.new.out named written in
    let counted : WritesPart (codes "itemsPerPage") (Some (number (unsigned (length l.resources)))) c.write_page.new.out c.write_whole.new.out = rw (sym c.as_slice-page.ensures) c.in_ok-write_whole.ensures in
    let schema : WritesPart (codes "schemas") (Some (array (item (string list_message) no_items))) c.write_whole.new.out c.write_schema.new.out = rw (sym c.list_schema.ensures) c.in_ok-write_schema.ensures in
    page_closed c.end_object.result base l c.args.out.now c.begin_object.new.self c.write_page.new.out c.write_whole.new.out c.write_schema.new.out c.write_whole-2.new.out c.write_whole-3.new.out c.end_object.new.self
    (one c.in_ok-begin_object.field-0 begin_object c.args.out.now c.begin_object.new.self c.in_ok-begin_object.ensures) shown counted schema c.in_ok-write_whole-2.ensures c.in_ok-write_whole-3.ensures c.end_object.ensures
