use Rattle.std.proofs.Common.{codes, sym}
use Rattle.json.specs.Token.{begin_object}
use Rattle.scim_json.proofs.Written.{one}
use Rattle.scim_json.specs.Writing.{WritesPart}
use Rattle.scim_resource.specs.Writing.{group_members_data}
use Rattle.scim_resource.proofs.Written.{group_closed}
use Rattle.scim_resource.proofs.group_writing.write_group.Goals as goal

pub returns-clause-written : goal.returns-clause-written
returns-clause-written c =
    let members : WritesPart (codes "members") (group_members_data c.args.group.now.members) c.write_id.new.out c.write_members.new.out = rw (sym c.members.ensures) c.in_ok-write_members.ensures in
    group_closed c.end_object.result _ _ c.args.group.now c.args.out.now c.begin_object.new.self c.write_group_front.new.out c.write_id.new.out c.write_members.new.out c.write_meta_if.new.out c.write_group_back.new.out c.end_object.new.self
    (one c.in_ok-begin_object.field-0 begin_object c.args.out.now c.begin_object.new.self c.in_ok-begin_object.ensures) c.in_ok-write_group_front.ensures c.in_ok-write_id.ensures members c.in_ok-write_meta_if.ensures.written c.in_ok-write_group_back.ensures.written c.end_object.ensures
