use Rattle.json.specs.Token.{begin_object}
use Rattle.scim_json.proofs.Written.{one}
use Rattle.scim_resource.proofs.Written.{user_closed}
use Rattle.scim_resource.proofs.writing.write_user.Goals as goal

pub returns-clause-written : goal.returns-clause-written
returns-clause-written c =
    user_closed c.end_object.result _ _ c.args.user.now c.args.out.now c.begin_object.new.self c.write_user_front.new.out c.write_id.new.out c.write_meta_if.new.out c.write_user_back.new.out c.end_object.new.self
    (one c.in_ok-begin_object.field-0 begin_object c.args.out.now c.begin_object.new.self c.in_ok-begin_object.ensures) c.in_ok-write_user_front.ensures c.in_ok-write_id.ensures c.in_ok-write_meta_if.ensures.written c.in_ok-write_user_back.ensures.written c.end_object.ensures
