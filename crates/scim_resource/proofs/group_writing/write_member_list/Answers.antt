use Rattle.json.specs.Token.{begin_array}
use Rattle.scim_json.proofs.Written.{one, list_closed}
use Rattle.scim_resource.specs.Writing.{member_data}
use Rattle.scim_resource.proofs.group_writing.write_member_list.Goals as goal

pub returns : goal.returns
returns c =
    list_closed c.end_array.result member_data c.args.values.now c.loop-value.value-index c.args.out.now c.begin_array.new.self c.loop-value.out c.end_array.new.self c.loop-value-test.false
    (one c.in_ok-begin_array.field-0 begin_array c.args.out.now c.begin_array.new.self c.in_ok-begin_array.ensures) c.loop-value.invariant c.end_array.ensures
