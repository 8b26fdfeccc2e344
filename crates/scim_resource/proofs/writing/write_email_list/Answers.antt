use Rattle.json.specs.Token.{begin_array}
use Rattle.scim_json.proofs.Written.{one, list_closed}
use Rattle.scim_resource.specs.Writing.{email_data}
use Rattle.scim_resource.proofs.writing.write_email_list.Goals as goal

pub returns : goal.returns
returns c =
    list_closed c.end_array.result email_data c.args.emails.now c.loop-email.email-index c.args.out.now c.begin_array.new.self c.loop-email.out c.end_array.new.self c.loop-email-test.false
    (one c.in_ok-begin_array.field-0 begin_array c.args.out.now c.begin_array.new.self c.in_ok-begin_array.ensures) c.loop-email.invariant c.end_array.ensures
