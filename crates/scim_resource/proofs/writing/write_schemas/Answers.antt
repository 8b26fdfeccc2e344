use Rattle.std.proofs.Common.{codes}
use Rattle.json.specs.Token.{begin_array, key, string}
use Rattle.scim_json.proofs.Written.{one}
use Rattle.scim_resource.proofs.Written.{schemas_closed}
use Rattle.scim_resource.proofs.writing.write_schemas.Goals as goal

pub returns : goal.returns
returns c =
    schemas_closed c.end_array.result c.args.core.now (λ e. (e.0.now, e.1)) c.args.extensions.now c.loop-extension.extension-index c.args.out.now c.key.new.self c.begin_array.new.self c.string.new.self c.loop-extension.out c.end_array.new.self c.loop-extension-test.false
    (one c.in_ok-key.field-0 (key (codes "schemas")) c.args.out.now c.key.new.self c.in_ok-key.ensures)
    (one c.in_ok-begin_array.field-0 begin_array c.key.new.self c.begin_array.new.self c.in_ok-begin_array.ensures)
    (one c.in_ok-string.field-0 (string c.args.core.now) c.begin_array.new.self c.string.new.self c.in_ok-string.ensures)
    c.loop-extension.invariant c.end_array.ensures
