use Rattle.std.proofs.Common.{codes, ◌∷◌, [], ◌++◌, Some, refl, rules}
use Rattle.json.specs.Token.{begin_object, key}
use Rattle.scim_json.proofs.Written.{one, then, keyed, object_closed}
use Rattle.serde_json.specs.Data.{unsigned, number, object}
use Rattle.scim_key.specs.Revisions.{revision_epoch, revision_number}
use Rattle.scim_json.specs.Writing.{members_from, part_tokens, Adds, WritesPart}
use Rattle.scim_resource.specs.Schemas.{source_extension}
use Rattle.scim_resource.specs.Writing.{epoch_data, source_parts}
use Rattle.scim_resource.proofs.writing.write_revision.Goals as goal

pub returns : goal.returns
returns c =
    let ps = source_parts c.args.revision in
    let n = number (unsigned (revision_number c.args.revision)) in
    let first = part_tokens (codes "epoch") (epoch_data (revision_epoch c.args.revision)) in
    let second = part_tokens (codes "revision") (Some n) in
    let named : Adds (key source_extension ∷ []) c.args.out.now c.key.new.self = search rules in
    let epoch : WritesPart (codes "epoch") (epoch_data (revision_epoch c.args.revision)) c.begin_object.new.self c.write_epoch.new.out = search rules in
    let whole : WritesPart (codes "revision") (Some n) c.write_epoch.new.out c.write_whole.new.out = search rules in
    keyed c.end_object.result source_extension (object (members_from ps)) c.args.out.now c.key.new.self c.end_object.new.self named
    (object_closed c.end_object.result ps (first ++ second) c.key.new.self c.begin_object.new.self c.write_whole.new.out c.end_object.new.self refl
    (one c.in_ok-begin_object.field-0 begin_object c.key.new.self c.begin_object.new.self c.in_ok-begin_object.ensures)
    (then first second c.begin_object.new.self c.write_epoch.new.out c.write_whole.new.out epoch whole) c.end_object.ensures)
