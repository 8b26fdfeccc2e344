use Rattle.std.proofs.Common.{◌≡◌, ◌∷◌, string_bytes, rules}
use Rattle.std.specs.BTreeSet.{contains_text}
use Rattle.std.specs.Str.{str_to_ascii_lowercase}
use Rattle.serde_json.specs.View.{view, members_view}
use Rattle.scim_json.proofs.RepeatedNames.{repeats_start, repeats_more, new_name}
use Rattle.scim_json.proofs.attributes.repeats_one_of_many.Goals as goal

pub loop-key-init : goal.loop-key-init
loop-key-init c =
    let starts : c.into_iter-key-iterator.result ≡ c.args.members.now.entries = search rules in
    rw starts
    (repeats_start c.new-seen.result (members_view c.args.members.now.entries) c.new-seen.ensures.empty)

pub loop-key-preserved : goal.loop-key-preserved
loop-key-preserved c =
    let low = string_bytes c.make_ascii_lowercase.new.self in
    let k = string_bytes c.in-Some.key.now in
    let is : low ≡ str_to_ascii_lowercase k = search rules in
    let first : c.loop-key.key-iterator ≡ (c.in-Some.key.now, c.in-Some.field-0-1.now) ∷ c.next.new.self = search rules in
    let absent = new_name c.in_ok-insert.field-0 (contains_text c.loop-key.seen low) c.if-not-branch.false c.in_ok-insert.ensures.added in
    let so_far = rw first at c.loop-key.invariant in
    repeats_more c.loop-key.seen c.insert.new.self low k (view c.in-Some.field-0-1.now) (members_view c.next.new.self) _ is c.in_ok-insert.ensures.updates absent so_far
