use Rattle.std.proofs.Common.{◌≡◌, map}
use Rattle.scim_version.specs.Tags.{version_tag}
use Rattle.scim_resource.specs.Rows.{shown_under}
use Rattle.scim_message.proofs.messages.all_under.Given as goal

-- the resources so far under the tag
abbrev pub invariant-loop-resource : goal.invariant-loop-resource
invariant-loop-resource l = l.all.items ≡ map (shown_under (version_tag l.version)) l.yielded
