use Rattle.std.proofs.Common.{take}
use Rattle.std.specs.List.{AllByRecursion}
use Rattle.journal_store.specs.Opening.{HasMembersOf}
use Rattle.journal_store.proofs.lawful.have_members.Given as goal

-- those so far have members of these keys
abbrev pub invariant-loop-group : goal.invariant-loop-group
invariant-loop-group l = AllByRecursion (HasMembersOf l.keys) (take l.group-index l.groups)
