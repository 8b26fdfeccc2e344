use Rattle.std.proofs.Common.{◌≡◌, take}
use Rattle.journal_store.specs.Opening.{keys_of}
use Rattle.journal_store.proofs.lawful.keys_of.Given as goal

-- the keys so far
abbrev pub invariant-loop-entry : goal.invariant-loop-entry
invariant-loop-entry l = l.keys.items ≡ keys_of (take l.entry-index l.entries)
