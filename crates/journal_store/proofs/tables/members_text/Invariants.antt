use Rattle.std.proofs.Common.{◌≡◌, ◌≤◌, length, take, string_bytes}
use Rattle.journal_store.specs.Rows.{members_text}
use Rattle.journal_store.proofs.tables.members_text.Given as goal

-- the keys so far
abbrev pub invariant-loop-at : goal.invariant-loop-at
invariant-loop-at l = (string_bytes l.text ≡ members_text (take l.at l.keys)) × (l.at ≤ length l.keys)
