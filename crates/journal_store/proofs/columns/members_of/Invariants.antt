use Rattle.std.proofs.Common.{◌≡◌, length, take}
use Rattle.source_csv.specs.Fields.{pieces}
use Rattle.source_csv.specs.Rows.{AreUserKeys}
use Rattle.journal_store.proofs.columns.members_of.Given as goal

-- the keys so far
abbrev pub invariant-loop-name : goal.invariant-loop-name
invariant-loop-name l = (l.keys.items ≡ take (length l.yielded) (pieces l.text)) × AreUserKeys l.keys.items
