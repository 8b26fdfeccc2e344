use Rattle.std.proofs.Common.{◌≡◌, take}
use Rattle.scim_key.specs.declared.records.RecordName.{RecordName}
use Rattle.snapshots.specs.Snapshots.{mentions_in}
use Rattle.snapshots.specs.Tally.{KnowsRepeats, counts}
use Rattle.snapshots.proofs.tally.Tally.of.Given as goal

-- the records so far are counted, and it is known whether a name is repeated
abbrev pub invariant-loop-said : goal.invariant-loop-said
invariant-loop-said l = ((name : RecordName) → counts l.tally name ≡ mentions_in (take l.said-index l.records) name)
    × KnowsRepeats l.tally
