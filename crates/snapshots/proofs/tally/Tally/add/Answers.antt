use Rattle.std.proofs.Common.{refl}
use Rattle.snapshots.proofs.Counting.{counted}
use Rattle.snapshots.proofs.tally.Tally.add.Goals as goal

pub returns-then-branch-gt1-clause-counts : goal.returns-then-branch-gt1-clause-counts
returns-then-branch-gt1-clause-counts c other =
    counted c.args.self.now.counts c.count_one.new.counts c.args.name _ refl c.in_ok-count_one.ensures.updates other

pub returns-else-branch-gt1-clause-counts : goal.returns-else-branch-gt1-clause-counts
returns-else-branch-gt1-clause-counts c other =
    counted c.args.self.now.counts c.count_one.new.counts c.args.name _ refl c.in_ok-count_one.ensures.updates other
