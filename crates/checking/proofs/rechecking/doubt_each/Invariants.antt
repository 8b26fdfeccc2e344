use Rattle.std.proofs.Common.{◌≡◌, take}
use Rattle.checking.specs.Rechecks.{AreDoubted}
use Rattle.checking.proofs.rechecking.doubt_each.Given as goal

-- those so far are doubted
abbrev pub invariant-loop-record : goal.invariant-loop-record
invariant-loop-record g l = AreDoubted (take l.record-index l.doubtful) l.initial.connector l.connector
