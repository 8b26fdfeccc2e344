use Rattle.std.proofs.Common.{◌≡◌, ◌++◌, drop, map}
use Rattle.source_csv.specs.Columns.{named}
use Rattle.source_csv.specs.Layouts.{ignored_in}
use Rattle.source_csv.proofs.snapshot_headers.ignored_in.Given as goal

-- the ignored names so far, and those of the remaining names
abbrev pub invariant-loop-theirs : goal.invariant-loop-theirs
invariant-loop-theirs l =
    map (λ name. name.items) l.ignored.items ++ ignored_in l.kind l.aliases (named (drop l.theirs-index l.names))
    ≡ ignored_in l.kind l.aliases (named l.names)
