use Rattle.std.proofs.Common.{◌≡◌, ◌++◌, drop, filter_map, map}
use Rattle.source_csv.specs.Columns.{named}
use Rattle.commands.specs.Layouts.{alias_in, view_of}
use Rattle.commands.proofs.layouts.aliases_of.Given as goal

-- the aliases so far, and those of the remaining values
abbrev pub invariant-loop-text : goal.invariant-loop-text
invariant-loop-text l =
    map view_of l.aliases.items ++ filter_map (alias_in l.kind) (named (drop l.text-index l.texts))
    ≡ filter_map (alias_in l.kind) (named l.texts)
