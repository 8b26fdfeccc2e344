use Rattle.std.proofs.Common.{◌≡◌, ◌++◌, Some, drop, map}
use Rattle.source_csv.specs.Columns.{named}
use Rattle.commands.specs.Scopes.{record_in}
use Rattle.commands.proofs.scopes.records_in.Given as goal

-- the records so far, and those of the remaining words
abbrev pub invariant-loop-text : goal.invariant-loop-text
invariant-loop-text l =
    map Some l.names.items ++ map record_in (named (drop l.text-index l.texts)) ≡ map record_in (named l.texts)
