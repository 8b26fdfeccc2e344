use Rattle.std.proofs.Common.{◌≡◌, drop}
use Rattle.source_csv.specs.Quotes.{quoting_after}
use Rattle.source_csv.specs.declared.quotes.Quoting.TheVariants.{Start}
use Rattle.source_csv.proofs.quotes.end_of.Given as goal

-- where the remaining bytes lead
abbrev pub invariant-loop-byte : goal.invariant-loop-byte
invariant-loop-byte l =
    quoting_after l.separator l.quoting (drop l.byte-index l.bytes) ≡ quoting_after l.separator Start l.bytes
