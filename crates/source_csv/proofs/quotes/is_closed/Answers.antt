use Rattle.std.proofs.Common.{◌≡◌, ◌∙◌, ap, not}
use Rattle.csv.specs.Reading.{strip_bom}
use Rattle.source_csv.specs.Quotes.{is_open, quoting_after}
use Rattle.source_csv.specs.declared.quotes.Quoting.TheVariants.{Start}
use Rattle.source_csv.proofs.QuoteLemmas.{open_at_end}
use Rattle.source_csv.proofs.quotes.is_closed.Goals as goal

pub returns : goal.returns
returns c =
    let separator = c.args.separator in
    let end : c.end_of.result ≡ quoting_after separator Start (strip_bom c.args.bytes.now) = c.end_of.ensures ∙ ap (quoting_after separator Start) c.without_mark.ensures in
    ap not (c.is_open.ensures ∙ ap is_open end ∙ open_at_end separator (strip_bom c.args.bytes.now))
