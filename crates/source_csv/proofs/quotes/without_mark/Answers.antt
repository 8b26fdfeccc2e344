use Rattle.source_csv.proofs.QuoteLemmas.{mark_off}
use Rattle.source_csv.proofs.quotes.without_mark.Goals as goal

pub returns : goal.returns
returns c = mark_off c.strip_prefix.result c.args.bytes c.unwrap_or.result c.unwrap_or.ensures c.strip_prefix.ensures.cases
