use Rattle.provisioning.proofs.CompareLemmas.{kept}
use Rattle.provisioning.proofs.bases.keep_row.Goals as goal

pub returns : goal.returns
returns c other = kept c.args.rows.now c.insert.new.self c.args.name c.in_ok-copy.copy _ c.in_ok-copy.ensures c.in_ok-insert.ensures.updates other
