use Rattle.std.proofs.Common.{◌∙◌}
use Rattle.std.proofs.lemmas.Iterator.Adapters.{YieldsList-from_vec}
use Rattle.provisioning.proofs.CompareLemmas.{collected}
use Rattle.provisioning.proofs.bases.absent_from.Goals as goal

pub returns : goal.returns
returns c =
    let names = c.in_ok-all_absent.field-0 in
    collected names.items c.args.sources.now c.collect.result c.collect.ensures.ran
    (YieldsList-from_vec {s = c.into_iter.result} names.items c.into_iter.ensures.rest (c.into_iter.ensures.len ∙ names.ok.0)) c.in_ok-all_absent.ensures
