use Rattle.std.proofs.Common.{◌∙◌, rules, tests}
use Rattle.std.proofs.lemmas.Iterator.{YieldsList-from_slice}
use Rattle.std.proofs.lemmas.Iterator.Consumers.{YieldsList-from_filter, count_from_yields_List}
use Rattle.std.proofs.lemmas.List.Sums.{length-filter}
use Rattle.std.specs.Result.{is_err}
use Rattle.provisioning.proofs.quiet.rejected_among.Goals as goal

pub returns : goal.returns
returns c =
    count_from_yields_List c.filter.result _ c.count.ensures.ran
    (YieldsList-from_filter _ is_err (YieldsList-from_slice c.args.records.now cc) c.filter.ensures.closure (λ x b q k. search (rules, tests)))
    ∙ length-filter is_err c.args.records.now
