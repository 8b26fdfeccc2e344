use Rattle.std.proofs.Common.{◌≡◌, ◌∙◌, nat_le, ap, sym, rules, tests}
use Rattle.std.proofs.lemmas.Iterator.{YieldsList-from_slice}
use Rattle.std.proofs.lemmas.Iterator.Consumers.{YieldsList-from_filter, count_from_yields_List}
use Rattle.std.proofs.lemmas.List.Sums.{length-filter}
use Rattle.std.specs.List.{count_by}
use Rattle.source_csv.specs.Columns.{named}
use Rattle.source_csv.specs.Layouts.{is_taken_for}
use Rattle.source_csv.proofs.FieldLemmas.{filtered-named}
use Rattle.source_csv.proofs.snapshot_headers.is_once_at_most.Goals as goal

pub returns : goal.returns
returns c =
    let test = is_taken_for c.args.aliases.now c.args.ours.now in
    let counted : c.count.result ≡ count_by test (named c.args.names.now) =
    count_from_yields_List c.filter.result _ c.count.ensures.ran
    (YieldsList-from_filter _ (λ theirs. test theirs.now) (YieldsList-from_slice c.args.names.now cc) c.filter.ensures.closure (λ x b q k. search (rules, tests)))
    ∙ sym (filtered-named test c.args.names.now)
    ∙ length-filter test (named c.args.names.now) in
    ap (λ n. nat_le n 1) counted
