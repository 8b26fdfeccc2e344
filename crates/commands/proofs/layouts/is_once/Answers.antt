use Rattle.std.proofs.Common.{◌≡◌, ◌∙◌, ◌==◌, ap, sym, rules, tests}
use Rattle.std.proofs.lemmas.Iterator.{YieldsList-from_slice}
use Rattle.std.proofs.lemmas.Iterator.Consumers.{YieldsList-from_filter, count_from_yields_List}
use Rattle.std.proofs.lemmas.List.Sums.{length-filter}
use Rattle.std.specs.List.{count_by}
use Rattle.source_csv.specs.Columns.{named}
use Rattle.source_csv.proofs.FieldLemmas.{filtered-named}
use Rattle.commands.specs.Layouts.{same_column}
use Rattle.commands.proofs.layouts.is_once.Goals as goal

pub returns : goal.returns
returns c =
    let test = same_column c.args.text.now in
    let counted : c.count.result ≡ count_by test (named c.args.texts.now) =
    count_from_yields_List c.filter.result _ c.count.ensures.ran
    (YieldsList-from_filter _ (λ other. test other.now) (YieldsList-from_slice c.args.texts.now cc) c.filter.ensures.closure (λ x b q k. search (rules, tests)))
    ∙ sym (filtered-named test c.args.texts.now)
    ∙ length-filter test (named c.args.texts.now) in
    ap (λ n. n == 1) counted
