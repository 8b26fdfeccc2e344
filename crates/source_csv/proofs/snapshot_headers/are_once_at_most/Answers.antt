use Rattle.std.proofs.Common.{◌∙◌, ap, rules, tests}
use Rattle.std.proofs.lemmas.Iterator.{YieldsList-from_slice}
use Rattle.std.proofs.lemmas.Iterator.Search.{all_from_yields_List}
use Rattle.std.specs.List.{list_all}
use Rattle.source_csv.specs.Columns.{named}
use Rattle.source_csv.specs.Layouts.{column_name, is_once_at_most}
use Rattle.source_csv.specs.declared.layouts.Column.{Column}
use Rattle.source_csv.proofs.snapshot_headers.are_once_at_most.Goals as goal

pub returns : goal.returns
returns c =
    let test = λ (column : Column). is_once_at_most c.args.aliases.now (named c.args.names.now) (column_name column) in
    all_from_yields_List test _ _ c.all.result c.all.ensures.ran (YieldsList-from_slice _ c.iter.ensures.rest) (λ x b q k. search (rules, tests)) ∙ ap (list_all test) c.snapshot_columns.ensures
