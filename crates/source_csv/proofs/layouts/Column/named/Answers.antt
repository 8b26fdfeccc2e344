use Rattle.std.proofs.Common.{◌∙◌, ap, rules, tests}
use Rattle.std.proofs.lemmas.Iterator.{YieldsList-from_slice}
use Rattle.std.proofs.lemmas.Iterator.Search.{find_from_yields_List}
use Rattle.std.specs.List.{find}
use Rattle.std.specs.Str.{bytes_eq}
use Rattle.source_csv.specs.declared.layouts.Column.{Column}
use Rattle.source_csv.specs.Layouts.{column_name}
use Rattle.source_csv.proofs.layouts.Column.named.Goals as goal

pub returns : goal.returns
returns c =
    let test = λ (column : Column). bytes_eq (column_name column) c.args.name.now in
    c.copied.ensures ∙ find_from_yields_List test _ _ c.find.result c.find.ensures.ran (YieldsList-from_slice _ c.iter.ensures.rest) (λ x b q k. search (rules, tests)) ∙ ap (find test) c.snapshot_columns.ensures
