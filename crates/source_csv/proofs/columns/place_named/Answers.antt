use Rattle.std.proofs.Common.{◌∙◌, sym, rules, tests}
use Rattle.std.proofs.lemmas.Iterator.{YieldsList-from_slice}
use Rattle.std.proofs.lemmas.Iterator.Search.{position_from_yields_List}
use Rattle.std.specs.Str.{bytes_eq}
use Rattle.source_csv.proofs.FieldLemmas.{position-named}
use Rattle.source_csv.proofs.columns.place_named.Goals as goal

pub returns : goal.returns
returns c =
    position_from_yields_List (λ column. bytes_eq column.now c.args.name.now) _ _ c.position.result c.position.ensures.ran (YieldsList-from_slice _ c.iter.ensures.rest) (λ x b q k. search (rules, tests))
    ∙ sym (position-named (λ column. bytes_eq column c.args.name.now) c.args.names.now)
