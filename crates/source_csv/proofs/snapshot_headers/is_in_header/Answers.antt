use Rattle.std.proofs.Common.{◌∙◌, string_bytes, sym, rules, tests}
use Rattle.std.proofs.lemmas.Iterator.{YieldsList-from_slice}
use Rattle.std.proofs.lemmas.Iterator.Search.{any_from_yields_List}
use Rattle.source_csv.specs.Layouts.{same_name}
use Rattle.source_csv.proofs.FieldLemmas.{any-named}
use Rattle.source_csv.proofs.snapshot_headers.is_in_header.Goals as goal

pub returns : goal.returns
returns c =
    let test = same_name (string_bytes c.args.alias.now.named) in
    any_from_yields_List (λ theirs. test theirs.now) _ _ c.any.result c.any.ensures.ran (YieldsList-from_slice _ c.iter.ensures.rest) (λ x b q k. search (rules, tests))
    ∙ sym (any-named test c.args.names.now)
