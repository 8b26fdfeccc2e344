use Rattle.std.proofs.Common.{◌∙◌, sym, rules, tests}
use Rattle.std.proofs.lemmas.Iterator.{YieldsList-from_slice}
use Rattle.std.proofs.lemmas.Iterator.Search.{any_from_yields_List}
use Rattle.source_csv.specs.Layouts.{is_taken_for}
use Rattle.source_csv.proofs.FieldLemmas.{any-named}
use Rattle.source_csv.proofs.snapshot_headers.is_there.Goals as goal

pub returns : goal.returns
returns c =
    let test = is_taken_for c.args.aliases.now c.args.ours.now in
    any_from_yields_List (λ theirs. test theirs.now) _ _ c.any.result c.any.ensures.ran (YieldsList-from_slice _ c.iter.ensures.rest) (λ x b q k. search (rules, tests))
    ∙ sym (any-named test c.args.names.now)
