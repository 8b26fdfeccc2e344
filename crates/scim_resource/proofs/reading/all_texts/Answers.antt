use Rattle.std.proofs.Common.{◌∙◌, rules, tests}
use Rattle.std.proofs.lemmas.Iterator.{YieldsList-from_slice}
use Rattle.std.proofs.lemmas.Iterator.Search.{all_from_yields_List}
use Rattle.serde_json.specs.View.{view}
use Rattle.scim_resource.specs.Reading as spec
use Rattle.scim_resource.proofs.Lists.{list_all_texts}
use Rattle.scim_resource.proofs.reading.all_texts.Goals as goal

pub returns : goal.returns
returns c =
    let items = c.args.items.now in
    all_from_yields_List (λ v. spec.is_text_or_null (view v)) _ _ _ c.all.ensures.ran (YieldsList-from_slice items cc) (λ x b q k. search (rules, tests)) ∙ list_all_texts items
