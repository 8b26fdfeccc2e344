use Rattle.std.proofs.Common.{◌∙◌, rules, tests}
use Rattle.std.proofs.lemmas.Iterator.{YieldsList-from_slice}
use Rattle.std.proofs.lemmas.Iterator.Search.{any_from_yields_List}
use Rattle.serde_json.specs.View.{view}
use Rattle.scim_json.specs.Values as spec
use Rattle.scim_json.proofs.Lists.{list_any_text}
use Rattle.scim_json.proofs.values.some_text.Goals as goal

pub returns : goal.returns
returns c =
    let items = c.args.items.now in
    any_from_yields_List (λ v. spec.is_text c.args.text.now (view v)) _ _ _ c.any.ensures.ran (YieldsList-from_slice items cc) (λ x b q k. search (rules, tests)) ∙ list_any_text c.args.text.now items
