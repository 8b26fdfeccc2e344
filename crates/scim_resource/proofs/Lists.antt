-- The tests on the items of a list, over the values that the items are seen of.
use Rattle.std.proofs.Common.{◌≡◌, List, [], ◌∷◌, ◌&&◌, refl, ap}
use Rattle.std.specs.List.{list_all}
use Rattle.serde_json.specs.View.{view, items_view}
use Rattle.serde_json.specs.declared.value.Value.{Value}
use Rattle.scim_resource.specs.Reading.{is_text_or_null, all_texts}

pub list_all_texts : (vs : List Value) → list_all (λ v. is_text_or_null (view v)) vs ≡ all_texts (items_view vs)
unfolding all_texts
list_all_texts [] = refl
list_all_texts (v ∷ vs) = ap (λ b. is_text_or_null (view v) && b) (list_all_texts vs)
