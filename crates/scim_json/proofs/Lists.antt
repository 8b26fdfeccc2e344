-- A test on the items of a list, over the values that the items are seen of.
use Rattle.std.proofs.Common.{◌≡◌, ℕ, List, [], ◌∷◌, ◌||◌, refl, ap}
use Rattle.std.specs.List.{list_any}
use Rattle.serde_json.specs.View.{view, items_view}
use Rattle.serde_json.specs.declared.value.Value.{Value}
use Rattle.scim_json.specs.Values.{is_text, some_text}

pub list_any_text : (text : List ℕ) (vs : List Value) → list_any (λ v. is_text text (view v)) vs ≡ some_text text (items_view vs)
unfolding some_text
list_any_text text [] = refl
list_any_text text (v ∷ vs) = ap (λ b. is_text text (view v) || b) (list_any_text text vs)
