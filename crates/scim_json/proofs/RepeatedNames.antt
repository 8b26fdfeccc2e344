-- Looking for a repeated name with the set of the lowered names so far.
use Rattle.std.proofs.Common.{◌≡◌, ℕ, ◌+◌, ◌<◌, List, [], length, get_or, drop, Bool, true, false, cond, not, ◌||◌, Some, String, Global, string_bytes, string_cmp, nat_cmp, bytes_eq, refl, sym, ap, ◌∙◌, add-one, drop-cons}
use Rattle.std.proofs.lemmas.Map.Text.{btree_set_updates_text}
use Rattle.std.specs.BTreeSet.{BTreeSet, contains_text, UpdatesBy}
use Rattle.std.specs.Cmp.Lexicographic.{slice_cmp}
use Rattle.std.specs.Str.{str_to_ascii_lowercase}
use Rattle.serde_json.specs.Data.{Data, item, Members, no_members, member}
use Rattle.serde_json.specs.View.{view, items_view}
use Rattle.serde_json.specs.declared.value.Value.{Value}
use Rattle.scim_json.specs.Attributes.{same_name, has_name, repeats, value_repeats, items_repeat}

-- some name of the object is in the set, in lowered letters
abbrev pub meets : BTreeSet (String Global) → Members → Bool
meets s no_members = false
meets s (member k d ms) = contains_text s (str_to_ascii_lowercase k) || meets s ms

meets-empty : (s : BTreeSet (String Global)) (ms : Members) → s.keys ≡ [] → meets s ms ≡ false
meets-empty s no_members h = refl
meets-empty s (member k d ms) h = rw h (meets-empty s ms h)

regroup : (a c h m : Bool) → (cond a true c || (h || m)) ≡ ((a || h) || (c || m))
regroup true c h m = refl
regroup false true true m = refl
regroup false true false m = refl
regroup false false true m = refl
regroup false false false m = refl

meets-more : (s n : BTreeSet (String Global)) (k : List ℕ) → ((q : List ℕ) → contains_text n q ≡ cond (bytes_eq (str_to_ascii_lowercase k) q) true (contains_text s q))
    → (ms : Members) → meets n ms ≡ (has_name k ms || meets s ms)
unfolding has_name
meets-more s n k more no_members = refl
meets-more s n k more (member l d ms) =
    ap (λ b. b || meets n ms) (more (str_to_ascii_lowercase l)) ∙ ap (λ b. cond (same_name k l) true (contains_text s (str_to_ascii_lowercase l)) || b) (meets-more s n k more ms)
    ∙ regroup (same_name k l) (contains_text s (str_to_ascii_lowercase l)) (has_name k ms) (meets s ms)

pub repeats_start : (s : BTreeSet (String Global)) (ms : Members) → s.keys ≡ [] → (meets s ms || repeats ms) ≡ repeats ms
repeats_start s ms h = ap (λ b. b || repeats ms) (meets-empty s ms h)

swap : (h m p : Bool) → ((h || m) || p) ≡ (m || (h || p))
swap true true p = refl
swap true false p = refl
swap false m p = refl

-- a name that isn't in the set goes in
pub repeats_more : (s n : BTreeSet (String Global)) (low k : List ℕ) (d : Data) (ms : Members) (r : Bool) → low ≡ str_to_ascii_lowercase k
    → UpdatesBy string_cmp (λ x. slice_cmp nat_cmp low (string_bytes x)) s n true → contains_text s low ≡ false
    → (meets s (member k d ms) || repeats (member k d ms)) ≡ r → (meets n ms || repeats ms) ≡ r
unfolding repeats
repeats_more s n low k d ms r is updates absent so_far =
    let more = λ (q : List ℕ). btree_set_updates_text low s n true updates q ∙ ap (λ x. cond (bytes_eq x q) true (contains_text s q)) is in
    ap (λ b. b || repeats ms) (meets-more s n k more ms)
    ∙ swap (has_name k ms) (meets s ms) (repeats ms)
    ∙ ap (λ b. (b || meets s ms) || (has_name k ms || repeats ms)) (sym absent ∙ ap (contains_text s) is)
    ∙ so_far

-- a name that is in the set is repeated
pub repeats_found : (s : BTreeSet (String Global)) (low k : List ℕ) (d : Data) (ms : Members) (r : Bool) → low ≡ str_to_ascii_lowercase k
    → contains_text s low ≡ true → (meets s (member k d ms) || repeats (member k d ms)) ≡ r → true ≡ r
repeats_found s low k d ms r is found so_far =
    ap (λ b. (b || meets s ms) || repeats (member k d ms)) (sym found ∙ ap (contains_text s) is) ∙ so_far

-- ---- lists

here : (vs : List Value) (i : ℕ) (v : Value) → i < length vs → v ≡ get_or vs i v → items_view (drop i vs) ≡ item (view v) (items_view (drop (i + 1) vs))
here vs i v h is = ap items_view (drop-cons vs i v h) ∙ rw (add-one, ← is)

pub item_clear : (vs : List Value) (i : ℕ) (v : Value) (r : Bool) → i < length vs → v ≡ get_or vs i v → value_repeats (Some (view v)) ≡ false
    → items_repeat (items_view (drop i vs)) ≡ r → items_repeat (items_view (drop (i + 1) vs)) ≡ r
unfolding items_repeat
item_clear vs i v r h is clear so_far =
    ap (λ b. b || items_repeat (items_view (drop (i + 1) vs))) (sym clear) ∙ ap items_repeat (sym (here vs i v h is)) ∙ so_far

pub item_repeats : (vs : List Value) (i : ℕ) (v : Value) (r : Bool) → i < length vs → v ≡ get_or vs i v → value_repeats (Some (view v)) ≡ true
    → items_repeat (items_view (drop i vs)) ≡ r → true ≡ r
unfolding items_repeat
item_repeats vs i v r h is found so_far =
    ap (λ b. b || items_repeat (items_view (drop (i + 1) vs))) (sym found) ∙ ap items_repeat (sym (here vs i v h is)) ∙ so_far

-- what an insert that found the name new says
pub new_name : (added there : Bool) → added ≡ true → added ≡ not there → there ≡ false
new_name added true is e = sym is ∙ e
new_name added false is e = refl
