-- The values of a group's members, each kept once at its first place.
use Rattle.std.proofs.Common.{◌≡◌, ℕ, List, [], ◌∷◌, ◌++◌, Bool, true, false, cond, ◌||◌, Option, Some, None, Result, Ok, Err, codes, refl, sym, ap, ◌∙◌, append_assoc, append-nil}
use Rattle.std.proofs.lemmas.Slice.Eq.{bytes_eq-Decides}
use Rattle.std.specs.Str.{bytes_eq}
use Rattle.scim_key.specs.Outcome.{◌>>=◌}
use Rattle.scim_key.specs.declared.records.Kind.TheVariants as kinds
use Rattle.serde_json.specs.Data.{Data, array, object, Members}
use Rattle.serde_json.specs.View.{items_of}
use Rattle.scim_json.specs.Attributes.{attribute}
use Rattle.scim_resource.specs.FirstPlaces.{value_before, member_values, StandsBehind, KeepsFirsts}
use Rattle.scim_resource.specs.Groups.{GroupRecord, is_among, are_distinct, are_few_members}
use Rattle.scim_resource.specs.Reading.{lists_schema, display_name_in, text_in, revision_in, member_in, with_member, members_after, few_members, group_members_in, if_listed, group_fields, group_repeats, unless_repeated, read_group, read_content}
use Rattle.scim_resource.specs.Schemas.{core_group, source_extension}
use Rattle.scim_resource.specs.declared.contents.Content.{Content}
use Rattle.scim_resource.specs.declared.contents.Content.TheVariants.{Group}
use Rattle.scim_resource.specs.declared.faults.ContentFault.{ContentFault}
use Rattle.scim_resource.specs.declared.faults.ContentFault.TheVariants.{InvalidValue}
use Rattle.scim_resource.proofs.MemberLists.{are_distinct-with_member}

-- ---- one value after the other

abbrev merged : List (List ℕ) → List (List ℕ) → List (List ℕ)
merged kept [] = kept
merged kept (v ∷ vs) = merged (with_member kept (Some v)) vs

or_none : (a : Bool) → a ≡ (a || false)
or_none true = refl
or_none false = refl

or_assoc : (a b c : Bool) → ((a || b) || c) ≡ (a || (b || c))
or_assoc true b c = refl
or_assoc false b c = refl

among_push : (w v : List ℕ) (kept : List (List ℕ)) → is_among w (kept ++ v ∷ []) ≡ (is_among w kept || bytes_eq v w)
unfolding is_among
among_push w v [] = sym (or_none (bytes_eq v w))
among_push w v (x ∷ xs) = ap (λ b. bytes_eq x w || b) (among_push w v xs) ∙ sym (or_assoc (bytes_eq x w) (is_among w xs) (bytes_eq v w))

-- a value that is there already is found at its place
already : (b : Bool) (w v : List ℕ) (kept : List (List ℕ)) → bytes_eq v w ≡ b → is_among v kept ≡ true → is_among w kept ≡ (is_among w kept || b)
already true w v kept is there =
    let found : is_among w kept ≡ true = ap (λ x. is_among x kept) (sym ((bytes_eq-Decides v w).0 is)) ∙ there in
    found ∙ sym (ap (λ b. b || true) found)
already false w v kept is there = or_none (is_among w kept)

among_at : (b : Bool) (w v : List ℕ) (kept : List (List ℕ)) → is_among v kept ≡ b → is_among w (cond b kept (kept ++ v ∷ [])) ≡ (is_among w kept || bytes_eq v w)
among_at true w v kept there = already (bytes_eq v w) w v kept refl there
among_at false w v kept there = among_push w v kept

among_merged : (w : List ℕ) (kept vs : List (List ℕ)) → is_among w (merged kept vs) ≡ (is_among w kept || is_among w vs)
unfolding is_among
among_merged w kept [] = or_none (is_among w kept)
among_merged w kept (v ∷ vs) =
    among_merged w (with_member kept (Some v)) vs ∙ ap (λ b. b || is_among w vs) (among_at (is_among v kept) w v kept refl)
    ∙ or_assoc (is_among w kept) (bytes_eq v w) (is_among w vs)

distinct_merged : (kept vs : List (List ℕ)) → are_distinct kept ≡ true → are_distinct (merged kept vs) ≡ true
distinct_merged kept [] h = h
distinct_merged kept (v ∷ vs) h = distinct_merged (with_member kept (Some v)) vs (are_distinct-with_member kept (Some v) h)

merged-append : (kept xs ys : List (List ℕ)) → merged kept (xs ++ ys) ≡ merged (merged kept xs) ys
merged-append kept [] ys = refl
merged-append kept (x ∷ xs) ys = merged-append (with_member kept (Some x)) xs ys

extends_at : (b : Bool) (v : List ℕ) (kept all back : List (List ℕ)) → all ≡ cond b kept (kept ++ v ∷ []) ++ back → (more : List (List ℕ)) × (all ≡ kept ++ more)
extends_at true v kept all back is = (back, is)
extends_at false v kept all back is = (v ∷ back, is ∙ append_assoc kept (v ∷ []) back)

extends : (kept vs : List (List ℕ)) → (more : List (List ℕ)) × (merged kept vs ≡ kept ++ more)
extends kept [] = ([], sym (append-nil kept))
extends kept (v ∷ vs) =
    let rest = extends (with_member kept (Some v)) vs in
    extends_at (is_among v kept) v kept (merged (with_member kept (Some v)) vs) rest.0 rest.1

behind : (before after : List (List ℕ)) (v : List ℕ) → is_among v before ≡ false → StandsBehind (merged [] (before ++ v ∷ after)) v before
unfolding is_among
behind before after v new =
    let front = merged [] before in
    let absent : is_among v front ≡ false = among_merged v [] before ∙ new in
    let rest = extends (front ++ v ∷ []) after in
    record {
      front = front;
      back = rest.0;
      split = merged-append [] before (v ∷ after) ∙ ap (λ b. merged (cond b front (front ++ v ∷ [])) after) absent ∙ rest.1 ∙ append_assoc front (v ∷ []) rest.0;
      exactly = λ w. among_merged w [] before;
    }

keeps_firsts : (all kept : List (List ℕ)) → kept ≡ merged [] all → KeepsFirsts all kept
unfolding is_among are_distinct
keeps_firsts all kept is =
    rw is
    (record {
      each_once = distinct_merged [] all refl;
      none_lost = λ v. among_merged v [] all;
      first_places = λ before after v split new. rw split (behind before after v new);
    })

-- ---- reading

ok_same : {X F : Type 0} {x y : X} (r : Result X F) → r ≡ Ok x → r ≡ Ok y → y ≡ x
ok_same r is h = cc

err_is_not_ok : {X F : Type 0} {e : F} {y : X} → Err e ≡ Ok y → ⊥
err_is_not_ok h = cc

merges_one : (r : Result (Option (List ℕ)) ContentFault) (kept : List (List ℕ)) (ds : List Data) (vs : List (List ℕ))
    → ((more ws : List (List ℕ)) → members_after more (items_of ds) ≡ Ok ws → ws ≡ merged more (member_values ds)) → r >>= (λ o. members_after (with_member kept o) (items_of ds)) ≡ Ok vs
    → vs ≡ merged kept (value_before r (member_values ds))
merges_one (Ok None) kept ds vs others h = others kept vs h
merges_one (Ok (Some v)) kept ds vs others h = others (with_member kept (Some v)) vs h
merges_one (Err f) kept ds vs others h = absurd (err_is_not_ok h)

merges : (kept : List (List ℕ)) (ds : List Data) (vs : List (List ℕ)) → members_after kept (items_of ds) ≡ Ok vs → vs ≡ merged kept (member_values ds)
unfolding members_after
merges kept [] vs h = ok_same (Ok kept) refl h
merges kept (d ∷ ds) vs h = merges_one (member_in d) kept ds vs (λ more ws e. merges more ds ws e) h

-- the first step succeeded
went_well : {A B F : Type 0} (m : Result A F) (f : A → Result B F) (y : B) → m >>= f ≡ Ok y → (x : A) × (m ≡ Ok x) × (f x ≡ Ok y)
went_well (Ok x) f y h = (x, refl, h)
went_well (Err e) f y h = absurd (err_is_not_ok h)

few_same : (b : Bool) (vs ws : List (List ℕ)) (r : Result (List (List ℕ)) ContentFault) → r ≡ cond b (Ok vs) (Err InvalidValue) → r ≡ Ok ws → ws ≡ vs
few_same true vs ws r is h = ok_same r is h
few_same false vs ws r is h = absurd (err_is_not_ok (sym is ∙ h))

values_kept : (ds : List Data) (vs : List (List ℕ)) → group_members_in (Some (array (items_of ds))) ≡ Ok vs → KeepsFirsts (member_values ds) vs
values_kept ds vs h =
    let found = went_well (members_after [] (items_of ds)) few_members vs h in
    keeps_firsts (member_values ds) vs (few_same (are_few_members found.0) found.0 vs (few_members found.0) refl found.2 ∙ merges [] ds found.0 found.1)

listed_well : (b : Bool) (r : Result GroupRecord ContentFault) (g : GroupRecord) → if_listed b r ≡ Ok g → r ≡ Ok g
listed_well true r g h = h
listed_well false r g h = absurd (err_is_not_ok h)

clear_well : (b : Bool) (r : Result GroupRecord ContentFault) (g : GroupRecord) → unless_repeated b r ≡ Ok g → r ≡ Ok g
clear_well true r g h = absurd (err_is_not_ok h)
clear_well false r g h = h

group_well : (r : Result GroupRecord ContentFault) (g : GroupRecord) → r >>= (λ g. Ok (Group g)) ≡ Ok (Group g) → r ≡ Ok g
group_well (Ok x) g h = ap Ok (same_group (Ok (Group x)) refl h)
  where
    same_group : {x y : GroupRecord} (r : Result Content ContentFault) → r ≡ Ok (Group x) → r ≡ Ok (Group y) → x ≡ y
    same_group r is e = cc
group_well (Err e) g h = absurd (err_is_not_ok h)

members_well : (ms : Members) (g : GroupRecord) → group_fields ms ≡ Ok g → group_members_in (attribute (codes "members") ms) ≡ Ok g.members
unfolding group_fields
members_well ms g h =
    let one = went_well (display_name_in (attribute (codes "displayName") ms)) _ g (listed_well (lists_schema core_group (attribute (codes "schemas") ms)) _ g h) in
    let two = went_well (text_in (attribute (codes "externalId") ms)) _ g one.2 in
    let three = went_well (group_members_in (attribute (codes "members") ms)) _ g two.2 in
    let four = went_well (revision_in (attribute source_extension ms)) _ g three.2 in
    three.1 ∙ ap Ok (sym (ap (λ x. x.members) (ok_same _ refl four.2)))

pub members_kept_once : (ms : Members) (ds : List Data) (g : GroupRecord) → attribute (codes "members") ms ≡ Some (array (items_of ds)) → read_content kinds.Group (object ms) ≡ Ok (Group g)
    → KeepsFirsts (member_values ds) g.members
unfolding read_content
members_kept_once ms ds g is read =
    let fields = clear_well (group_repeats ms) (group_fields ms) g (group_well (read_group (object ms)) g read) in
    values_kept ds g.members (ap group_members_in (sym is) ∙ members_well ms g fields)
