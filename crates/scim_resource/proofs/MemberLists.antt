-- Lists of members within their limits, and reading them item by item.
use Rattle.std.proofs.Common.{◌≡◌, ℕ, ◌+◌, ◌<◌, ◌≤◌, List, [], ◌∷◌, ◌++◌, length, get_or, drop, Bool, true, false, not, cond, ◌&&◌, ◌||◌, Option, Some, None, Result, Ok, Err, refl, sym, ap, ◌∙◌, subst, arith}
use Rattle.std.proofs.lemmas.Bool.{and_parts, or_parts, leb-false, lt-leb, le-leb}
use Rattle.std.proofs.lemmas.List.{drop_all, length-append}
use Rattle.std.proofs.lemmas.Slice.Eq.{bytes_eq-Decides}
use Rattle.std.specs.List.{list_any}
use Rattle.std.specs.Str.{bytes_eq}
use Rattle.scim_key.specs.Outcome.{◌>>=◌}
use Rattle.std.specs.Prelude.{codes}
use Rattle.serde_json.specs.Data.{Data, null, boolean, number, string, array, object, Items, no_items, item}
use Rattle.serde_json.specs.View.{view, items_view}
use Rattle.serde_json.specs.declared.value.Value.{Value}
use Rattle.scim_resource.specs.Groups.{AreTexts, IsMemberList, is_among, are_distinct, are_few_members}
use Rattle.scim_resource.specs.declared.groups.TheConstants.{MEMBER_LIMIT}
use Rattle.scim_resource.specs.Reading.{member_in, members_after, with_member, few_members, members_of, text_in}
use Rattle.scim_resource.specs.Texts.{IsText, IsTextIf, is_short_text}
use Rattle.scim_resource.specs.declared.faults.ContentFault.{ContentFault}
use Rattle.scim_resource.specs.declared.faults.ContentFault.TheVariants.{InvalidValue}
use Rattle.scim_json.specs.Attributes.{attribute}
use Rattle.scim_resource.proofs.EmailLists.{here}

pub no_values : (vs : List (List ℕ)) → vs ≡ [] → IsMemberList vs
unfolding are_distinct
no_values vs none = rw none (record { each = tt; distinct = refl; few = refl })

pub list_any_same : (v : List ℕ) (vs : List (List ℕ)) → list_any (λ w. bytes_eq w v) vs ≡ is_among v vs
unfolding is_among
list_any_same v [] = refl
list_any_same v (w ∷ ws) = ap (λ b. bytes_eq w v || b) (list_any_same v ws)

both_ways : (a b : Bool) (v w : List ℕ) → bytes_eq v w ≡ a → bytes_eq w v ≡ b → a ≡ b
both_ways true true v w h k = refl
both_ways true false v w h k = sym ((bytes_eq-Decides w v).1 (sym ((bytes_eq-Decides v w).0 h))) ∙ k
both_ways false true v w h k = sym h ∙ (bytes_eq-Decides v w).1 (sym ((bytes_eq-Decides w v).0 k))
both_ways false false v w h k = refl

same_either_way : (v w : List ℕ) → bytes_eq v w ≡ bytes_eq w v
same_either_way v w = both_ways _ _ v w refl refl

nor : (a b : Bool) → a ≡ false → b ≡ false → (a || b) ≡ false
nor true b h k = h
nor false b h k = k

is_among-push : (v w : List ℕ) (vs : List (List ℕ)) → is_among w vs ≡ false → bytes_eq v w ≡ false → is_among w (vs ++ v ∷ []) ≡ false
unfolding is_among
is_among-push v w [] h k = nor (bytes_eq v w) false k refl
is_among-push v w (x ∷ xs) h k =
    let both = or_parts (bytes_eq x w) _ h in
    nor (bytes_eq x w) _ both.0 (is_among-push v w xs both.1 k)

are_distinct-push : (v : List ℕ) (vs : List (List ℕ)) → are_distinct vs ≡ true → is_among v vs ≡ false → are_distinct (vs ++ v ∷ []) ≡ true
unfolding is_among are_distinct
are_distinct-push v [] h k = refl
are_distinct-push v (x ∷ xs) h k =
    let distinct = and_parts (not (is_among x xs)) _ h in
    let apart = or_parts (bytes_eq x v) _ k in
    both (is_among x (xs ++ v ∷ [])) (is_among-push v x xs (no (is_among x xs) distinct.0) (same_either_way v x ∙ apart.0)) (are_distinct-push v xs distinct.1 apart.1)
  where
    no : (b : Bool) → not b ≡ true → b ≡ false
    no true h = sym h
    no false h = refl

    both : (b : Bool) → {c : Bool} → b ≡ false → c ≡ true → (not b && c) ≡ true
    both true h k = sym h
    both false h k = k

AreTexts-push : (v : List ℕ) (vs : List (List ℕ)) → AreTexts vs → IsText v → AreTexts (vs ++ v ∷ [])
AreTexts-push v [] h k = (k, tt)
AreTexts-push v (x ∷ xs) h k = (h.0, AreTexts-push v xs h.1 k)

texts_at : (b : Bool) (v : List ℕ) (vs : List (List ℕ)) → AreTexts vs → IsText v → AreTexts (cond b vs (vs ++ v ∷ []))
texts_at true v vs h k = h
texts_at false v vs h k = AreTexts-push v vs h k

pub AreTexts-with_member : (vs : List (List ℕ)) (o : Option (List ℕ)) → AreTexts vs → IsTextIf o → AreTexts (with_member vs o)
AreTexts-with_member vs None h k = h
AreTexts-with_member vs (Some v) h k = texts_at (is_among v vs) v vs h k

distinct_at : (b : Bool) (v : List ℕ) (vs : List (List ℕ)) → is_among v vs ≡ b → are_distinct vs ≡ true → are_distinct (cond b vs (vs ++ v ∷ [])) ≡ true
distinct_at true v vs e h = h
distinct_at false v vs e h = are_distinct-push v vs h e

pub are_distinct-with_member : (vs : List (List ℕ)) (o : Option (List ℕ)) → are_distinct vs ≡ true → are_distinct (with_member vs o) ≡ true
are_distinct-with_member vs None h = h
are_distinct-with_member vs (Some v) h = distinct_at (is_among v vs) v vs refl h

-- ---- reading a list of members item by item

pub reads_member : (vs : List Value) (i : ℕ) (v : Value) (kept : List (List ℕ)) (o : Option (List ℕ)) (r : Result (List (List ℕ)) ContentFault) → i < length vs → v ≡ get_or vs i v
    → member_in (view v) ≡ Ok o → members_after kept (items_view (drop i vs)) ≡ r → members_after (with_member kept o) (items_view (drop (i + 1) vs)) ≡ r
unfolding members_after
reads_member vs i v kept o r h is read so_far =
    ap (λ p. p >>= (λ v. members_after (with_member kept v) (items_view (drop (i + 1) vs)))) (sym read)
    ∙ ap (members_after kept) (sym (here vs i v h is)) ∙ so_far

pub member_fault : (vs : List Value) (i : ℕ) (v : Value) (kept : List (List ℕ)) (f : ContentFault) (r : Result (List (List ℕ)) ContentFault) → i < length vs → v ≡ get_or vs i v
    → member_in (view v) ≡ Err f → members_after kept (items_view (drop i vs)) ≡ r → r ≡ Err f
unfolding members_after
member_fault vs i v kept f r h is read so_far =
    sym so_far ∙ ap (members_after kept) (here vs i v h is)
    ∙ ap (λ p. p >>= (λ v. members_after (with_member kept v) (items_view (drop (i + 1) vs)))) read

pub members_end : (vs : List Value) (i : ℕ) (kept : List (List ℕ)) (r : Result (List (List ℕ)) ContentFault) → length vs ≤ i
    → members_after kept (items_view (drop i vs)) ≡ r → r ≡ Ok kept
unfolding members_after
members_end vs i kept r h so_far = sym so_far ∙ ap (λ ws. members_after kept (items_view ws)) (drop_all i vs h)

-- ---- more members than a group may have

many_push : (v : List ℕ) (vs : List (List ℕ)) → are_few_members vs ≡ false → are_few_members (vs ++ v ∷ []) ≡ false
many_push v vs h =
    let many = leb-false (length vs) MEMBER_LIMIT h in
    lt-leb (length (vs ++ v ∷ [])) MEMBER_LIMIT (omega (arith, many, length-append vs (v ∷ [])))

many_at : (b : Bool) (v : List ℕ) (vs : List (List ℕ)) → are_few_members vs ≡ false → are_few_members (cond b vs (vs ++ v ∷ [])) ≡ false
many_at true v vs h = h
many_at false v vs h = many_push v vs h

many-with_member : (vs : List (List ℕ)) (o : Option (List ℕ)) → are_few_members vs ≡ false → are_few_members (with_member vs o) ≡ false
many-with_member vs None h = h
many-with_member vs (Some v) h = many_at (is_among v vs) v vs h

-- it fails as an invalid value, if it fails
abbrev IsInvalidAtMost : {X : Type 0} → Result X ContentFault → Type 0
IsInvalidAtMost (Ok x) = Unit {0}
IsInvalidAtMost (Err e) = e ≡ InvalidValue

abbrev short : Bool → List ℕ → Result (Option (List ℕ)) ContentFault
short b s = cond b (Ok (Some s)) (Err InvalidValue)

short_at : (b : Bool) (s : List ℕ) → IsInvalidAtMost (short b s)
short_at true s = tt
short_at false s = refl

text_at_most : (o : Option Data) → IsInvalidAtMost (text_in o)
text_at_most None = tt
text_at_most (Some null) = refl
text_at_most (Some (boolean b)) = refl
text_at_most (Some (number n)) = refl
text_at_most (Some (string s)) = short_at (is_short_text s) s
text_at_most (Some (array ds)) = refl
text_at_most (Some (object ms)) = refl

member_at_most : (d : Data) → IsInvalidAtMost (member_in d)
member_at_most null = tt
member_at_most (boolean b) = refl
member_at_most (number n) = refl
member_at_most (string s) = refl
member_at_most (array ds) = refl
member_at_most (object ms) = text_at_most (attribute (codes "value") ms)

refused_either_way : {X Y Z : Type 0} (r : Result X ContentFault) (f : X → Result Y ContentFault) (g : Y → Result Z ContentFault) → IsInvalidAtMost r
    → ((x : X) → (f x >>= g) ≡ Err InvalidValue) → ((r >>= f) >>= g) ≡ Err InvalidValue
refused_either_way (Ok x) f g only h = h x
refused_either_way (Err e) f g only h = ap Err only

-- after too many members, the list is refused, whatever follows
pub too_many : (kept : List (List ℕ)) (ds : Items) → are_few_members kept ≡ false → (members_after kept ds >>= few_members) ≡ Err InvalidValue
unfolding members_after
too_many kept no_items h = ap (λ b. cond b (Ok kept) (Err InvalidValue)) h
too_many kept (item d ds) h =
    refused_either_way (member_in d) (λ o. members_after (with_member kept o) ds) few_members (member_at_most d)
    (λ o. too_many (with_member kept o) ds (many-with_member kept o h))

-- ---- reading back what was written

-- none of the values is among these
abbrev pub Fresh : List (List ℕ) → List (List ℕ) → Type 0
Fresh kept [] = Unit {0}
Fresh kept (v ∷ vs) = (is_among v kept ≡ false) × Fresh kept vs

pub Fresh-none : (vs : List (List ℕ)) → Fresh [] vs
unfolding is_among
Fresh-none [] = tt
Fresh-none (v ∷ vs) = (refl, Fresh-none vs)

pub Fresh-push : (kept : List (List ℕ)) (v : List ℕ) (vs : List (List ℕ)) → Fresh kept vs → is_among v vs ≡ false → Fresh (kept ++ v ∷ []) vs
unfolding is_among
Fresh-push kept v [] h k = tt
Fresh-push kept v (w ∷ ws) h k =
    let apart = or_parts (bytes_eq w v) _ k in
    (is_among-push v w kept h.0 (same_either_way v w ∙ apart.0), Fresh-push kept v ws h.1 apart.1)

pub record Kept (vs : List Value) (i : ℕ) (kept : List (List ℕ)) : Type 0 where
  pub so_far : members_after kept (items_view (drop i vs)) ≡ members_after [] (items_view vs)
  pub lawful : AreTexts kept
  pub distinct : are_distinct kept ≡ true
  pub few : are_few_members kept ≡ true

pub Kept-none : (vs : List Value) (kept : List (List ℕ)) → kept ≡ [] → Kept vs 0 kept
unfolding are_distinct
Kept-none vs kept none = rw none (record { so_far = refl; lawful = tt; distinct = refl; few = refl })

pub Kept-more : (vs : List Value) (i : ℕ) (v : Value) (kept more : List (List ℕ)) (o : Option (List ℕ)) → i < length vs → v ≡ get_or vs i v
    → member_in (view v) ≡ Ok o → IsTextIf o → more ≡ with_member kept o → length more ≤ MEMBER_LIMIT → Kept vs i kept → Kept vs (i + 1) more
Kept-more vs i v kept more o h is read lawful e few before =
    rw e
    (record {
      so_far = reads_member vs i v kept o _ h is read before.so_far;
      lawful = AreTexts-with_member kept o before.lawful lawful;
      distinct = are_distinct-with_member kept o before.distinct;
      few = le-leb _ _ (subst (λ ms. length ms ≤ MEMBER_LIMIT) e few);
    })

-- a list is refused at the member that is one too many
pub one_too_many : (vs : List Value) (i : ℕ) (v : Value) (kept more : List (List ℕ)) (o : Option (List ℕ)) → i < length vs → v ≡ get_or vs i v
    → member_in (view v) ≡ Ok o → more ≡ with_member kept o → MEMBER_LIMIT < length more → Kept vs i kept → members_of (items_view vs) ≡ Err InvalidValue
one_too_many vs i v kept more o h is read e many before =
    ap (λ r. r >>= few_members) (sym (reads_member vs i v kept o _ h is read before.so_far))
    ∙ too_many (with_member kept o) (items_view (drop (i + 1) vs)) (lt-leb _ _ (subst (λ ms. MEMBER_LIMIT < length ms) e many))
