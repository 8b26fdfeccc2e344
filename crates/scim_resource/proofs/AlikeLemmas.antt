-- Values that are alike are read the same.
use Rattle.std.proofs.Common.{◌≡◌, ℕ, List, [], ◌∷◌, map, Bool, true, false, cond, ◌&&◌, ◌||◌, Option, Some, None, Result, Ok, Err, codes, refl, ap, ap₂, ◌∙◌, subst}
use Rattle.std.proofs.lemmas.Slice.Eq.{bytes_eq-Decides}
use Rattle.std.specs.Str.{bytes_eq, str_to_ascii_lowercase}
use Rattle.scim_key.specs.Outcome.{◌>>=◌}
use Rattle.scim_key.specs.declared.records.Kind.{Kind}
use Rattle.scim_key.specs.declared.records.Kind.TheVariants as kinds
use Rattle.serde_json.specs.Data.{Data, object, Items, Members, no_members, member}
use Rattle.scim_json.specs.Attributes.{same_name, named, is_empty, present, attribute, has_name, repeats, value_repeats, items_repeat, list_repeats}
use Rattle.scim_json.specs.Values.{is_text, some_text, flag_or, whole_in, members_in}
use Rattle.scim_resource.specs.Alike.{Alike, same, lists, objects, ItemsAlike, no_more, one_more, AlikeIf, neither, both}
use Rattle.scim_resource.specs.Reading.{checked, is_text_or_null, all_texts, lists_schema, user_name_in, revision_of, revision_in, text_in, part_of, object_at, value_of, text_of, texts_in, user_texts_in, email_with, email_of, email_in, with_email, emails_of, few_emails, emails_in, display_name_in, member_in, with_member, members_after, few_members, group_members_in, user_fields, group_fields, user_repeats, group_repeats, unless_repeated, read_user, read_group, read_content}
use Rattle.scim_resource.specs.Schemas.{core_user, core_group, enterprise_extension, source_extension}
use Rattle.scim_resource.specs.UserTexts.{attribute_of, holder_of, name_of}
use Rattle.scim_resource.specs.declared.contents.Content.TheVariants.{User, Group}
use Rattle.scim_resource.specs.declared.faults.ContentFault.{ContentFault}
use Rattle.scim_resource.specs.declared.user_texts.TheConstants.{USER_TEXTS}
use Rattle.scim_resource.specs.declared.user_texts.UserText.{UserText}

-- two objects that are alike
record Match (ms ns : Members) : Type 0 where
  repeat : repeats ms ≡ repeats ns
  found : (name : List ℕ) → AlikeIf (named name ms) (named name ns)

same_if : (o : Option Data) → AlikeIf o o
same_if None = neither
same_if (Some d) = both d d (same d)

same_match : (ms : Members) → Match ms ms
same_match ms = record { repeat = refl; found = λ name. same_if (named name ms) }

-- ---- attributes

emptiness : (d e : Data) → Alike d e → is_empty d ≡ is_empty e
emptiness d e (same x) = refl
emptiness d e (lists ds es h) = refl
emptiness d e (objects ms ns r f) = refl

unless_empty : (b : Bool) (d e : Data) → Alike d e → AlikeIf (cond b None (Some d)) (cond b None (Some e))
unless_empty true d e h = neither
unless_empty false d e h = both d e h

present_alike : (o p : Option Data) → AlikeIf o p → AlikeIf (present o) (present p)
present_alike o p neither = neither
present_alike o p (both d e h) = subst (λ b. AlikeIf (cond (is_empty d) None (Some d)) (cond b None (Some e))) (emptiness d e h) (unless_empty (is_empty d) d e h)

attribute_alike : (name : List ℕ) (ms ns : Members) → Match ms ns → AlikeIf (attribute name ms) (attribute name ns)
attribute_alike name ms ns m = present_alike (named name ms) (named name ns) (m.found name)

-- ---- repeated names

value_repeats_alike : (o p : Option Data) → AlikeIf o p → value_repeats o ≡ value_repeats p
value_repeats_alike o p neither = refl
value_repeats_alike o p (both d e (same x)) = refl
value_repeats_alike o p (both d e (lists ds es h)) = refl
value_repeats_alike o p (both d e (objects ms ns r f)) = r

items_repeat_alike : (ds es : Items) → ItemsAlike ds es → items_repeat ds ≡ items_repeat es
unfolding items_repeat
items_repeat_alike ds es no_more = refl
items_repeat_alike ds es (one_more x y xs ys h t) = ap₂ (λ a b. a || b) (value_repeats_alike (Some x) (Some y) (both x y h)) (items_repeat_alike xs ys t)

list_repeats_alike : (o p : Option Data) → AlikeIf o p → list_repeats o ≡ list_repeats p
list_repeats_alike o p neither = refl
list_repeats_alike o p (both d e (same x)) = refl
list_repeats_alike o p (both d e (lists ds es h)) = items_repeat_alike ds es h
list_repeats_alike o p (both d e (objects ms ns r f)) = refl

-- ---- single values

text_alike : (o p : Option Data) → AlikeIf o p → text_in o ≡ text_in p
text_alike o p neither = refl
text_alike o p (both d e (same x)) = refl
text_alike o p (both d e (lists ds es h)) = refl
text_alike o p (both d e (objects ms ns r f)) = refl

user_name_alike : (o p : Option Data) → AlikeIf o p → user_name_in o ≡ user_name_in p
user_name_alike o p neither = refl
user_name_alike o p (both d e (same x)) = refl
user_name_alike o p (both d e (lists ds es h)) = refl
user_name_alike o p (both d e (objects ms ns r f)) = refl

display_name_alike : (o p : Option Data) → AlikeIf o p → display_name_in o ≡ display_name_in p
display_name_alike o p neither = refl
display_name_alike o p (both d e (same x)) = refl
display_name_alike o p (both d e (lists ds es h)) = refl
display_name_alike o p (both d e (objects ms ns r f)) = refl

flag_alike : (absent : Bool) (o p : Option Data) → AlikeIf o p → flag_or absent o ≡ flag_or absent p
flag_alike absent o p neither = refl
flag_alike absent o p (both d e (same x)) = refl
flag_alike absent o p (both d e (lists ds es h)) = refl
flag_alike absent o p (both d e (objects ms ns r f)) = refl

whole_alike : (o p : Option Data) → AlikeIf o p → whole_in o ≡ whole_in p
whole_alike o p neither = refl
whole_alike o p (both d e (same x)) = refl
whole_alike o p (both d e (lists ds es h)) = refl
whole_alike o p (both d e (objects ms ns r f)) = refl

text_or_null_alike : (d e : Data) → Alike d e → is_text_or_null d ≡ is_text_or_null e
text_or_null_alike d e (same x) = refl
text_or_null_alike d e (lists ds es h) = refl
text_or_null_alike d e (objects ms ns r f) = refl

is_text_alike : (text : List ℕ) (d e : Data) → Alike d e → is_text text d ≡ is_text text e
is_text_alike text d e (same x) = refl
is_text_alike text d e (lists ds es h) = refl
is_text_alike text d e (objects ms ns r f) = refl

all_texts_alike : (ds es : Items) → ItemsAlike ds es → all_texts ds ≡ all_texts es
unfolding all_texts
all_texts_alike ds es no_more = refl
all_texts_alike ds es (one_more x y xs ys h t) = ap₂ (λ a b. a && b) (text_or_null_alike x y h) (all_texts_alike xs ys t)

some_text_alike : (text : List ℕ) (ds es : Items) → ItemsAlike ds es → some_text text ds ≡ some_text text es
unfolding some_text
some_text_alike text ds es no_more = refl
some_text_alike text ds es (one_more x y xs ys h t) = ap₂ (λ a b. a || b) (is_text_alike text x y h) (some_text_alike text xs ys t)

schema_alike : (urn : List ℕ) (o p : Option Data) → AlikeIf o p → lists_schema urn o ≡ lists_schema urn p
schema_alike urn o p neither = refl
schema_alike urn o p (both d e (same x)) = refl
schema_alike urn o p (both d e (lists ds es h)) = ap₂ (λ a b. a && b) (all_texts_alike ds es h) (some_text_alike urn ds es h)
schema_alike urn o p (both d e (objects ms ns r f)) = refl

-- ---- the source extension

revision_alike : (o p : Option Data) → AlikeIf o p → revision_in o ≡ revision_in p
revision_alike o p neither = refl
revision_alike o p (both d e (same x)) = refl
revision_alike o p (both d e (lists ds es h)) = refl
revision_alike o p (both d e (objects ms ns r f)) =
    let number = whole_alike (attribute (codes "revision") ms) (attribute (codes "revision") ns) (attribute_alike (codes "revision") ms ns (record { repeat = r; found = f })) in
    let epoch = whole_alike (attribute (codes "epoch") ms) (attribute (codes "epoch") ns) (attribute_alike (codes "epoch") ms ns (record { repeat = r; found = f })) in
    ap₂ (λ n e. checked n >>= revision_of e) number epoch

-- ---- the texts of a user

held_alike : (key : List ℕ) (o p : Option Data) → AlikeIf o p → text_of (members_in o >>= (λ held. Ok (part_of key held))) ≡ text_of (members_in p >>= (λ held. Ok (part_of key held)))
held_alike key o p neither = refl
held_alike key o p (both d e (same x)) = refl
held_alike key o p (both d e (lists ds es h)) = refl
held_alike key o p (both d e (objects ms ns r f)) = text_alike _ _ (attribute_alike key ms ns (record { repeat = r; found = f }))

-- a text of the user itself, or of the object under an attribute
text_at_alike : (place : Option (List ℕ)) (key : List ℕ) (ms ns : Members) → Match ms ns
    → text_of (object_at place ms >>= (λ held. Ok (part_of key held))) ≡ text_of (object_at place ns >>= (λ held. Ok (part_of key held)))
text_at_alike None key ms ns m = text_alike _ _ (attribute_alike key ms ns m)
text_at_alike (Some name) key ms ns m = held_alike key _ _ (attribute_alike name ms ns m)

texts_alike : (ms ns : Members) → Match ms ns → (ws : List UserText) → texts_in (map (value_of ms) ws) ≡ texts_in (map (value_of ns) ws)
unfolding texts_in
texts_alike ms ns m [] = refl
texts_alike ms ns m (w ∷ ws) =
    ap₂ (λ a b. a >>= (λ text. b >>= (λ texts. Ok (text ∷ texts)))) (text_at_alike (attribute_of (holder_of w)) (name_of w) ms ns m) (texts_alike ms ns m ws)

user_texts_alike : (ms ns : Members) → Match ms ns → user_texts_in ms ≡ user_texts_in ns
unfolding user_texts_in
user_texts_alike ms ns m = texts_alike ms ns m USER_TEXTS

-- ---- emails

email_alike : (ms ns : Members) → Match ms ns → email_of ms ≡ email_of ns
unfolding email_of
email_alike ms ns m =
    let value = text_alike _ _ (attribute_alike (codes "value") ms ns m) in
    let kind = text_alike _ _ (attribute_alike (codes "type") ms ns m) in
    let primary = flag_alike false _ _ (attribute_alike (codes "primary") ms ns m) in
    after value kind primary
  where
    after : text_in (attribute (codes "value") ms) ≡ text_in (attribute (codes "value") ns) → text_in (attribute (codes "type") ms) ≡ text_in (attribute (codes "type") ns)
        → flag_or false (attribute (codes "primary") ms) ≡ flag_or false (attribute (codes "primary") ns)
        → text_in (attribute (codes "value") ms) >>= email_with ms ≡ text_in (attribute (codes "value") ns) >>= email_with ns
    after v k p = ap (λ r. r >>= email_with ms) v ∙ at (text_in (attribute (codes "value") ns))
      where
        at : (r : Result (Option (List ℕ)) ContentFault) → r >>= email_with ms ≡ r >>= email_with ns
        at (Ok None) = refl
        at (Ok (Some value)) = ap₂ (λ t f. t >>= (λ type_text. checked f >>= (λ primary. Ok (Some (record { value = value; type_text = type_text; primary = primary }))))) k p
        at (Err e) = refl

email_in_alike : (d e : Data) → Alike d e → email_in d ≡ email_in e
email_in_alike d e (same x) = refl
email_in_alike d e (lists ds es h) = refl
email_in_alike d e (objects ms ns r f) = email_alike ms ns (record { repeat = r; found = f })

emails_of_alike : (ds es : Items) → ItemsAlike ds es → emails_of ds ≡ emails_of es
unfolding emails_of
emails_of_alike ds es no_more = refl
emails_of_alike ds es (one_more x y xs ys h t) = ap₂ (λ a b. a >>= (λ e. b >>= (λ es. Ok (with_email e es)))) (email_in_alike x y h) (emails_of_alike xs ys t)

emails_alike : (o p : Option Data) → AlikeIf o p → emails_in o ≡ emails_in p
emails_alike o p neither = refl
emails_alike o p (both d e (same x)) = refl
emails_alike o p (both d e (lists ds es h)) = ap (λ r. r >>= few_emails) (emails_of_alike ds es h)
emails_alike o p (both d e (objects ms ns r f)) = refl

-- ---- members

member_alike : (d e : Data) → Alike d e → member_in d ≡ member_in e
member_alike d e (same x) = refl
member_alike d e (lists ds es h) = refl
member_alike d e (objects ms ns r f) = text_alike _ _ (attribute_alike (codes "value") ms ns (record { repeat = r; found = f }))

-- steps that go on alike
then_alike : (f g : List (List ℕ) → Result (List (List ℕ)) ContentFault) → ((ws : List (List ℕ)) → f ws ≡ g ws) → (vs : List (List ℕ)) (r : Result (Option (List ℕ)) ContentFault)
    → r >>= (λ v. f (with_member vs v)) ≡ r >>= (λ v. g (with_member vs v))
then_alike f g h vs (Ok v) = h (with_member vs v)
then_alike f g h vs (Err e) = refl

members_after_alike : (ds es : Items) → ItemsAlike ds es → (vs : List (List ℕ)) → members_after vs ds ≡ members_after vs es
unfolding members_after
members_after_alike ds es no_more vs = refl
members_after_alike ds es (one_more x y xs ys h t) vs =
    ap (λ r. r >>= (λ v. members_after (with_member vs v) xs)) (member_alike x y h) ∙ then_alike (λ ws. members_after ws xs) (λ ws. members_after ws ys) (λ ws. members_after_alike xs ys t ws) vs (member_in y)

members_alike : (o p : Option Data) → AlikeIf o p → group_members_in o ≡ group_members_in p
members_alike o p neither = refl
members_alike o p (both d e (same x)) = refl
members_alike o p (both d e (lists ds es h)) = ap (λ r. r >>= few_members) (members_after_alike ds es h [])
members_alike o p (both d e (objects ms ns r f)) = refl

-- ---- resources

user_repeats_alike : (ms ns : Members) → Match ms ns → user_repeats ms ≡ user_repeats ns
unfolding user_repeats
user_repeats_alike ms ns m =
    rw (m.repeat, value_repeats_alike _ _ (attribute_alike source_extension ms ns m), value_repeats_alike _ _ (attribute_alike enterprise_extension ms ns m), value_repeats_alike _ _ (attribute_alike (codes "name") ms ns m), list_repeats_alike _ _ (attribute_alike (codes "emails") ms ns m))

group_repeats_alike : (ms ns : Members) → Match ms ns → group_repeats ms ≡ group_repeats ns
unfolding group_repeats
group_repeats_alike ms ns m =
    rw (m.repeat, value_repeats_alike _ _ (attribute_alike source_extension ms ns m), list_repeats_alike _ _ (attribute_alike (codes "members") ms ns m))

user_fields_alike : (ms ns : Members) → Match ms ns → user_fields ms ≡ user_fields ns
unfolding user_fields
user_fields_alike ms ns m =
    rw (schema_alike core_user _ _ (attribute_alike (codes "schemas") ms ns m), user_name_alike _ _ (attribute_alike (codes "userName") ms ns m), user_texts_alike ms ns m, emails_alike _ _ (attribute_alike (codes "emails") ms ns m), flag_alike true _ _ (attribute_alike (codes "active") ms ns m), revision_alike _ _ (attribute_alike source_extension ms ns m))

group_fields_alike : (ms ns : Members) → Match ms ns → group_fields ms ≡ group_fields ns
unfolding group_fields
group_fields_alike ms ns m =
    rw (schema_alike core_group _ _ (attribute_alike (codes "schemas") ms ns m), display_name_alike _ _ (attribute_alike (codes "displayName") ms ns m), text_alike _ _ (attribute_alike (codes "externalId") ms ns m), members_alike _ _ (attribute_alike (codes "members") ms ns m), revision_alike _ _ (attribute_alike source_extension ms ns m))

user_alike : (ms ns : Members) → Match ms ns → read_user (object ms) ≡ read_user (object ns)
user_alike ms ns m = ap₂ (λ b r. unless_repeated b r) (user_repeats_alike ms ns m) (user_fields_alike ms ns m)

group_alike : (ms ns : Members) → Match ms ns → read_group (object ms) ≡ read_group (object ns)
group_alike ms ns m = ap₂ (λ b r. unless_repeated b r) (group_repeats_alike ms ns m) (group_fields_alike ms ns m)

pub alike_read : (kind : Kind) (d e : Data) → Alike d e → read_content kind d ≡ read_content kind e
unfolding read_content
alike_read kind d e (same x) = refl
alike_read kinds.User d e (lists ds es h) = refl
alike_read kinds.Group d e (lists ds es h) = refl
alike_read kinds.User d e (objects ms ns r f) = ap (λ u. u >>= (λ u. Ok (User u))) (user_alike ms ns (record { repeat = r; found = f }))
alike_read kinds.Group d e (objects ms ns r f) = ap (λ g. g >>= (λ g. Ok (Group g))) (group_alike ms ns (record { repeat = r; found = f }))

-- ---- a name in another case

lowered_same : (k l : List ℕ) → same_name k l ≡ true → str_to_ascii_lowercase k ≡ str_to_ascii_lowercase l
lowered_same k l h = (bytes_eq-Decides _ _).0 h

has_name_lowered : (k l : List ℕ) → str_to_ascii_lowercase k ≡ str_to_ascii_lowercase l → (ms : Members) → has_name k ms ≡ has_name l ms
unfolding has_name
has_name_lowered k l e no_members = refl
has_name_lowered k l e (member j d ms) = ap₂ (λ low b. bytes_eq low (str_to_ascii_lowercase j) || b) e (has_name_lowered k l e ms)

pub renamed_alike : (k l : List ℕ) (d : Data) (ms : Members) → same_name k l ≡ true → Alike (object (member k d ms)) (object (member l d ms))
unfolding named repeats
renamed_alike k l d ms h =
    let e = lowered_same k l h in
    objects (member k d ms) (member l d ms) (ap (λ b. b || repeats ms) (has_name_lowered k l e ms))
    (λ name. subst (λ low. AlikeIf (cond (bytes_eq (str_to_ascii_lowercase k) (str_to_ascii_lowercase name)) (Some d) (named name ms)) (cond (bytes_eq low (str_to_ascii_lowercase name)) (Some d) (named name ms))) e (same_if _))
