-- A name that is repeated in an object that is looked into is the first fault.
use Rattle.std.proofs.Common.{◌≡◌, ℕ, List, [], ◌∷◌, ◌++◌, Bool, true, false, ◌||◌, Some, Ok, Err, codes, refl, sym, ap, ◌∙◌}
use Rattle.scim_key.specs.Outcome.{◌>>=◌}
use Rattle.scim_key.specs.declared.records.Kind.{Kind}
use Rattle.scim_key.specs.declared.records.Kind.TheVariants as kinds
use Rattle.serde_json.specs.Data.{Data, object, Members}
use Rattle.serde_json.specs.View.{items_of}
use Rattle.scim_json.specs.Attributes.{attribute, repeats, value_repeats, items_repeat, list_repeats}
use Rattle.scim_resource.specs.Looked.{Lists, IsLookedInto, the_body, the_source, an_enterprise, a_name, an_email, a_member}
use Rattle.scim_resource.specs.Reading.{user_repeats, group_repeats, user_fields, group_fields, unless_repeated, read_content}
use Rattle.scim_resource.specs.Schemas.{enterprise_extension, source_extension}
use Rattle.scim_resource.specs.declared.contents.Content.TheVariants.{User, Group}
use Rattle.scim_resource.specs.declared.faults.ContentFault.TheVariants.{InvalidSyntax}

first : (a b : Bool) → a ≡ true → (a || b) ≡ true
first a b h = ap (λ c. c || b) h

later : (a b : Bool) → b ≡ true → (a || b) ≡ true
later true b h = refl
later false b h = h

items_with : (before after : List Data) (inner : Members) → repeats inner ≡ true → items_repeat (items_of (before ++ object inner ∷ after)) ≡ true
unfolding items_repeat
items_with [] after inner h = first (repeats inner) _ h
items_with (d ∷ ds) after inner h = later (value_repeats (Some d)) _ (items_with ds after inner h)

list_with : (name : List ℕ) (ms inner : Members) → Lists name ms inner → repeats inner ≡ true → list_repeats (attribute name ms) ≡ true
list_with name ms inner l h = ap list_repeats l.listed ∙ items_with l.before l.after inner h

value_with : (name : List ℕ) (ms inner : Members) → attribute name ms ≡ Some (object inner) → repeats inner ≡ true → value_repeats (attribute name ms) ≡ true
value_with name ms inner is h = ap value_repeats is ∙ h

user_first : (ms : Members) → user_repeats ms ≡ true → read_content kinds.User (object ms) ≡ Err InvalidSyntax
unfolding read_content
user_first ms h = ap (λ b. unless_repeated b (user_fields ms) >>= (λ u. Ok (User u))) h

group_first : (ms : Members) → group_repeats ms ≡ true → read_content kinds.Group (object ms) ≡ Err InvalidSyntax
unfolding read_content
group_first ms h = ap (λ b. unless_repeated b (group_fields ms) >>= (λ g. Ok (Group g))) h

user_repeats_at : (ms inner : Members) → IsLookedInto kinds.User ms inner → repeats inner ≡ true → user_repeats ms ≡ true
unfolding user_repeats
user_repeats_at ms inner (the_body is) h = first _ _ (first _ _ (first _ _ (first _ _ (ap repeats (sym is) ∙ h))))
user_repeats_at ms inner (the_source is) h = first _ _ (first _ _ (first _ _ (later _ _ (value_with source_extension ms inner is h))))
user_repeats_at ms inner (an_enterprise k is) h = first _ _ (first _ _ (later _ _ (value_with enterprise_extension ms inner is h)))
user_repeats_at ms inner (a_name k is) h = first _ _ (later _ _ (value_with (codes "name") ms inner is h))
user_repeats_at ms inner (an_email k l) h = later _ _ (list_with (codes "emails") ms inner l h)
user_repeats_at ms inner (a_member k l) h = cc

group_repeats_at : (ms inner : Members) → IsLookedInto kinds.Group ms inner → repeats inner ≡ true → group_repeats ms ≡ true
unfolding group_repeats
group_repeats_at ms inner (the_body is) h = first _ _ (first _ _ (ap repeats (sym is) ∙ h))
group_repeats_at ms inner (the_source is) h = first _ _ (later _ _ (value_with source_extension ms inner is h))
group_repeats_at ms inner (an_enterprise k is) h = cc
group_repeats_at ms inner (a_name k is) h = cc
group_repeats_at ms inner (an_email k l) h = cc
group_repeats_at ms inner (a_member k l) h = later _ _ (list_with (codes "members") ms inner l h)

pub repeated_first : (kind : Kind) (ms inner : Members) → IsLookedInto kind ms inner → repeats inner ≡ true → read_content kind (object ms) ≡ Err InvalidSyntax
repeated_first kinds.User ms inner looked h = user_first ms (user_repeats_at ms inner looked h)
repeated_first kinds.Group ms inner looked h = group_first ms (group_repeats_at ms inner looked h)
