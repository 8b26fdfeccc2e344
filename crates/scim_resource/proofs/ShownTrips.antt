-- A resource that is shown is read back whole.
use Rattle.std.proofs.Common.{◌≡◌, ℕ, suc, ◌==◌, List, [], ◌∷◌, length, false, Option, Some, None, Ok, option_map, IfSome, codes, inl, inr, refl, sym, ap, ◌∙◌, arith, le-leb}
use Rattle.std.proofs.lemmas.Bool.{ne_eqb}
use Rattle.scim_key.specs.Identifiers.{IsId, id_fault}
use Rattle.scim_key.specs.declared.records.Kind.{Kind}
use Rattle.scim_version.specs.Tags.{IsEntityTag, tag_fault}
use Rattle.scim_version.proofs.Grammar.{test-from_IsEntityTag}
use Rattle.serde_json.specs.Data.{Data, string, object, Members}
use Rattle.scim_json.specs.Attributes.{attribute, present, value_repeats}
use Rattle.scim_json.proofs.Parts.{named-members_from, repeats-members_from}
use Rattle.scim_resource.specs.Reading.{read_content}
use Rattle.scim_resource.specs.Rows.{ShownRecord, IsShown, IsShownOf, IsShort}
use Rattle.scim_resource.specs.Showing.{id_in, tag_of, tag_in, version_in, read_shown}
use Rattle.scim_resource.specs.declared.contents.Content.{Content}
use Rattle.scim_resource.specs.declared.contents.Content.TheVariants.{User, Group}
use Rattle.scim_resource.specs.Writing.{resource_data, user_data, group_data, meta_parts, meta_data, shown_location, shown_data}
use Rattle.scim_resource.proofs.GroupTrips as groups
use Rattle.scim_resource.proofs.GroupTrips.{group_shows}
use Rattle.scim_resource.proofs.RoundTrips.{content_read}
use Rattle.scim_resource.proofs.UserTrips as users
use Rattle.scim_resource.proofs.UserTrips.{user_shows}

-- ---- the id

some_id : (id : List ℕ) → IsId id → (length id == 0) ≡ false
unfolding id_fault
some_id [] h = cc
some_id (x ∷ xs) h = ne_eqb (suc (length xs)) 0 (λ e. omega arith)

id_present : (id : List ℕ) → IsId id → present (Some (string id)) ≡ Some (string id)
id_present id h = rw (some_id id h)

id_read : (id : List ℕ) → IsId id → id_in (Some (string id)) ≡ Ok id
id_read id h = rw h

-- ---- the version

some_tag : (tag : List ℕ) → IsEntityTag tag → (length tag == 0) ≡ false
some_tag [] (opaque, bytes, inl e) = cc
some_tag [] (opaque, bytes, inr e) = cc
some_tag (x ∷ xs) h = ne_eqb (suc (length xs)) 0 (λ e. omega arith)

version_present : (v : Option (List ℕ)) → IfSome v IsEntityTag → present (option_map string v) ≡ option_map string v
version_present None h = refl
version_present (Some tag) h = rw (some_tag tag h)

tag_whole : (tag : List ℕ) → IsEntityTag tag → IsShort tag → tag_of tag ≡ Some tag
unfolding tag_fault
tag_whole tag h short = rw (le-leb (length tag) 256 short, test-from_IsEntityTag tag h)

version_tag_read : (v : Option (List ℕ)) → IfSome v IsEntityTag → IfSome v IsShort → tag_in (option_map string v) ≡ v
version_tag_read None h short = refl
version_tag_read (Some tag) h short = tag_whole tag h short

version_read : (location : List ℕ) (s : ShownRecord) → IsShown s → version_in (Some (meta_data location s)) ≡ s.version
unfolding meta_data
version_read location s h =
    ap tag_in (ap present (named-members_from (codes "version") (meta_parts location s) refl) ∙ version_present s.version h.tag)
    ∙ version_tag_read s.version h.tag h.short

meta_clear : (location : List ℕ) (s : ShownRecord) → value_repeats (Some (meta_data location s)) ≡ false
unfolding meta_data
meta_clear location s = repeats-members_from (meta_parts location s) refl

meta_present : (location : List ℕ) (s : ShownRecord) → present (Some (meta_data location s)) ≡ Some (meta_data location s)
unfolding meta_data
meta_present location s = refl

-- ---- the whole

-- a resource is an object with the id and `meta` that were given
parts_shown : (id meta : Option Data) (c : Content)
    → (ms : Members) × (resource_data id meta c ≡ object ms) × (attribute (codes "id") ms ≡ present id) × (attribute (codes "meta") ms ≡ present meta)
unfolding user_data group_data
parts_shown id meta (User u) = (users.members id meta u, refl, (user_shows id meta u).0, (user_shows id meta u).1)
parts_shown id meta (Group g) = (groups.members id meta g, refl, (group_shows id meta g).0, (group_shows id meta g).1)

members_read : (kind : Kind) (ms : Members) (location : List ℕ) (s : ShownRecord) → IsShown s → attribute (codes "id") ms ≡ Some (string s.id)
    → attribute (codes "meta") ms ≡ Some (meta_data location s) → read_content kind (object ms) ≡ Ok s.content → read_shown kind (object ms) ≡ Ok s
members_read kind ms location s h id meta read = rw (meta, meta_clear location s, read, id, id_read s.id h.id, version_read location s h)

pub shown_read : (kind : Kind) (base : List ℕ) (s : ShownRecord) → IsShownOf kind s → read_shown kind (shown_data base s) ≡ Ok s
shown_read kind base s h =
    let id = Some (string s.id) in
    let meta = Some (meta_data (shown_location base s) s) in
    let p = parts_shown id meta s.content in
    let content : read_content kind (object p.0) ≡ Ok s.content =
    ap (read_content kind) (sym p.1) ∙ ap (λ k. read_content k (resource_data id meta s.content)) (sym h.of_kind) ∙ content_read id meta s.content h.content in
    ap (read_shown kind) p.1 ∙ members_read kind p.0 (shown_location base s) s h.shown (p.2 ∙ id_present s.id h.shown.id) (p.3 ∙ meta_present (shown_location base s) s) content

pub shown_object : (base : List ℕ) (s : ShownRecord) → (ms : Members) × (shown_data base s ≡ object ms)
shown_object base s = let p = parts_shown (Some (string s.id)) (Some (meta_data (shown_location base s) s)) s.content in (p.0, p.1)
