-- A group that is written is plain, and is read back as itself.
use Rattle.std.proofs.Common.{◌≡◌, ℕ, suc, ◌≤◌, ◌==◌, List, [], ◌∷◌, ◌++◌, length, Bool, true, false, cond, not, Option, Some, Ok, option_map, map, codes, refl, sym, ap, ◌∙◌, append_assoc, append-nil, arith}
use Rattle.std.proofs.lemmas.Bool.{and_parts, ne_eqb}
use Rattle.scim_key.specs.Names.{group_name_fault, IsGroupName}
use Rattle.scim_key.specs.Outcome.{◌>>=◌}
use Rattle.serde_json.specs.Data.{Data, string, array, Members, no_members, member, depth, items_depth}
use Rattle.serde_json.specs.View.{items_of}
use Rattle.scim_json.specs.Attributes.{named, has_name, attribute, present, repeats, value_repeats, items_repeat, list_repeats}
use Rattle.scim_json.specs.Plain.{IsPlain, ItemsArePlain}
use Rattle.scim_json.specs.Writing.{members_from}
use Rattle.scim_json.proofs.Parts.{are_rising, are_apart, part_named, named-members_from, repeats-members_from, IsPlainIf, ArePlainIf, MembersArePlain-members_from, depth_if, AreWithin, members_depth-members_from}
use Rattle.scim_resource.specs.Groups.{GroupRecord, IsGroup, IsMemberList, AreTexts, is_among, are_distinct, are_few_members}
use Rattle.scim_resource.specs.Reading.{display_name_in, member_in, members_after, group_members_in, few_members, with_member, group_fields, group_repeats, read_group, unless_repeated}
use Rattle.scim_resource.specs.Schemas.{core_group, source_extension}
use Rattle.scim_resource.specs.Texts.{IsText}
use Rattle.scim_resource.specs.Writing.{source_data, schemas_data, member_data, group_extensions, group_members_data, group_parts, group_data}
use Rattle.scim_resource.proofs.ExtensionTrips.{source_present, source_read, source_repeats, source_plain, source_depth, schemas_listed, schemas_plain, schemas_depth}
use Rattle.scim_resource.proofs.MemberLists.{Fresh, Fresh-none, Fresh-push}
use Rattle.scim_resource.proofs.TextTrips.{text_present, text_read, text_plain, text_depth}

-- ---- the names of a group's parts

rising : (id meta : Option Data) (g : GroupRecord) → are_rising (group_parts id meta g) ≡ true
unfolding source_extension
rising id meta g = refl

apart : (id meta : Option Data) (g : GroupRecord) → are_apart (group_parts id meta g) ≡ true
unfolding source_extension
apart id meta g = refl

-- ---- the parts of a group that are found

abbrev pub members : Option Data → Option Data → GroupRecord → Members
members id meta g = members_from (group_parts id meta g)

found : (name : List ℕ) (id meta : Option Data) (g : GroupRecord) → attribute name (members id meta g) ≡ present (part_named name (group_parts id meta g))
found name id meta g = ap present (named-members_from name (group_parts id meta g) (apart id meta g))

source_part : (id meta : Option Data) (g : GroupRecord) → part_named source_extension (group_parts id meta g) ≡ source_data g.revision
unfolding source_extension
source_part id meta g = refl

-- ---- what they are read as

not_empty : (name : List ℕ) → IsGroupName name → (length name == 0) ≡ false
unfolding group_name_fault
not_empty [] h = cc
not_empty (x ∷ xs) h = ne_eqb (suc (length xs)) 0 (λ e. omega arith)

name_present : (name : List ℕ) → IsGroupName name → present (Some (string name)) ≡ Some (string name)
name_present name h = rw (not_empty name h)

values_present : (vs : List (List ℕ)) → present (group_members_data vs) ≡ group_members_data vs
values_present [] = refl
values_present (v ∷ vs) = refl

name_read : (name : List ℕ) → IsGroupName name → display_name_in (Some (string name)) ≡ Ok name
name_read name h = rw h

member_found : (v : List ℕ) → attribute (codes "value") (member (codes "value") (string v) no_members) ≡ present (Some (string v))
unfolding named
member_found v = refl

member_read : (v : List ℕ) → IsText v → member_in (member_data v) ≡ Ok (Some v)
unfolding member_data
member_read v h = rw (member_found v, text_present (Some v) h, text_read (Some v) h)

members_read : (kept vs : List (List ℕ)) → AreTexts vs → are_distinct vs ≡ true → Fresh kept vs → members_after kept (items_of (map member_data vs)) ≡ Ok (kept ++ vs)
unfolding members_after are_distinct
members_read kept [] texts distinct fresh = ap Ok (sym (append-nil kept))
members_read kept (v ∷ vs) texts distinct fresh =
    let both = and_parts (not (is_among v vs)) _ distinct in
    let apart : is_among v vs ≡ false = no (is_among v vs) both.0 in
    ap (λ r. r >>= (λ o. members_after (with_member kept o) (items_of (map member_data vs)))) (member_read v texts.0)
    ∙ ap (λ b. members_after (cond b kept (kept ++ v ∷ [])) (items_of (map member_data vs))) fresh.0
    ∙ members_read (kept ++ v ∷ []) vs texts.1 both.1 (Fresh-push kept v vs fresh.1 apart) ∙ ap Ok (append_assoc kept (v ∷ []) vs)
  where
    no : (b : Bool) → not b ≡ true → b ≡ false
    no true h = sym h
    no false h = refl

few_read : (vs : List (List ℕ)) → are_few_members vs ≡ true → few_members vs ≡ Ok vs
few_read vs h = rw h

values_read : (vs : List (List ℕ)) → IsMemberList vs → group_members_in (group_members_data vs) ≡ Ok vs
unfolding members_after
values_read [] h = few_read [] h.few
values_read (v ∷ vs) h =
    ap (λ r. r >>= few_members) (members_read [] (v ∷ vs) h.each h.distinct (Fresh-none (v ∷ vs))) ∙ few_read (v ∷ vs) h.few

-- an object with these attributes is read as this group
pub record Shows (ms : Members) (g : GroupRecord) : Type 0 where
  pub schemas : attribute (codes "schemas") ms ≡ Some (array (schemas_data core_group (group_extensions g)))
  pub display_name : attribute (codes "displayName") ms ≡ Some (string g.display_name)
  pub external_id : attribute (codes "externalId") ms ≡ option_map string g.external_id
  pub values : attribute (codes "members") ms ≡ group_members_data g.members
  pub source : attribute source_extension ms ≡ source_data g.revision

fields_read : (ms : Members) (g : GroupRecord) → IsGroup g → Shows ms g → group_fields ms ≡ Ok g
unfolding group_fields
fields_read ms g h s =
    rw (s.schemas, schemas_listed core_group (group_extensions g), s.display_name, name_read g.display_name h.display_name, s.external_id, text_read g.external_id h.external_id, s.values, values_read g.members h.members, s.source, source_read g.revision h.revision)

member_repeats : (v : List ℕ) → value_repeats (Some (member_data v)) ≡ false
unfolding member_data repeats has_name
member_repeats v = refl

items_repeat_none : (vs : List (List ℕ)) → items_repeat (items_of (map member_data vs)) ≡ false
unfolding items_repeat
items_repeat_none [] = refl
items_repeat_none (v ∷ vs) = rw (member_repeats v) (items_repeat_none vs)

values_repeat : (vs : List (List ℕ)) → list_repeats (group_members_data vs) ≡ false
values_repeat [] = refl
values_repeat (v ∷ vs) = items_repeat_none (v ∷ vs)

repeats_none : (ms : Members) (g : GroupRecord) → repeats ms ≡ false → Shows ms g → group_repeats ms ≡ false
unfolding group_repeats
repeats_none ms g clear s = rw (clear, s.source, source_repeats g.revision, s.values, values_repeat g.members)

pub group_data_read : (id meta : Option Data) (g : GroupRecord) → IsGroup g → read_group (group_data id meta g) ≡ Ok g
unfolding group_data
group_data_read id meta g h =
    let ms = members id meta g in
    let shows : Shows ms g = record {
      schemas = found (codes "schemas") id meta g;
      display_name = found (codes "displayName") id meta g ∙ name_present g.display_name h.display_name;
      external_id = found (codes "externalId") id meta g ∙ text_present g.external_id h.external_id;
      values = found (codes "members") id meta g ∙ values_present g.members;
      source = found source_extension id meta g ∙ ap present (source_part id meta g) ∙ source_present g.revision;
    } in
    let clear = repeats-members_from (group_parts id meta g) (apart id meta g) in
    ap (λ b. unless_repeated b (group_fields ms)) (repeats_none ms g clear shows) ∙ fields_read ms g h shows

-- ---- plain data

member_plain : (v : List ℕ) → IsPlain (member_data v)
unfolding member_data
member_plain v = (tt, tt, tt)

items_plain : (vs : List (List ℕ)) → ItemsArePlain (items_of (map member_data vs))
items_plain [] = tt
items_plain (v ∷ vs) = (member_plain v, items_plain vs)

values_plain : (vs : List (List ℕ)) → IsPlainIf (group_members_data vs)
values_plain [] = tt
values_plain (v ∷ vs) = items_plain (v ∷ vs)

parts_plain : (id meta : Option Data) (g : GroupRecord) → IsGroup g → IsPlainIf id → IsPlainIf meta → ArePlainIf (group_parts id meta g)
parts_plain id meta g h i m =
    (tt, (text_plain g.external_id, (i, (values_plain g.members, (m, (schemas_plain core_group (group_extensions g), (source_plain g.revision h.revision, tt)))))))

pub group_data_plain : (id meta : Option Data) (g : GroupRecord) → IsGroup g → IsPlainIf id → IsPlainIf meta → IsPlain (group_data id meta g)
unfolding group_data
group_data_plain id meta g h i m = MembersArePlain-members_from (group_parts id meta g) (rising id meta g) (parts_plain id meta g h i m)

member_depth : (v : List ℕ) → depth (member_data v) ≤ 1
unfolding member_data
member_depth v = omega arith

items_depth_one : (vs : List (List ℕ)) → items_depth (items_of (map member_data vs)) ≤ 1
items_depth_one [] = omega arith
items_depth_one (v ∷ vs) = omega (arith, member_depth v, items_depth_one vs)

values_depth : (vs : List (List ℕ)) → depth_if (group_members_data vs) ≤ 2
values_depth [] = omega arith
values_depth (v ∷ vs) = omega (arith, items_depth_one (v ∷ vs))

pub group_data_depth : (id meta : Option Data) (g : GroupRecord) → depth_if id ≤ 2 → depth_if meta ≤ 2 → depth (group_data id meta g) ≤ 3
unfolding group_data
group_data_depth id meta g i m =
    let within : AreWithin 2 (group_parts id meta g) =
    (omega arith, (omega (arith, text_depth g.external_id), (i, (values_depth g.members, (m, (schemas_depth core_group (group_extensions g), (source_depth g.revision, tt))))))) in
    omega (arith, members_depth-members_from 2 (group_parts id meta g) within)

-- ---- an id and `meta`

pub group_shows : (id meta : Option Data) (g : GroupRecord) → (attribute (codes "id") (members id meta g) ≡ present id) × (attribute (codes "meta") (members id meta g) ≡ present meta)
group_shows id meta g = (found (codes "id") id meta g, found (codes "meta") id meta g)
