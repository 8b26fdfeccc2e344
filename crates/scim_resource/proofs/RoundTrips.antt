-- A content that is written is plain, and is read back as itself; so is a resource that is shown.
use Rattle.std.proofs.Common.{◌≡◌, ℕ, ◌≤◌, List, Option, Some, None, Ok, option_map, IsUtf8, refl, ap, ◌∙◌, arith}
use Rattle.serde_json.specs.Data.{Data, string, depth}
use Rattle.serde_json.specs.Read.{read}
use Rattle.serde_json.specs.Written.{compact_text}
use Rattle.scim_json.specs.Plain.{IsPlain}
use Rattle.scim_json.proofs.Parts.{IsPlainIf, MembersArePlain-members_from, depth_if, AreWithin, members_depth-members_from}
use Rattle.scim_json.proofs.Texts.{read-compact_text}
use Rattle.scim_json.proofs.Utf8Texts.{json_of-utf8}
use Rattle.scim_resource.specs.Contents.{content_kind, IsContent}
use Rattle.scim_resource.specs.Reading.{content_from, content_in, read_content}
use Rattle.scim_resource.specs.Rows.{ShownRecord}
use Rattle.scim_resource.specs.declared.contents.Content.{Content}
use Rattle.scim_resource.specs.declared.contents.Content.TheVariants.{User, Group}
use Rattle.scim_resource.specs.Writing.{resource_data, content_data, meta_parts, meta_data, shown_location, shown_data}
use Rattle.scim_resource.proofs.GroupTrips.{group_data_read, group_data_plain, group_data_depth}
use Rattle.scim_resource.proofs.UserTrips.{user_data_read, user_data_plain, user_data_depth}

pub content_read : (id meta : Option Data) (c : Content) → IsContent c → read_content (content_kind c) (resource_data id meta c) ≡ Ok c
unfolding read_content
content_read id meta (User u) h = rw (user_data_read id meta u h)
content_read id meta (Group g) h = rw (group_data_read id meta g h)

pub resource_plain : (id meta : Option Data) (c : Content) → IsContent c → IsPlainIf id → IsPlainIf meta → IsPlain (resource_data id meta c)
resource_plain id meta (User u) h i m = user_data_plain id meta u h i m
resource_plain id meta (Group g) h i m = group_data_plain id meta g h i m

resource_depth : (id meta : Option Data) (c : Content) → depth_if id ≤ 2 → depth_if meta ≤ 2 → depth (resource_data id meta c) ≤ 3
resource_depth id meta (User u) i m = user_data_depth id meta u i m
resource_depth id meta (Group g) i m = group_data_depth id meta g i m

pub resource_spelled : (id meta : Option Data) (c : Content) → IsContent c → IsPlainIf id → IsPlainIf meta → depth_if id ≤ 2 → depth_if meta ≤ 2
    → read (compact_text (resource_data id meta c)) ≡ Some (resource_data id meta c)
resource_spelled id meta c h ip mp i m = read-compact_text (resource_data id meta c) (resource_plain id meta c h ip mp) (omega (arith, resource_depth id meta c i m))

pub content_spelled : (c : Content) → IsContent c → read (compact_text (content_data c)) ≡ Some (content_data c)
content_spelled c h = resource_spelled None None c h tt tt (omega arith) (omega arith)

pub content_sent : (c : Content) → IsContent c → IsUtf8 (compact_text (content_data c)) → content_in (content_kind c) (compact_text (content_data c)) ≡ Ok c
content_sent c h text = ap (content_from (content_kind c)) (json_of-utf8 _ text ∙ content_spelled c h) ∙ content_read None None c h

-- ---- resources that are shown

meta_plain : (location : List ℕ) (s : ShownRecord) → IsPlain (meta_data location s)
unfolding meta_data
meta_plain location s = MembersArePlain-members_from (meta_parts location s) refl (tt, (tt, (version_plain s.version, tt)))
  where
    version_plain : (v : Option (List ℕ)) → IsPlainIf (option_map string v)
    version_plain None = tt
    version_plain (Some v) = tt

version_depth : (v : Option (List ℕ)) → depth_if (option_map string v) ≤ 1
version_depth None = omega arith
version_depth (Some v) = omega arith

meta_depth : (location : List ℕ) (s : ShownRecord) → depth (meta_data location s) ≤ 2
unfolding meta_data
meta_depth location s =
    let within : AreWithin 1 (meta_parts location s) = (omega arith, (omega arith, (version_depth s.version, tt))) in
    omega (arith, members_depth-members_from 1 (meta_parts location s) within)

pub shown_plain : (base : List ℕ) (s : ShownRecord) → IsContent s.content → IsPlain (shown_data base s)
shown_plain base s h = resource_plain (Some (string s.id)) (Some (meta_data (shown_location base s) s)) s.content h tt (meta_plain (shown_location base s) s)

pub shown_depth : (base : List ℕ) (s : ShownRecord) → depth (shown_data base s) ≤ 3
shown_depth base s = resource_depth (Some (string s.id)) (Some (meta_data (shown_location base s) s)) s.content (omega arith) (meta_depth (shown_location base s) s)

pub shown_spelled : (base : List ℕ) (s : ShownRecord) → IsContent s.content → read (compact_text (shown_data base s)) ≡ Some (shown_data base s)
shown_spelled base s h = read-compact_text (shown_data base s) (shown_plain base s h) (omega (arith, shown_depth base s))
