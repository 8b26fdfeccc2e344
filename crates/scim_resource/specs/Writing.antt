-- Writing a resource as JSON.
use Rattle.std.specs.Prelude.{ℕ, ◌==◌, Bool, true, false, if◌then◌else◌, List, [], ◌∷◌, ◌++◌, Option, None, Some, option_map, is_some, map, take, drop, codes}
use Rattle.scim_key.specs.Revisions.{RevisionValue, revision_epoch, revision_number}
use Rattle.json.specs.Token.{Token}
use Rattle.serde_json.specs.Data.{unsigned, Data, boolean, number, string, array, object, Items, no_items, item, Members, no_members, member}
use Rattle.serde_json.specs.View.{items_of}
use Rattle.scim_json.specs.Writing.{Part, data_tokens, members_from}
use Rattle.scim_resource.specs.Contents.{content_kind}
use Rattle.scim_resource.specs.Groups.{GroupRecord}
use Rattle.scim_resource.specs.Locations.{location_text, type_name}
use Rattle.scim_resource.specs.Rows.{ShownRecord}
use Rattle.scim_resource.specs.Schemas.{core_user, core_group, enterprise_extension, source_extension}
use Rattle.scim_resource.specs.UserTexts.{UserTexts, has_some, name_of, text_at}
use Rattle.scim_resource.specs.Users.{UserRecord}
use Rattle.scim_resource.specs.declared.contents.Content.{Content}
use Rattle.scim_resource.specs.declared.contents.Content.TheVariants.{User, Group}
use Rattle.scim_resource.specs.declared.emails.Email.{Email}
use Rattle.scim_resource.specs.declared.user_texts.TheConstants.{ENTERPRISE_TEXTS, NAME_TEXTS, TOP_TEXTS}
use Rattle.scim_resource.specs.declared.user_texts.UserText.{UserText}

-- `epoch`, only if it isn't 0
abbrev pub epoch_data : ℕ → Option Data
epoch_data epoch = if epoch == 0 then None else Some (number (unsigned epoch))

abbrev pub source_parts : RevisionValue → List Part
source_parts r =
    (codes "epoch", epoch_data (revision_epoch r))
    ∷ (codes "revision", Some (number (unsigned (revision_number r)))) ∷ []

-- the source extension, if there is a revision
abbrev pub source_data : Option RevisionValue → Option Data
source_data None = None
source_data (Some r) = Some (object (members_from (source_parts r)))

-- the URN of an extension, and whether a resource has the extension
abbrev pub Extension : Type 0
Extension = List ℕ × Bool

abbrev pub urn_if : List ℕ → Bool → Items → Items
urn_if urn true ds = item (string urn) ds
urn_if urn false ds = ds

abbrev pub urns_of : List Extension → Items
urns_of [] = no_items
urns_of (e ∷ es) = urn_if e.0 e.1 (urns_of es)

-- the core URN, then the URN of each extension that a resource has
abbrev pub schemas_data : List ℕ → List Extension → Items
schemas_data core es = item (string core) (urns_of es)

-- a resource with a revision has the source extension
abbrev pub source_if : Option RevisionValue → Extension
source_if r = (source_extension, is_some r)

-- the tokens of the URN, if it is listed
abbrev pub urn_tokens : List ℕ → Bool → List Token
urn_tokens urn true = data_tokens (string urn)
urn_tokens urn false = []

-- an object, if it has a member
abbrev pub object_if : Members → Option Data
object_if no_members = None
object_if (member name d ms) = Some (object (member name d ms))

-- texts of a user as members
abbrev pub text_part : UserTexts → UserText → Part
text_part texts which = (name_of which, option_map string (text_at which texts))

abbrev pub text_parts : UserTexts → List UserText → List Part
text_parts texts ws = map (text_part texts) ws

-- an object of these texts, if a user has one of them
abbrev pub held_data : UserTexts → List UserText → Option Data
held_data texts ws = object_if (members_from (text_parts texts ws))

-- `primary`, only if it is true
abbrev pub primary_data : Bool → Option Data
primary_data true = Some (boolean true)
primary_data false = None

abbrev pub email_parts : Email → List Part
email_parts e =
    (codes "primary", primary_data e.primary) ∷ (codes "type", option_map string e.type_text)
    ∷ (codes "value", Some (string e.value)) ∷ []

unfoldable pub email_data : Email → Data
email_data e = object (members_from (email_parts e))

-- the emails, if there are any
abbrev pub emails_data : List Email → Option Data
emails_data [] = None
emails_data (e ∷ es) = Some (array (items_of (map email_data (e ∷ es))))

-- the extensions of a user, in the order of `schemas`
abbrev pub user_extensions : UserRecord → List Extension
user_extensions u = (enterprise_extension, has_some u.texts ENTERPRISE_TEXTS) ∷ source_if u.revision ∷ []

-- a user's attributes in byte order: those before `id`, and those after `meta`
unfoldable pub user_front : UserRecord → List Part
user_front u =
    (codes "active", Some (boolean u.active))
    ∷ (codes "emails", emails_data u.emails)
    ∷ text_parts u.texts TOP_TEXTS

unfoldable pub user_back : UserRecord → List Part
user_back u =
    (codes "name", held_data u.texts NAME_TEXTS)
    ∷ (codes "schemas", Some (array (schemas_data core_user (user_extensions u))))
    ∷ (source_extension, source_data u.revision)
    ∷ (enterprise_extension, held_data u.texts ENTERPRISE_TEXTS)
    ∷ (codes "userName", Some (string u.user_name))
    ∷ []

-- a user's attributes in byte order, with an id and `meta`
abbrev pub user_parts : Option Data → Option Data → UserRecord → List Part
user_parts id meta u = user_front u ++ (codes "id", id) ∷ (codes "meta", meta) ∷ user_back u

unfoldable pub user_data : Option Data → Option Data → UserRecord → Data
user_data id meta u = object (members_from (user_parts id meta u))

unfoldable pub member_data : List ℕ → Data
member_data value = object (member (codes "value") (string value) no_members)

-- the members, if there are any
abbrev pub group_members_data : List (List ℕ) → Option Data
group_members_data [] = None
group_members_data (v ∷ vs) = Some (array (items_of (map member_data (v ∷ vs))))

abbrev pub group_extensions : GroupRecord → List Extension
group_extensions g = source_if g.revision ∷ []

-- a group's attributes in byte order, with an id and `meta`
abbrev pub group_parts : Option Data → Option Data → GroupRecord → List Part
group_parts id meta g =
    (codes "displayName", Some (string g.display_name))
    ∷ (codes "externalId", option_map string g.external_id)
    ∷ (codes "id", id)
    ∷ (codes "members", group_members_data g.members)
    ∷ (codes "meta", meta)
    ∷ (codes "schemas", Some (array (schemas_data core_group (group_extensions g))))
    ∷ (source_extension, source_data g.revision)
    ∷ []

unfoldable pub group_data : Option Data → Option Data → GroupRecord → Data
group_data id meta g = object (members_from (group_parts id meta g))

abbrev pub resource_data : Option Data → Option Data → Content → Data
resource_data id meta (User u) = user_data id meta u
resource_data id meta (Group g) = group_data id meta g

-- a group's attributes before `id`, and those after `meta`
unfoldable pub group_front : GroupRecord → List Part
group_front g = take 2 (group_parts None None g)

unfoldable pub group_back : GroupRecord → List Part
group_back g = drop 5 (group_parts None None g)

-- what a store keeps of a resource
abbrev pub content_data : Content → Data
content_data c = resource_data None None c

-- the URI of a shown resource
abbrev pub shown_location : List ℕ → ShownRecord → List ℕ
shown_location base s = location_text base (content_kind s.content) s.id

-- `meta` of a resource that is shown at this location
abbrev pub meta_parts : (location : List ℕ) → ShownRecord → List Part
meta_parts location s =
    (codes "location", Some (string location))
    ∷ (codes "resourceType", Some (string (type_name (content_kind s.content))))
    ∷ (codes "version", option_map string s.version)
    ∷ []

unfoldable pub meta_data : (location : List ℕ) → ShownRecord → Data
meta_data location s = object (members_from (meta_parts location s))

-- what is shown of a resource at this location
abbrev pub data_at : (location : List ℕ) → ShownRecord → Data
data_at location s = resource_data (Some (string s.id)) (Some (meta_data location s)) s.content

-- what an answer shows of a resource
abbrev pub shown_data : List ℕ → ShownRecord → Data
shown_data base s = data_at (shown_location base s) s
