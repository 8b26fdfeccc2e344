-- The content of a resource, and the record that it is the content of.
use Rattle.std.specs.Prelude.{ℕ, Bool, List, [], length, Option, Some, None}
use Rattle.scim_key.specs.Names.{key_of}
use Rattle.scim_key.specs.Revisions.{RevisionValue}
use Rattle.scim_key.specs.declared.records.Kind.{Kind}
use Rattle.scim_key.specs.declared.records.Kind.TheVariants as kinds
use Rattle.scim_key.specs.declared.records.RecordName.{RecordName}
use Rattle.scim_resource.specs.Groups.{IsGroup}
use Rattle.scim_resource.specs.Users.{IsUser}
use Rattle.scim_resource.specs.declared.contents.Content.{Content}
use Rattle.scim_resource.specs.declared.contents.Content.TheVariants.{User, Group}

-- a valid content, as reading gives it
abbrev pub IsContent : Content → Type 0
IsContent (User u) = IsUser u
IsContent (Group g) = IsGroup g

abbrev pub content_kind : Content → Kind
content_kind (User u) = kinds.User
content_kind (Group g) = kinds.Group

-- the name under which a resource is unique in its type, as it is spelled
abbrev pub spelled_name : Content → List ℕ
spelled_name (User u) = u.user_name
spelled_name (Group g) = g.display_name

-- The record that a content is of: its type and the key of its name
abbrev pub content_name : Content → RecordName
content_name c = record { kind = content_kind c; key = key_of (spelled_name c) }

-- the source revision that the content is the image of, if it has one
abbrev pub content_revision : Content → Option RevisionValue
content_revision (User u) = u.revision
content_revision (Group g) = g.revision

-- the same content with this revision, or with none
abbrev pub content_with : Option RevisionValue → Content → Content
content_with revision (User u) = User (record u { revision = revision })
content_with revision (Group g) = Group (record g { revision = revision })

-- whether a user's account is active; none for a group
abbrev pub content_active : Content → Option Bool
content_active (User u) = Some u.active
content_active (Group g) = None

-- the values of a group's members, in order; empty for a user
abbrev pub content_members : Content → List (List ℕ)
content_members (User u) = []
content_members (Group g) = g.members

abbrev pub member_count : Content → ℕ
member_count c = length (content_members c)
