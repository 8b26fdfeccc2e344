-- A row of the provider, and a resource as an answer shows it.
use Rattle.std.specs.Prelude.{◌≡◌, ℕ, ◌≤◌, List, length, Option, Some, None, IfSome}
use Rattle.std.specs.Option.{option_or}
use Rattle.std.specs.Str.{IsUtf8}
use Rattle.scim_key.specs.Identifiers.{IsId, id_text, last_number}
use Rattle.scim_key.specs.declared.records.Kind.{Kind}
use Rattle.scim_version.specs.Tags.{IsEntityTag, version_tag}
use Rattle.scim_resource.specs.Contents.{IsContent, content_kind}
use Rattle.scim_resource.specs.declared.contents.Content.{Content}
use Rattle.scim_resource.specs.declared.rows.TheConstants.{LAST_VERSION, TAG_LIMIT}

-- the greatest version
abbrev pub last_version : ℕ
last_version = LAST_VERSION

-- the resource's number, which its id is made from, its version and its content
pub record StoredRecord : Type 0 where
  pub number : ℕ
  pub version : ℕ
  pub content : Content

pub record IsStored (s : StoredRecord) : Type 0 where
  pub numbered : 1 ≤ s.number
  pub number_within : s.number ≤ last_number
  pub versioned : 1 ≤ s.version
  pub version_within : s.version ≤ last_version

-- a row's number and version alone
pub record RowVersionRecord : Type 0 where
  pub number : ℕ
  pub version : ℕ

pub record IsRowVersion (v : RowVersionRecord) : Type 0 where
  pub numbered : 1 ≤ v.number
  pub number_within : v.number ≤ last_number
  pub versioned : 1 ≤ v.version
  pub version_within : v.version ≤ last_version

-- the row with this number, version and content
abbrev pub row_of : RowVersionRecord → Content → StoredRecord
row_of v content = record { number = v.number; version = v.version; content = content }

-- the id, the entity tag of the version if it is known, and the content
pub record ShownRecord : Type 0 where
  pub id : List ℕ
  pub version : Option (List ℕ)
  pub content : Content

abbrev pub IsShort : List ℕ → Type 0
IsShort tag = length tag ≤ TAG_LIMIT

-- the id is valid, in UTF-8; the entity tag, if there is one, is valid, in UTF-8, of at most 256 bytes
pub record IsShown (s : ShownRecord) : Type 0 where
  pub id : IsId s.id
  pub id_text : IsUtf8 s.id
  pub tag : IfSome s.version IsEntityTag
  pub short : IfSome s.version IsShort
  pub text : IfSome s.version IsUtf8

-- a valid resource of this type, as reading gives it
pub record IsShownOf (kind : Kind) (s : ShownRecord) : Type 0 where
  pub of_kind : content_kind s.content ≡ kind
  pub shown : IsShown s
  pub content : IsContent s.content

-- a row as an answer shows it
abbrev pub shown : StoredRecord → ShownRecord
shown s = record { id = id_text s.number; version = Some (version_tag s.version); content = s.content }

-- the same resource under this entity tag
abbrev pub shown_under : List ℕ → ShownRecord → ShownRecord
shown_under tag s = record s { version = Some tag }

-- a resource of this content under this id, without an entity tag
abbrev pub untagged : (id : List ℕ) → Content → ShownRecord
untagged id content = record { id = id; version = None; content = content }

-- the same resource; if it has no entity tag, it is under this one
abbrev pub completed : (tag : Option (List ℕ)) → ShownRecord → ShownRecord
completed tag s = record s { version = option_or s.version tag }
