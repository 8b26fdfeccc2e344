-- Reading a resource as an answer shows it.
use Rattle.std.specs.Prelude.{ℕ, List, length, Option, None, Some, Result, Ok, Err, ◌&&◌, nat_le, if◌then◌else◌, is_none, codes}
use Rattle.std.specs.Str.{is_utf8}
use Rattle.scim_key.specs.Identifiers.{id_fault}
use Rattle.scim_key.specs.Outcome.{◌>>=◌}
use Rattle.scim_key.specs.declared.records.Kind.{Kind}
use Rattle.scim_version.specs.Tags.{tag_fault}
use Rattle.serde_json.specs.Data.{Data, null, boolean, number, string, array, object, Members}
use Rattle.scim_json.specs.Attributes.{attribute, value_repeats}
use Rattle.scim_resource.specs.Reading.{read_content, unless_repeated}
use Rattle.scim_resource.specs.Rows.{ShownRecord}
use Rattle.scim_resource.specs.declared.rows.TheConstants.{TAG_LIMIT}
use Rattle.scim_resource.specs.declared.contents.Content.{Content}
use Rattle.scim_resource.specs.declared.faults.ContentFault.{ContentFault}
use Rattle.scim_resource.specs.declared.faults.ContentFault.TheVariants.{InvalidSyntax, InvalidValue}

-- a valid id, which is required
abbrev pub id_in : Option Data → Result (List ℕ) ContentFault
id_in None = Err InvalidValue
id_in (Some null) = Err InvalidValue
id_in (Some (boolean b)) = Err InvalidValue
id_in (Some (number n)) = Err InvalidValue
id_in (Some (string s)) = if is_none (id_fault s) then Ok s else Err InvalidValue
id_in (Some (array ds)) = Err InvalidValue
id_in (Some (object ms)) = Err InvalidValue

-- the text, if it is an entity tag of at most 256 bytes
abbrev pub tag_of : List ℕ → Option (List ℕ)
tag_of s = if nat_le (length s) TAG_LIMIT && is_none (tag_fault s) then Some s else None

-- the entity tag that the field `ETag` of a response states (RFC 7232 section 2.3): an entity tag in UTF-8 of at most
-- 256 bytes. Anything else states none
abbrev pub stated_tag : Option (List ℕ) → Option (List ℕ)
stated_tag None = None
stated_tag (Some etag) = if is_utf8 etag then tag_of etag else None

-- an entity tag of at most 256 bytes, or none
abbrev pub tag_in : Option Data → Option (List ℕ)
tag_in None = None
tag_in (Some null) = None
tag_in (Some (boolean b)) = None
tag_in (Some (number n)) = None
tag_in (Some (string s)) = tag_of s
tag_in (Some (array ds)) = None
tag_in (Some (object ms)) = None

-- the version in `meta`, or none if `meta` isn't an object
abbrev pub version_in : Option Data → Option (List ℕ)
version_in None = None
version_in (Some null) = None
version_in (Some (boolean b)) = None
version_in (Some (number n)) = None
version_in (Some (string s)) = None
version_in (Some (array ds)) = None
version_in (Some (object ms)) = tag_in (attribute (codes "version") ms)

-- this content, with the id and the version of an object; the id is required
abbrev pub shown_with : Content → Members → Result ShownRecord ContentFault
shown_with content ms =
    id_in (attribute (codes "id") ms) >>= (λ id.
    Ok (record { id = id; version = version_in (attribute (codes "meta") ms); content = content }))

-- A resource of this type as an answer shows it: its content, its id, and its version if that is known. Reading looks
-- into `meta` too
abbrev pub read_shown : Kind → Data → Result ShownRecord ContentFault
read_shown kind null = Err InvalidSyntax
read_shown kind (boolean b) = Err InvalidSyntax
read_shown kind (number n) = Err InvalidSyntax
read_shown kind (string s) = Err InvalidSyntax
read_shown kind (array ds) = Err InvalidSyntax
read_shown kind (object ms) =
    unless_repeated (value_repeats (attribute (codes "meta") ms))
    (read_content kind (object ms) >>= (λ content. shown_with content ms))
