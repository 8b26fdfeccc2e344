-- The objects that reading looks into. A repeated name in one of them is refused before every other fault.
use Rattle.std.specs.Prelude.{◌≡◌, ℕ, List, ◌∷◌, ◌++◌, Some, codes}
use Rattle.scim_key.specs.declared.records.Kind.{Kind}
use Rattle.scim_key.specs.declared.records.Kind.TheVariants as kinds
use Rattle.serde_json.specs.Data.{Data, array, object, Members}
use Rattle.serde_json.specs.View.{items_of}
use Rattle.scim_json.specs.Attributes.{attribute}
use Rattle.scim_resource.specs.Schemas.{enterprise_extension, source_extension}

-- the value of this attribute is a list that contains this object
pub record Lists (name : List ℕ) (ms inner : Members) : Type 0 where
  pub before : List Data
  pub after : List Data
  pub listed : attribute name ms ≡ Some (array (items_of (before ++ object inner ∷ after)))

-- Reading a resource of this type with the members `ms` looks into the object `inner`: the body itself, its source
-- extension, a user's enterprise extension, name or one of its emails, or one of a group's members
pub data IsLookedInto (kind : Kind) (ms inner : Members) : Type 0 where
  the_body : inner ≡ ms → IsLookedInto kind ms inner
  the_source : attribute source_extension ms ≡ Some (object inner) → IsLookedInto kind ms inner
  an_enterprise : kind ≡ kinds.User → attribute enterprise_extension ms ≡ Some (object inner)
      → IsLookedInto kind ms inner
  a_name : kind ≡ kinds.User → attribute (codes "name") ms ≡ Some (object inner) → IsLookedInto kind ms inner
  an_email : kind ≡ kinds.User → Lists (codes "emails") ms inner → IsLookedInto kind ms inner
  a_member : kind ≡ kinds.Group → Lists (codes "members") ms inner → IsLookedInto kind ms inner
