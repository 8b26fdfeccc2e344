-- A group's object in JSON, and the attributes that were found in it.
use Rattle.std.specs.Prelude.{◌≡◌, codes}
use Rattle.serde_json.specs.Data.{Members}
use Rattle.serde_json.specs.View.{members_view}
use Rattle.scim_json.specs.Attributes.{attribute}
use Rattle.scim_resource.specs.Schemas.{source_extension}
use Rattle.scim_resource.specs.UserObjects.{data_at}
use Rattle.scim_resource.specs.declared.group_objects.GroupObject.{GroupObject}

abbrev pub members_of : GroupObject → Members
members_of object = members_view object.members.now.entries

-- each value is that of its attribute
pub record IsGroupObject (object : GroupObject) : Type 0 where
  pub schemas : data_at object.schemas ≡ attribute (codes "schemas") (members_of object)
  pub display_name : data_at object.display_name ≡ attribute (codes "displayName") (members_of object)
  pub external_id : data_at object.external_id ≡ attribute (codes "externalId") (members_of object)
  pub group_members : data_at object.group_members ≡ attribute (codes "members") (members_of object)
  pub source : data_at object.source ≡ attribute source_extension (members_of object)
