-- A user's object in JSON, and the attributes that were found in it.
use Rattle.std.specs.Borrow.{Bor}
use Rattle.std.specs.Prelude.{◌≡◌, Option, option_map, codes}
use Rattle.serde_json.specs.Data.{Data, Members}
use Rattle.serde_json.specs.View.{view, members_view}
use Rattle.serde_json.specs.declared.value.Value.{Value}
use Rattle.scim_json.specs.Attributes.{attribute}
use Rattle.scim_resource.specs.Schemas.{enterprise_extension, source_extension}
use Rattle.scim_resource.specs.declared.user_objects.UserObject.{UserObject}

abbrev pub data_at : Option (Bor Value) → Option Data
data_at value = option_map (λ v. view v.now) value

abbrev pub members_of : UserObject → Members
members_of object = members_view object.members.now.entries

-- each value is that of its attribute
pub record IsUserObject (object : UserObject) : Type 0 where
  pub schemas : data_at object.schemas ≡ attribute (codes "schemas") (members_of object)
  pub user_name : data_at object.user_name ≡ attribute (codes "userName") (members_of object)
  pub name : data_at object.name ≡ attribute (codes "name") (members_of object)
  pub emails : data_at object.emails ≡ attribute (codes "emails") (members_of object)
  pub active : data_at object.active ≡ attribute (codes "active") (members_of object)
  pub source : data_at object.source ≡ attribute source_extension (members_of object)
  pub enterprise : data_at object.enterprise ≡ attribute enterprise_extension (members_of object)
