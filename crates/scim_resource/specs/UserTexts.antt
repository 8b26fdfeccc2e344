-- The texts that a user may have, each at the place of its `UserText`.
use Rattle.std.specs.Prelude.{◌≡◌, ℕ, Bool, List, Option, None, Some, codes, get_or, is_some, length, map}
use Rattle.std.specs.List.{AllByRecursion, list_any}
use denote.Enum.Declared.{tag_of}
use Rattle.scim_resource.specs.Schemas.{enterprise_extension}
use Rattle.scim_resource.specs.Texts.{IsTextIf}
use Rattle.scim_resource.specs.contracts.user_texts.UserText.{the_type}
use Rattle.scim_resource.specs.declared.user_texts.Holder.{Holder}
use Rattle.scim_resource.specs.declared.user_texts.Holder.TheVariants as holder
use Rattle.scim_resource.specs.declared.user_texts.TheConstants.{TEXT_COUNT, USER_TEXTS}
use Rattle.scim_resource.specs.declared.user_texts.UserText.{UserText}
use Rattle.scim_resource.specs.declared.user_texts.UserText.TheVariants as text

-- the attribute of a user whose value is the object; none for the user itself
abbrev pub attribute_of : Holder → Option (List ℕ)
attribute_of holder.User = None
attribute_of holder.Name = Some (codes "name")
attribute_of holder.Enterprise = Some enterprise_extension

-- where a text is in JSON: the object that has it as a member, and the member's name
abbrev pub member_of : UserText → Holder × List ℕ
member_of text.Department = (holder.Enterprise, codes "department")
member_of text.ExternalId = (holder.User, codes "externalId")
member_of text.FamilyName = (holder.Name, codes "familyName")
member_of text.GivenName = (holder.Name, codes "givenName")

abbrev pub holder_of : UserText → Holder
holder_of which = (member_of which).0

abbrev pub name_of : UserText → List ℕ
name_of which = (member_of which).1

-- the place of a text among those of a user: that of its variant in `UserText`
abbrev pub place_of : UserText → ℕ
place_of which = tag_of the_type which

-- the texts of a user, in the order of `USER_TEXTS`; each may be absent
abbrev pub UserTexts : Type 0
UserTexts = List (Option (List ℕ))

abbrev pub text_at : UserText → UserTexts → Option (List ℕ)
text_at which texts = get_or texts (place_of which) None

pub record AreUserTexts (texts : UserTexts) : Type 0 where
  pub count : length texts ≡ TEXT_COUNT
  pub each : AllByRecursion IsTextIf texts

abbrev pub no_texts : UserTexts
no_texts = map (λ which. None) USER_TEXTS

-- a user has one of these texts
abbrev pub has_some : UserTexts → List UserText → Bool
has_some texts ws = list_any (λ which. is_some (text_at which texts)) ws
