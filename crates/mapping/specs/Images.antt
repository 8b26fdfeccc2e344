-- The image of a row: the content that the provider should hold.
use Rattle.std.specs.Prelude.{ℕ, true, not, List, [], ◌∷◌, Option, Some, None, Result, Ok, Err, codes, map}
use Rattle.std.specs.List.{filter}
use Rattle.std.specs.Result.{result_ok}
use Rattle.std.specs.Str.{bytes_eq}
use Rattle.scim_key.specs.declared.records.RecordName.{RecordName}
use Rattle.scim_resource.specs.Texts.{text_if}
use Rattle.scim_resource.specs.UserTexts.{UserTexts}
use Rattle.scim_resource.specs.declared.contents.Content.{Content}
use Rattle.scim_resource.specs.declared.contents.Content.TheVariants as contents
use Rattle.scim_resource.specs.declared.emails.Email.{Email}
use Rattle.scim_resource.specs.declared.user_texts.TheConstants.{USER_TEXTS}
use Rattle.scim_resource.specs.declared.user_texts.UserText.{UserText}
use Rattle.scim_resource.specs.declared.user_texts.UserText.TheVariants as texts
use Rattle.source_csv.specs.Rows.{GroupFields, UserFields, text_of}
use Rattle.source_csv.specs.declared.texts.TextField.TheVariants as field
use Rattle.source_csv.specs.declared.rows.Row.{Row}
use Rattle.source_csv.specs.declared.rows.Row.TheVariants.{User, Group}
use Rattle.mapping.specs.Ready.{ready}
use Rattle.mapping.specs.declared.ids.Ready.{Ready}
use Rattle.mapping.specs.declared.ids.Ready.TheVariants.{Ids, Waits}
use Rattle.mapping.specs.declared.groups.ImageFault.{ImageFault}
use Rattle.mapping.specs.declared.groups.ImageFault.TheVariants.{MemberWithoutId}

-- a mail is the only address, primary and of type `work`
abbrev pub work_email : List ℕ → Email
work_email mail = record { value = mail; type_text = Some (codes "work"); primary = true }

abbrev pub emails_of : List ℕ → List Email
emails_of [] = []
emails_of (b ∷ mail) = work_email (b ∷ mail) ∷ []

-- the text of a row that gives a text of a user
abbrev pub source_text : UserFields → UserText → List ℕ
source_text row texts.Department = text_of row field.Department
source_text row texts.ExternalId = text_of row field.Number
source_text row texts.FamilyName = text_of row field.Family
source_text row texts.GivenName = text_of row field.Given

-- the texts of a user; an empty field means none
abbrev pub image_texts : UserFields → UserTexts
image_texts row = map (λ which. text_if (source_text row which)) USER_TEXTS

-- The image of a row of a user
abbrev pub user_image : UserFields → Content
user_image row = contents.User (record {
  user_name = row.login;
  texts = image_texts row;
  emails = emails_of (text_of row field.Mail);
  active = row.active;
  revision = Some row.revision;
})

-- an id that is repeated is kept once, at its first place
abbrev pub once : List (List ℕ) → List (List ℕ)
once [] = []
once (id ∷ ids) = id ∷ filter (λ other. not (bytes_eq id other)) (once ids)

-- The image of a row of a group whose members have these ids
abbrev pub group_image : List (List ℕ) → GroupFields → Content
group_image ids row = contents.Group (record {
  display_name = row.name;
  external_id = None;
  members = once ids;
  revision = Some row.revision;
})

-- the image of a group's row, given what is known about its members. M1: a member has no id
abbrev pub image_by : Ready → GroupFields → Result Content ImageFault
image_by (Ids ids) row = Ok (group_image ids row)
image_by (Waits place) row = Err (MemberWithoutId place)

-- The image of a row of either kind, if records have these ids
abbrev pub imaged : (id_of : RecordName → Option (List ℕ)) → Row → Result Content ImageFault
imaged id_of (User row) = Ok (user_image row)
imaged id_of (Group row) = image_by (ready id_of row.members) row

-- the same; none if a member has no id
abbrev pub image : (id_of : RecordName → Option (List ℕ)) → Row → Option Content
image id_of row = result_ok (imaged id_of row)
