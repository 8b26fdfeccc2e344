-- The image of a row is a content that some reading gives.
use Rattle.std.proofs.Common.{◌≡◌, ℕ, suc, ◌≤◌, true, List, [], ◌∷◌, Option, Some, None, length, map, refl, ap, subst}
use Rattle.std.specs.List.{AllByRecursion}
use Rattle.std.specs.Result.{result_ok}
use Rattle.scim_key.specs.declared.records.RecordName.{RecordName}
use Rattle.scim_resource.specs.Contents.{IsContent, content_name}
use Rattle.scim_resource.specs.Groups.{AreTexts}
use Rattle.scim_resource.specs.declared.contents.Content.{Content}
use Rattle.scim_resource.specs.Emails.{IsEmailList, are_few}
use Rattle.scim_resource.specs.Texts.{IsText, IsTextIf, is_short_text, text_if}
use Rattle.scim_resource.specs.UserTexts.{AreUserTexts}
use Rattle.scim_resource.specs.declared.emails.Email.{Email}
use Rattle.scim_resource.specs.declared.user_texts.TheConstants.{USER_TEXTS}
use Rattle.scim_resource.specs.declared.user_texts.UserText.{UserText}
use Rattle.scim_resource.specs.declared.user_texts.UserText.TheVariants as texts
use Rattle.scim_resource.specs.declared.texts.TheConstants.{TEXT_LIMIT}
use Rattle.scim_resource.proofs.Presence.{is_text, text_if_is_text}
use Rattle.scim_resource.proofs.RoundTrips.{content_read, content_spelled}
use Rattle.source_csv.specs.Records.{row_name, user}
use Rattle.source_csv.specs.Rows.{GroupFields, IsGroupRow, UserFields, IsUserRow, text_of}
use Rattle.source_csv.specs.declared.texts.TextField.TheVariants as field
use Rattle.mapping.proofs.RowLemmas.{short_text}
use Rattle.source_csv.specs.declared.groups.TheConstants.{MEMBER_LIMIT}
use Rattle.source_csv.specs.declared.rows.Row.{Row}
use Rattle.source_csv.specs.declared.rows.Row.TheVariants.{User, Group}
use Rattle.mapping.specs.Readiness.{GoesOn, HaveIds}
use Rattle.mapping.specs.Ready.{ready}
use Rattle.mapping.specs.declared.ids.Ready.{Ready}
use Rattle.mapping.specs.declared.ids.Ready.TheVariants.{Ids, Waits}
use Rattle.mapping.proofs.ReadyLemmas.{means}
use Rattle.mapping.specs.Images.{emails_of, group_image, image, image_by, image_texts, source_text, user_image}
use Rattle.mapping.specs.Laws.{AreIds, ImagesReadBack, ImagesStay, ReadsBack}
use Rattle.mapping.proofs.MemberLemmas.{once_lawful, text_of_id}

work_is_text : IsText (119 ∷ 111 ∷ 114 ∷ 107 ∷ [])
unfolding is_short_text
work_is_text = refl

-- one address is few
pub few_of_one : (email : Email) → email.primary ≡ true → are_few (email ∷ []) ≡ true
unfolding are_few
few_of_one email primary = rw primary refl

few_of_none : are_few [] ≡ true
unfolding are_few
few_of_none = refl

pub emails_are_lawful : (mail : List ℕ) → length mail ≤ TEXT_LIMIT → IsEmailList (emails_of mail)
emails_are_lawful [] short = record { each = tt; few = few_of_none }
emails_are_lawful (b ∷ mail) short = record {
  each = (record { value = is_text b mail short; type_text = work_is_text }, tt);
  few = few_of_one _ refl;
}

source_short : (row : UserFields) → IsUserRow row → (which : UserText) → length (source_text row which) ≤ TEXT_LIMIT
source_short row lawful texts.Department = short_text row lawful field.Department
source_short row lawful texts.ExternalId = short_text row lawful field.Number
source_short row lawful texts.FamilyName = short_text row lawful field.Family
source_short row lawful texts.GivenName = short_text row lawful field.Given

texts_lawful : (row : UserFields) (ws : List UserText) → IsUserRow row → AllByRecursion IsTextIf (map (λ which. text_if (source_text row which)) ws)
texts_lawful row [] lawful = tt
texts_lawful row (w ∷ ws) lawful = (text_if_is_text (source_text row w) (source_short row lawful w), texts_lawful row ws lawful)

pub image_texts_lawful : (row : UserFields) → IsUserRow row → AreUserTexts (image_texts row)
image_texts_lawful row lawful = record { count = refl; each = texts_lawful row USER_TEXTS lawful }

user_lawful : (row : UserFields) → IsUserRow row → IsContent (user_image row)
user_lawful row lawful = record {
  user_name = lawful.login;
  texts = image_texts_lawful row lawful;
  emails = emails_are_lawful (text_of row field.Mail) (short_text row lawful field.Mail);
  revision = lawful.revision;
}

-- ids that are known are texts, one for each member
all_texts : (id_of : RecordName → Option (List ℕ)) (keys ids : List (List ℕ)) → AreIds id_of → HaveIds id_of keys ids → AreTexts ids
all_texts id_of keys [] lawful all = tt
all_texts id_of [] (i ∷ ids) lawful all = absurd (cc all)
all_texts id_of (k ∷ keys) (i ∷ ids) lawful all = (text_of_id i (lawful (user k) i (cc all)), all_texts id_of keys ids lawful (cc all))

as_many : (id_of : RecordName → Option (List ℕ)) (keys ids : List (List ℕ)) → HaveIds id_of keys ids → length ids ≡ length keys
as_many id_of [] [] all = refl
as_many id_of [] (i ∷ ids) all = absurd (cc all)
as_many id_of (k ∷ keys) [] all = absurd (cc all)
as_many id_of (k ∷ keys) (i ∷ ids) all = ap suc (as_many id_of keys ids (cc all))

pub few_ids : (id_of : RecordName → Option (List ℕ)) (keys ids : List (List ℕ)) → ready id_of keys ≡ Ids ids → length keys ≤ MEMBER_LIMIT → length ids ≤ MEMBER_LIMIT
few_ids id_of keys ids is few = rw (as_many id_of keys ids ((means.ids id_of keys ids).0 is)) few

group_lawful : (ids : List (List ℕ)) (row : GroupFields) → IsGroupRow row → length ids ≤ MEMBER_LIMIT → AreTexts ids → IsContent (group_image ids row)
group_lawful ids row lawful few texts = record {
  display_name = lawful.name;
  external_id = tt;
  members = once_lawful ids few texts;
  revision = lawful.revision;
}

-- ---- images of whatever kind

read_back : (row : Row) (content : Content) → content_name content ≡ row_name row → IsContent content → ReadsBack row content
read_back row content named lawful = record { named = named; lawful = lawful; spells = content_spelled content lawful; again = content_read None None content lawful }

group_read_back : (id_of : RecordName → Option (List ℕ)) (row : GroupFields) (found : Ready) (content : Content) → AreIds id_of → IsGroupRow row → ready id_of row.members ≡ found
    → result_ok (image_by found row) ≡ Some content → ReadsBack (Group row) content
group_read_back id_of row (Ids ids) content known lawful is e =
    let few = few_ids id_of row.members ids is lawful.few in
    let texts = all_texts id_of row.members ids known ((means.ids id_of row.members ids).0 is) in
    let same : group_image ids row ≡ content = cc e in
    subst (λ (c : Content). ReadsBack (Group row) c) same (read_back (Group row) (group_image ids row) refl (group_lawful ids row lawful few texts))
group_read_back id_of row (Waits place) content known lawful is e = absurd (cc e)

pub images_read_back : ImagesReadBack
images_read_back id_of (User row) content known lawful e =
    let same : user_image row ≡ content = cc e in
    subst (λ (c : Content). ReadsBack (User row) c) same (read_back (User row) (user_image row) refl (user_lawful row lawful))
images_read_back id_of (Group row) content known lawful e = group_read_back id_of row (ready id_of row.members) content known lawful refl e

group_stays : (id_of later : RecordName → Option (List ℕ)) (row : GroupFields) (found : Ready) (content : Content) → GoesOn id_of later → ready id_of row.members ≡ found
    → result_ok (image_by found row) ≡ Some content → image later (Group row) ≡ Some content
group_stays id_of later row (Ids ids) content on is e = rw (means.stays id_of later row.members ids on is) e
group_stays id_of later row (Waits place) content on is e = absurd (cc e)

pub images_stay : ImagesStay
images_stay id_of later (User row) content on e = e
images_stay id_of later (Group row) content on e = group_stays id_of later row (ready id_of row.members) content on refl e
