-- In which aspects the content of a resource differs from what is wanted of it.
use Rattle.std.specs.Prelude.{ℕ, Bool, true, false, not, ◌&&◌, ◌==◌, List, [], Option, Some, None, count_by, length}
use Rattle.std.specs.List.{list_all, list_any, zip}
use Rattle.std.specs.Str.{bytes_eq}
use Rattle.scim_key.specs.Records.{same_kind}
use Rattle.scim_key.specs.Revisions.{RevisionValue, same_revision}
use Rattle.scim_resource.specs.Contents.{content_kind, content_members, content_revision, spelled_name}
use Rattle.scim_resource.specs.UserTexts.{text_at}
use Rattle.scim_resource.specs.declared.contents.Content.{Content}
use Rattle.scim_resource.specs.declared.contents.Content.TheVariants.{User, Group}
use Rattle.scim_resource.specs.declared.emails.Email.{Email}
use Rattle.scim_resource.specs.declared.user_texts.UserText.{UserText}
use Rattle.scim_resource.specs.declared.user_texts.UserText.TheVariants as texts
use Rattle.comparing.specs.declared.aspects.Aspect.{Aspect}
use Rattle.comparing.specs.declared.aspects.Aspect.TheVariants as aspect
use Rattle.comparing.specs.declared.aspects.TheConstants.{ASPECTS}

-- ---- what a content says

-- a user's account is active
abbrev pub is_active : Content → Bool
is_active (User u) = u.active
is_active (Group g) = false

-- this text of a user; of a group, its id at the source
abbrev pub content_text : UserText → Content → Option (List ℕ)
content_text which (User u) = text_at which u.texts
content_text texts.ExternalId (Group g) = g.external_id
content_text texts.Department (Group g) = None
content_text texts.FamilyName (Group g) = None
content_text texts.GivenName (Group g) = None

-- a user's email addresses; none for a group
abbrev pub content_emails : Content → List Email
content_emails (User u) = u.emails
content_emails (Group g) = []

-- ---- whether two are the same

abbrev pub same_flag : Bool → Bool → Bool
same_flag true other = other
same_flag false other = not other

abbrev pub same_text : Option (List ℕ) → Option (List ℕ) → Bool
same_text None None = true
same_text None (Some text) = false
same_text (Some text) None = false
same_text (Some text) (Some other) = bytes_eq text other

abbrev pub same_email : Email → Email → Bool
same_email one other = bytes_eq one.value other.value && same_text one.type_text other.type_text
    && same_flag one.primary other.primary

abbrev pub same_emails : List Email → List Email → Bool
same_emails some others = (length some == length others) && list_all (λ p. same_email p.0 p.1) (zip some others)

abbrev pub same_revision_if : Option RevisionValue → Option RevisionValue → Bool
same_revision_if None None = true
same_revision_if None (Some revision) = false
same_revision_if (Some revision) None = false
same_revision_if (Some revision) (Some other) = same_revision revision other

-- the same kind, and the same name byte for byte
abbrev pub same_spelling : Content → Content → Bool
same_spelling one other = same_kind (content_kind one) (content_kind other)
    && bytes_eq (spelled_name one) (spelled_name other)

-- ---- members, whose order isn't asked

abbrev pub is_in : List (List ℕ) → List ℕ → Bool
is_in members id = list_any (λ other. bytes_eq other id) members

-- how many of the first aren't in the second
abbrev pub absent_from : (members others : List (List ℕ)) → ℕ
absent_from members others = count_by (λ id. not (is_in others id)) members

-- how many wanted members the resource doesn't have
abbrev pub missing : (wanted found : Content) → ℕ
missing wanted found = absent_from (content_members wanted) (content_members found)

-- how many members it has that aren't wanted
abbrev pub surplus : (wanted found : Content) → ℕ
surplus wanted found = absent_from (content_members found) (content_members wanted)

-- ---- the aspects

-- What is wanted and what was found agree in this aspect
abbrev pub agree : (wanted found : Content) → Aspect → Bool
agree wanted found aspect.Active = same_flag (is_active wanted) (is_active found)
agree wanted found aspect.Name = same_spelling wanted found
agree wanted found (aspect.Text which) = same_text (content_text which wanted) (content_text which found)
agree wanted found aspect.Emails = same_emails (content_emails wanted) (content_emails found)
agree wanted found aspect.Members = (missing wanted found == 0) && (surplus wanted found == 0)
agree wanted found aspect.Revision = same_revision_if (content_revision wanted) (content_revision found)

-- They agree in every aspect
abbrev pub is_same : (wanted found : Content) → Bool
is_same wanted found = list_all (agree wanted found) ASPECTS
