-- The text of what differs.
use Rattle.std.specs.Prelude.{◌≡◌, ℕ, Bool, true, false, List, [], ◌∷◌, ◌++◌, Option, Some, None, codes, if◌then◌else◌}
use Rattle.std.specs.Fmt.{decimal}
use Rattle.std.specs.Io.KnownBytes.{Appends}
use Rattle.std.specs.List.{flat_map}
use Rattle.scim_key.specs.Revisions.{RevisionValue, revision_text}
use Rattle.scim_key.specs.declared.records.RecordName.{RecordName}
use Rattle.scim_resource.specs.Contents.{content_kind, content_revision, spelled_name}
use Rattle.scim_resource.specs.declared.contents.Content.{Content}
use Rattle.scim_resource.specs.declared.emails.Email.{Email}
use Rattle.journal_core.specs.Printable.{printable_text}
use Rattle.journal_core.specs.Words.{kind_word}
use Rattle.provisioning.specs.Lines.{name_label, record_fault_text, text_label}
use Rattle.comparing.specs.Aspects.{agree, content_emails, content_text, is_active, is_same, missing, surplus}
use Rattle.comparing.specs.declared.aspects.Aspect.{Aspect}
use Rattle.comparing.specs.declared.aspects.Aspect.TheVariants as aspect
use Rattle.comparing.specs.declared.aspects.TheConstants.{ASPECTS}
use Rattle.checking.specs.Findings.{same_id}
use Rattle.checking.specs.declared.beside.Beside.{Beside}
use Rattle.checking.specs.declared.counts.Counts.{Counts}
use Rattle.checking.specs.declared.findings.Finding.{Finding}
use Rattle.checking.specs.declared.findings.Finding.TheVariants.{Found, Above, Gone, Unchecked}
use Rattle.checking.specs.declared.looking.Hindrance.{Hindrance}
use Rattle.checking.specs.declared.looking.Hindrance.TheVariants.{Fault, Waits}

-- ---- what a side says

abbrev pub flag_text : Bool → List ℕ
flag_text true = codes "true"
flag_text false = codes "false"

-- a text of others, between quotes
abbrev pub quoted : List ℕ → List ℕ
quoted text = codes "\"" ++ (printable_text text ++ codes "\"")

abbrev pub quoted_if : Option (List ℕ) → List ℕ
quoted_if None = codes "none"
quoted_if (Some text) = quoted text

-- ` work`; nothing if there is no type
abbrev pub type_text : Option (List ℕ) → List ℕ
type_text None = []
type_text (Some text) = codes " " ++ printable_text text

abbrev pub primary_text : Bool → List ℕ
primary_text true = codes " primary"
primary_text false = []

-- `"ann@example.org" work primary`
abbrev pub email_text : Email → List ℕ
email_text email = quoted email.value ++ (type_text email.type_text ++ primary_text email.primary)

abbrev pub more_text : List Email → List ℕ
more_text emails = flat_map (λ email. codes " and " ++ email_text email) emails

abbrev pub emails_text : List Email → List ℕ
emails_text [] = codes "none"
emails_text (email ∷ emails) = email_text email ++ more_text emails

abbrev pub revision_if : Option RevisionValue → List ℕ
revision_if None = codes "none"
revision_if (Some revision) = revision_text revision

abbrev pub id_if : Option (List ℕ) → List ℕ
id_if None = codes "none"
id_if (Some id) = printable_text id

-- ---- what differs

-- `LABEL: FOUND, wanted WANTED`
abbrev pub sides_text : (label found wanted : List ℕ) → List ℕ
sides_text label found wanted = label ++ (codes ": " ++ (found ++ (codes ", wanted " ++ wanted)))

abbrev pub members_text : (missing surplus : ℕ) → List ℕ
members_text missing surplus =
    codes "members: " ++ (decimal missing ++ (codes " missing, " ++ (decimal surplus ++ codes " more")))

-- How a difference in this aspect is printed
abbrev pub difference_text : (wanted found : Content) → Aspect → List ℕ
difference_text wanted found aspect.Active =
    sides_text (codes "active") (flag_text (is_active found)) (flag_text (is_active wanted))
difference_text wanted found aspect.Name =
    sides_text (name_label (content_kind wanted)) (quoted (spelled_name found)) (quoted (spelled_name wanted))
difference_text wanted found (aspect.Text which) = sides_text (text_label which)
    (quoted_if (content_text which found)) (quoted_if (content_text which wanted))
difference_text wanted found aspect.Emails =
    sides_text (codes "emails") (emails_text (content_emails found)) (emails_text (content_emails wanted))
difference_text wanted found aspect.Members = members_text (missing wanted found) (surplus wanted found)
difference_text wanted found aspect.Revision = sides_text (codes "revision")
    (revision_if (content_revision found)) (revision_if (content_revision wanted))

-- what is in front of a difference
abbrev pub separator : (first : Bool) → List ℕ
separator true = codes " "
separator false = codes "; "

-- The differences in these aspects; the first may have others in front
unfoldable pub differences_text : (wanted found : Content) → (first : Bool) → List Aspect → List ℕ
differences_text wanted found first [] = []
differences_text wanted found first (a ∷ more) = if agree wanted found a then differences_text wanted found first more
    else separator first ++ (difference_text wanted found a ++ differences_text wanted found false more)

-- another id than the known one, behind what differs of the content
abbrev pub other_id_text : Beside → List ℕ
other_id_text b = if same_id b.known b.found.id then []
    else separator (is_same b.wanted b.found.content)
    ++ (codes "id: " ++ (printable_text b.found.id ++ (codes ", known " ++ id_if b.known)))

-- ---- the line of a record

-- why a record isn't checked
abbrev pub hindrance_text : Hindrance → List ℕ
hindrance_text (Fault fault) = record_fault_text fault
hindrance_text (Waits member) = codes "waits " ++ member

-- a revision above the wanted one
abbrev pub above_text : Beside → List ℕ
above_text b = codes ": revision " ++ (revision_if (content_revision b.found.content)
    ++ (codes ", above the wanted " ++ revision_if (content_revision b.wanted)))

-- What is printed of a finding behind the record's name
abbrev pub finding_text : Finding → List ℕ
finding_text (Found b) = differences_text b.wanted b.found.content true ASPECTS ++ other_id_text b
finding_text (Above b) = above_text b
finding_text Gone = codes ": gone"
finding_text (Unchecked why) = codes ": unchecked " ++ hindrance_text why

-- a record and its finding
abbrev pub record_text : RecordName → Finding → List ℕ
record_text name finding = kind_word name.kind ++ (codes " " ++ (name.key ++ finding_text finding))

-- the line of a record
abbrev pub finding_line : RecordName → Finding → List ℕ
finding_line name finding = record_text name finding ++ codes "\n"

-- ---- the last line

abbrev pub counts_text : Counts → List ℕ
counts_text counts = codes "checked " ++ (decimal counts.checked ++ (codes ", differing " ++ (decimal counts.differing
    ++ (codes ", unchecked " ++ decimal counts.unchecked))))

abbrev pub counts_line : Counts → List ℕ
counts_line counts = counts_text counts ++ codes "\n"

-- a record has this line, or none
abbrev pub PrintsIf : (printed : Bool) → (before after : Option (List ℕ)) → (line : List ℕ) → Type 0
PrintsIf true before after line = Appends before after line
PrintsIf false before after line = after ≡ before
