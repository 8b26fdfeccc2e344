-- The lines of a run.
use Rattle.std.specs.Prelude.{ℕ, Bool, true, false, ◌==◌, List, [], ◌++◌, Some, None, codes, if◌then◌else◌}
use Rattle.std.specs.Fmt.{decimal}
use Rattle.scim_key.specs.Revisions.{revision_text}
use Rattle.scim_key.specs.declared.records.Kind.{Kind}
use Rattle.scim_key.specs.declared.records.Kind.TheVariants as kinds
use Rattle.scim_key.specs.declared.records.RecordName.{RecordName}
use Rattle.scim_resource.specs.declared.user_texts.UserText.{UserText}
use Rattle.scim_resource.specs.declared.user_texts.UserText.TheVariants as texts
use Rattle.journal_core.specs.Words.{kind_word}
use Rattle.scim_client.specs.Codes.{exchange_fault_text}
use Rattle.connector_core.specs.Codes.{change_fault_text}
use Rattle.connector_core.specs.declared.changing.ChangeFault.{ChangeFault}
use Rattle.provisioning.specs.Sources.{label}
use Rattle.provisioning.specs.declared.faults.RecordFault.{RecordFault}
use Rattle.provisioning.specs.declared.faults.RecordFault.TheVariants as faults
use Rattle.provisioning.specs.declared.older.OlderRow.{OlderRow}
use Rattle.provisioning.specs.declared.records.Standing.{Standing}
use Rattle.provisioning.specs.declared.records.Standing.TheVariants.{Confirmed, Waits, Unconfirmed}
use Rattle.provisioning.specs.declared.streaks.Obstacle.{Obstacle}
use Rattle.provisioning.specs.declared.streaks.Obstacle.TheVariants as obstacles
use Rattle.provisioning.specs.declared.streaks.Streak.{Streak}

-- the code of a fault
abbrev pub record_fault_text : RecordFault → List ℕ
record_fault_text (faults.Unanswered fault) = exchange_fault_text fault
record_fault_text faults.Unfit = codes "C1"
record_fault_text faults.Unversioned = codes "C2"
record_fault_text (faults.Refused status) = codes "C4"
record_fault_text faults.NoSuchRecord = codes "C7"

abbrev pub obstacle_text : Obstacle → List ℕ
obstacle_text obstacles.Unauthorized = codes "401"
obstacle_text obstacles.Forbidden = codes "403"
obstacle_text obstacles.TooMany = codes "429"
obstacle_text obstacles.Unavailable = codes "503"
obstacle_text obstacles.Lost = codes "the connection failed"

-- how many records in a row met which obstacle
abbrev pub streak_text : Streak → List ℕ
streak_text streak =
    if streak.count == 1 then codes "1 record: " ++ obstacle_text streak.obstacle
    else decimal streak.count ++ (codes " records in a row: " ++ obstacle_text streak.obstacle)

-- how the state of a record is printed
abbrev pub standing_text : Standing → List ℕ
standing_text (Confirmed revision) = codes "confirmed " ++ revision_text revision
standing_text (Waits member) = codes "unconfirmed waits " ++ member
standing_text (Unconfirmed None) = codes "unconfirmed -"
standing_text (Unconfirmed (Some fault)) = codes "unconfirmed " ++ record_fault_text fault

-- the line of a record: its state
abbrev pub record_line : RecordName → (standing : List ℕ) → List ℕ
record_line name standing = kind_word name.kind ++ (codes " " ++ (name.key ++ (codes " " ++ (standing ++ codes "\n"))))

-- what is said of a row that the connector refuses: its file, the place of its record, and the code
abbrev pub refused_text : Kind → (place : ℕ) → ChangeFault → List ℕ
refused_text kind place fault = label kind ++
    (codes " record " ++ (decimal place ++ (codes ": " ++ change_fault_text fault)))

-- added to the line of an older row that says that a user left, while the wanted row says that the user is active
abbrev pub leaver_text : Bool → List ℕ
leaver_text true = codes "; it says left"
leaver_text false = []

-- what is said of an older row: its file, the place of its record, and both revisions
abbrev pub older_text : Kind → (place : ℕ) → OlderRow → List ℕ
older_text kind place older = label kind ++ (codes " record " ++ (decimal place ++ (codes ": older, " ++
    (revision_text older.revision ++ (codes " is below " ++
    (revision_text older.wanted ++ leaver_text older.is_leaver))))))

-- ---- the words for an aspect

abbrev pub name_label : Kind → List ℕ
name_label kinds.User = codes "userName"
name_label kinds.Group = codes "displayName"

abbrev pub text_label : UserText → List ℕ
text_label texts.Department = codes "department"
text_label texts.ExternalId = codes "externalId"
text_label texts.FamilyName = codes "familyName"
text_label texts.GivenName = codes "givenName"
