-- A run that is looked at before it happens.
use Rattle.std.specs.Prelude.{◌≡◌, ◌⊎◌, ◌==◌, ◌&&◌, ℕ, Bool, true, false, not, List, [], ◌++◌, Option, Some, None, Result, Ok, Err, codes, length, if◌then◌else◌}
use Rattle.std.specs.FinMap.{keys}
use Rattle.std.specs.Fmt.{decimal}
use Rattle.std.specs.Io.KnownBytes.{Appends}
use Rattle.std.specs.List.{flat_map}
use Rattle.scim_key.specs.Revisions.{RevisionValue, no_revision, revision_text, same_revision}
use Rattle.scim_key.specs.declared.records.RecordName.{RecordName}
use Rattle.source_csv.specs.Records.{row_revision}
use Rattle.source_csv.specs.declared.layouts.Column.{Column}
use Rattle.source_csv.specs.declared.rows.Row.{Row}
use Rattle.source_csv.specs.declared.rows.Row.TheVariants.{User, Group}
use Rattle.mapping.specs.Settling.{IsSettleOrder}
use Rattle.journal_core.specs.Words.{kind_word}
use Rattle.journal_core.specs.declared.journals.Journal.{Ghosts}
use Rattle.connector_core.specs.Book.{Book, confirmed_of, wanted_row}
use Rattle.connector_core.specs.Maps.{BookMap, book_of}
use Rattle.connector_core.specs.State.{State}
use Rattle.provisioning.specs.Changes.{changes_from, changes_text}
use Rattle.provisioning.specs.Bases.{confirmed_row, is_absent}
use Rattle.provisioning.specs.Leavers.{leavers}
use Rattle.provisioning.specs.Offering.{OffersAll}
use Rattle.provisioning.specs.Runs.{IsUntold}
use Rattle.provisioning.specs.Sources.{are_whole}
use Rattle.provisioning.specs.declared.faults.RunFault.{RunFault}
use Rattle.provisioning.specs.declared.faults.RunFault.TheVariants.{Memory}
use Rattle.provisioning.specs.declared.offering.Judged.{Judged}
use Rattle.provisioning.specs.declared.planning.Plan.{Plan}
use Rattle.provisioning.specs.declared.sources.Sources.{Sources}

-- ---- the line of a record

-- from where the record is changed
abbrev pub from_text : RevisionValue → List ℕ
from_text confirmed =
    if same_revision confirmed no_revision then codes "new" else revision_text confirmed ++ codes " to"

-- what the row says of its record
abbrev pub row_text : Row → List ℕ
row_text (User row) = if row.active then codes "active" else codes "left"
row_text (Group row) = codes "members=" ++ decimal (length row.members)

-- the row says that the user is active, and the confirmed one said otherwise
abbrev pub is_back : (before : Option Row) → Row → Bool
is_back None row = false
is_back (Some (User before)) (User row) = not before.active && row.active
is_back (Some (User before)) (Group row) = false
is_back (Some (Group before)) row = false

-- both say that the user is active
abbrev pub stays_active : (before : Option Row) → Row → Bool
stays_active None row = false
stays_active (Some (User before)) (User row) = before.active && row.active
stays_active (Some (User before)) (Group row) = false
stays_active (Some (Group before)) row = false

-- What the row says of its record, beside its confirmed row. That a user stays active goes without saying, if the line
-- names columns
abbrev pub said_text : (before : Option Row) → Row → (changes : List Column) → List ℕ
said_text before row changes =
    if is_back before row then codes " active again"
    else if stays_active before row && not (length changes == 0) then [] else codes " " ++ row_text row

abbrev pub absent_text : (absent : Bool) → List ℕ
absent_text true = codes " (not in the file)"
absent_text false = []

-- the line of a record with this row, which changes these columns of the confirmed one
abbrev pub planned_text : RecordName → (confirmed : RevisionValue) → Row → (before : Option Row)
    → (changes : List Column) → (absent : Bool) → List ℕ
planned_text name confirmed row before changes absent = kind_word name.kind ++ (codes " " ++ (name.key ++ (codes " " ++
    (from_text confirmed ++ (codes " " ++ (revision_text (row_revision row) ++ (said_text before row changes ++
    (absent_text absent ++ changes_text changes))))))))

-- the line of a record with this row, beside its confirmed one, if that is known; no line if the row is confirmed
abbrev pub line_by : RecordName → (confirmed : RevisionValue) → (before : Option Row) → (absent : Bool)
    → Option Row → List ℕ
line_by name confirmed before absent None = []
line_by name confirmed before absent (Some row) = if same_revision (row_revision row) confirmed then []
    else planned_text name confirmed row before (changes_from before row) absent ++ codes "\n"

-- the line of a record, if its wanted revision isn't confirmed
abbrev pub plan_line : (before : RecordName → Option Row) → (absent : RecordName → Bool) → Book → RecordName
    → List ℕ
plan_line before absent book name =
    line_by name (confirmed_of book name) (before name) (absent name) (wanted_row book name)

abbrev pub plan_lines : (before : RecordName → Option Row) → (absent : RecordName → Bool) → Book
    → List RecordName → List ℕ
plan_lines before absent book names = flat_map (plan_line before absent book) names

-- ---- the plan

-- a line is written for each record of the book whose wanted revision isn't confirmed, in the order of a push, beside
-- these confirmed rows
pub record WritesPlan (confirmed : RecordName → Option Row) (absent : RecordName → Bool) (book : BookMap)
    (before after : Option (List ℕ)) : Type 0 where
  pub names : List RecordName
  pub order : IsSettleOrder (keys book) names
  pub lines : Appends before after (plan_lines confirmed absent (book_of book) names)

-- the same beside the rows that were confirmed before the rows of the files, of which these records are absent
abbrev pub PlansRecords : Sources → (old new : BookMap) → (before after : Option (List ℕ)) → Type 0
PlansRecords sources old new before after =
    WritesPlan (confirmed_row (book_of old)) (is_absent sources) new before after

-- The rows were offered as in a push, and a line was written for each record that they left unconfirmed; or the rows,
-- or a line that can't be written, ended the run, or memory ran out before it
abbrev pub Plans : {J : Type 0} → Ghosts J → Sources → (old new : State J)
    → (heard later : Option (List Judged)) → (before after : Option (List ℕ)) → Result Plan RunFault → Type 0
Plans g sources old new heard later before after (Ok plan) =
    (taken : Bool) × OffersAll g sources old new heard later (Ok taken)
    × PlansRecords sources old.book new.book before after
    × (plan ≡ record { is_taken = taken && are_whole sources; leavers = leavers old.book new.book })
Plans g sources old new heard later before after (Err fault) =
    OffersAll g sources old new heard later (Err fault)
    ⊎ (((taken : Bool) × OffersAll g sources old new heard later (Ok taken) × IsUntold fault)
    ⊎ ((new ≡ old) × (later ≡ heard) × (fault ≡ Memory)))
