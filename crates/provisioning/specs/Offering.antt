-- Rows of files that are offered to the connector, and its verdict on each.
use Rattle.std.specs.Prelude.{◌≡◌, ◌≢◌, ◌⊎◌, ◌+◌, ◌&&◌, ℕ, Bool, true, false, not, List, [], ◌∷◌, Option, Some, None, Result, Ok, Err, is_ok}
use Rattle.std.specs.List.{filter_map, list_all}
use Rattle.std.specs.Option.{option_map}
use Rattle.std.specs.Result.{result_ok}
use Rattle.scim_key.specs.declared.records.Kind.{Kind}
use Rattle.source_csv.specs.declared.faults.RowFault.{RowFault}
use Rattle.source_csv.specs.Records.{row_name, row_revision}
use Rattle.source_csv.specs.declared.rows.Row.{Row}
use Rattle.source_csv.specs.declared.rows.Row.TheVariants.{User, Group}
use Rattle.journal_core.specs.Calls.{Writes}
use Rattle.journal_core.specs.declared.journals.Journal.{Ghosts}
use Rattle.connector_core.specs.declared.accepting.Verdict.{Verdict}
use Rattle.connector_core.specs.declared.accepting.Verdict.TheVariants.{New, Known, Older}
use Rattle.connector_core.specs.Book.{wanted_row}
use Rattle.connector_core.specs.Maps.{BookMap, book_of}
use Rattle.connector_core.specs.Changing.{CountsChange, IsNoVerdict, entries_all, new_rows, taking_all, verdicts}
use Rattle.connector_core.specs.State.{State}
use Rattle.connector_core.specs.declared.changing.ChangeFault.{ChangeFault}
use Rattle.connector_core.specs.declared.changing.ChangeFault.TheVariants.{Store}
use Rattle.provisioning.specs.Runs.{IsUntold}
use Rattle.provisioning.specs.Lists.{Adds}
use Rattle.provisioning.specs.Sources.{records_of}
use Rattle.provisioning.specs.declared.faults.RunFault.{RunFault}
use Rattle.provisioning.specs.declared.faults.RunFault.TheVariants as fault_of
use Rattle.provisioning.specs.declared.offering.Judged.{Judged}
use Rattle.provisioning.specs.declared.older.OlderRow.{OlderRow}
use Rattle.provisioning.specs.declared.sources.Source.{Source}
use Rattle.provisioning.specs.declared.sources.Sources.{Sources}

-- ---- the rows of a file

-- the rows among the records, in order
abbrev pub rows_in : List (Result Row RowFault) → List Row
rows_in records = filter_map result_ok records

-- ---- rows that are older than the wanted row of their record

-- whether the row says that a user left, while the wanted row says that the user is active
abbrev pub is_leaver : (row wanted : Row) → Bool
is_leaver (User row) (User wanted) = not row.active && wanted.active
is_leaver (User row) (Group wanted) = false
is_leaver (Group row) wanted = false

-- the row, beside the wanted row of its record
abbrev pub older_than : (row wanted : Row) → OlderRow
older_than row wanted =
    record { revision = row_revision row; wanted = row_revision wanted; is_leaver = is_leaver row wanted }

-- what an older row is beside the wanted row of this book; none for any other verdict
abbrev pub older_of : BookMap → Row → Result Verdict ChangeFault → Option OlderRow
older_of book row (Ok Older) = option_map (older_than row) (wanted_row (book_of book) (row_name row))
older_of book row (Ok New) = None
older_of book row (Ok Known) = None
older_of book row (Err fault) = None

-- ---- verdicts

-- the row of the record at this place, with its verdict; the book is the one after the rows of the file
abbrev pub judged_row : BookMap → Kind → (place : ℕ) → Row → Result Verdict ChangeFault → Judged
judged_row book of place row verdict =
    record { kind = of; place = place; verdict = verdict; older = older_of book row verdict }

-- the rows of the records from this place on, each with its verdict: the n-th row with the n-th verdict
abbrev pub judged_of : BookMap → Kind → (place : ℕ) → List (Result Row RowFault)
    → List (Result Verdict ChangeFault) → List Judged
judged_of book of place [] said = []
judged_of book of place (Err refusal ∷ records) said = judged_of book of (place + 1) records said
judged_of book of place (Ok row ∷ records) [] = []
judged_of book of place (Ok row ∷ records) (verdict ∷ said) =
    judged_row book of place row verdict ∷ judged_of book of (place + 1) records said

-- ---- reporting

-- if it is known what was reported before, these rows were reported after it
abbrev pub Hears : (old new : Option (List Judged)) → List Judged → Type 0
Hears old new judged = Adds old new judged

-- the connector didn't refuse the row
abbrev pub is_taken : Judged → Bool
is_taken judged = is_ok judged.verdict

-- each of these rows was reported, and the result is whether none was refused; or one of them couldn't be reported
abbrev pub Tells : List Judged → (before after : Option (List Judged)) → Result Bool RunFault → Type 0
Tells judged before after (Ok taken) = Hears before after judged × (taken ≡ list_all is_taken judged)
Tells judged before after (Err fault) = (judged ≢ []) × IsUntold fault

-- ---- what the connector does with the rows of a file

-- The connector gave these verdicts on the rows, each by the book that the rows before it left. The new rows are
-- written by one write of the journal, which isn't touched if no row is new
pub record IsTaken {J : Type 0} (g : Ghosts J) (rows : List Row)
    (said : List (Result Verdict ChangeFault)) (old new : State J) : Type 0 where
  pub verdicts_are : said ≡ verdicts old.book rows
  pub book : new.book ≡ taking_all old.book rows
  pub journal : Writes {T = List (Result Verdict ChangeFault)} g CountsChange old.journal new.journal
      (entries_all (g.entries old.journal) old.book rows) (Ok said)
  pub quiet : new_rows old.book rows ≡ [] → g.writes new.journal ≡ g.writes old.journal

-- The journal failed at the rows, or memory ran out: none of them is taken
pub record IsRefused {J : Type 0} (g : Ghosts J) (rows : List Row) (cause : ChangeFault)
    (old new : State J) : Type 0 where
  pub says_nothing : IsNoVerdict cause
  pub book : new.book ≡ old.book
  pub journal : Writes {T = List (Result Verdict ChangeFault)} g CountsChange old.journal new.journal
      (entries_all (g.entries old.journal) old.book rows) (Err cause)

-- what ends the run if there is no verdict on the rows
abbrev pub stop_of : ChangeFault → RunFault
stop_of Store = fault_of.Journal
stop_of _ = fault_of.Memory

-- ---- one file

-- the rows were refused together, or memory ran out before they were offered
abbrev pub IsStopped : {J : Type 0} → Ghosts J → List Row → (old new : State J) → RunFault → Type 0
IsStopped g rows old new fault =
    ((cause : ChangeFault) × IsRefused g rows cause old new × (fault ≡ stop_of cause))
    ⊎ ((new ≡ old) × (fault ≡ fault_of.Memory))

-- The rows were taken together and then reported; or none of them was taken and none reported
abbrev pub OffersFile : {J : Type 0} → Ghosts J → Kind → List (Result Row RowFault)
    → (old new : State J) → (before after : Option (List Judged)) → Result Bool RunFault → Type 0
OffersFile g of records old new before after result =
    ((said : List (Result Verdict ChangeFault)) × IsTaken g (rows_in records) said old new
    × Tells (judged_of new.book of 1 records said) before after result)
    ⊎ ((fault : RunFault) × IsStopped g (rows_in records) old new fault × (after ≡ before) × (result ≡ Err fault))

-- ---- the files of a run

-- the groups follow the users, if there is a file of them
abbrev pub OffersGroups : {J : Type 0} → Ghosts J → Option Source → (old new : State J)
    → (before after : Option (List Judged)) → Result Bool RunFault → Type 0
OffersGroups g None old new before after result = (new ≡ old) × (after ≡ before) × (result ≡ Ok true)
OffersGroups g (Some source) old new before after result =
    OffersFile g source.kind (records_of source) old new before after result

abbrev pub both : Bool → Result Bool RunFault → Result Bool RunFault
both users (Ok groups) = Ok (users && groups)
both users (Err fault) = Err fault

-- the file of users, then the file of groups; or the file of users ended the run
abbrev pub OffersAll : {J : Type 0} → Ghosts J → Sources → (old new : State J)
    → (before after : Option (List Judged)) → Result Bool RunFault → Type 0
OffersAll {J} g sources old new before after result =
    ((between : State J) × (mid : Option (List Judged)) × (users : Bool)
    × (groups : Result Bool RunFault)
    × OffersFile g sources.users.kind (records_of sources.users) old between before mid (Ok users)
    × OffersGroups g sources.groups between new mid after groups × (result ≡ both users groups))
    ⊎ ((fault : RunFault) × OffersFile g sources.users.kind (records_of sources.users) old new before
    after (Err fault) × (result ≡ Err fault))
