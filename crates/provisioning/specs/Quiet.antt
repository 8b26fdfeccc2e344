-- The lines of a quiet run.
use Rattle.std.specs.Prelude.{◌≡◌, ◌+◌, ◌-◌, ◌^◌, ℕ, Bool, true, false, List, ◌++◌, Option, Some, None, Result, Ok, Err, codes, is_err, min, if◌then◌else◌}
use Rattle.std.specs.Fmt.{decimal}
use Rattle.std.specs.Io.KnownBytes.{Appends}
use Rattle.std.specs.List.{count_by}
use Rattle.source_csv.specs.declared.faults.RowFault.{RowFault}
use Rattle.source_csv.specs.declared.rows.Row.{Row}
use Rattle.journal_core.specs.declared.journals.Journal.{Ghosts}
use Rattle.connector_core.specs.State.{State}
use Rattle.connector_core.specs.declared.accepting.Verdict.{Verdict}
use Rattle.connector_core.specs.declared.changing.ChangeFault.{ChangeFault}
use Rattle.provisioning.specs.Carrying.{CarriesSilentlyAt}
use Rattle.provisioning.specs.Runs.{IsUntold, is_confirmed}
use Rattle.provisioning.specs.Services.{Service}
use Rattle.provisioning.specs.Sources.{records_of}
use Rattle.provisioning.specs.declared.carrying.Outcome.{Outcome}
use Rattle.provisioning.specs.declared.faults.RunFault.{RunFault}
use Rattle.provisioning.specs.declared.paces.Pace.{Pace}
use Rattle.provisioning.specs.declared.quiet.Counts.{Counts}
use Rattle.provisioning.specs.declared.records.Standing.{Standing}
use Rattle.provisioning.specs.declared.sources.Source.{Source}
use Rattle.provisioning.specs.declared.sources.Sources.{Sources}

-- ---- counting

abbrev pub greatest : ℕ
greatest = 2 ^ 64 - 1

-- one more, up to the greatest number
abbrev pub one_more : ℕ → ℕ
one_more count = min (count + 1) greatest

-- a row that the connector refuses is rejected
abbrev pub with_row : Counts → Result Verdict ChangeFault → Counts
with_row counts (Ok verdict) = counts
with_row counts (Err fault) = record counts { rejected = one_more counts.rejected }

abbrev pub with_record : Counts → Standing → Counts
with_record counts standing = if is_confirmed standing
    then record counts { confirmed = one_more counts.confirmed }
    else record counts { unconfirmed = one_more counts.unconfirmed }

-- how many of these records are no rows
abbrev pub rejected_among : List (Result Row RowFault) → ℕ
rejected_among records = count_by is_err records

abbrev pub rejected_if : Option Source → ℕ
rejected_if (Some source) = rejected_among (records_of source)
rejected_if None = 0

-- how many records of the files are no rows
abbrev pub rejected_in : Sources → ℕ
rejected_in sources = min (rejected_among (records_of sources.users) + rejected_if sources.groups) greatest

-- ---- lines

abbrev pub counts_text : Counts → List ℕ
counts_text counts = decimal counts.confirmed ++ (codes " confirmed, " ++ (decimal counts.unconfirmed
    ++ (codes " unconfirmed, " ++ (decimal counts.rejected ++ codes " rejected"))))

-- the last line of a quiet run
abbrev pub counts_line : Counts → List ℕ
counts_line counts = counts_text counts ++ codes "\n"

-- nothing is printed for a confirmed record, and this line for any other
abbrev pub PrintsUnless : (confirmed : Bool) → (before after : Option (List ℕ)) → (line : List ℕ) → Type 0
PrintsUnless true before after line = after ≡ before
PrintsUnless false before after line = Appends before after line

-- ---- the run

-- the result of a run is its outcome if its counts could be printed; a fault that ended the run stays
abbrev pub Concludes : (carried result : Result Outcome RunFault) → Type 0
Concludes (Ok outcome) (Ok given) = given ≡ outcome
Concludes (Ok outcome) (Err fault) = IsUntold fault
Concludes (Err cause) result = result ≡ Err cause

-- a run, and its counts
abbrev pub CarriesQuietly : {I O J : Type 0} → (I → Option (List ℕ)) → (O → Option (List ℕ)) → Ghosts J → Pace
    → Service → Sources → (old new : State J) → Result Outcome RunFault → Type 0
CarriesQuietly remaining contents g pace service sources old new result =
    (carried : Result Outcome RunFault) × CarriesSilentlyAt remaining contents g pace service sources old new carried
    × Concludes carried result
