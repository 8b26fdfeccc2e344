-- Rows that the connector accepts are those that the source accepts, and none is lost.
use Rattle.std.proofs.Common.{◌≡◌, Bool, true, false, [], ◌∷◌, ◌++◌, Result, Ok, Err, refl}
use Rattle.std.proofs.lemmas.List.Elements.{filter-append}
use Rattle.scim_key.specs.declared.records.RecordName.{RecordName}
use Rattle.provider_core.proofs.TableLaws.{at_more}
use Rattle.source_csv.specs.Records.{row_name}
use Rattle.source_csv.specs.declared.rows.Row.{Row}
use Rattle.connector_core.specs.History.{History, same_name, rows_of}
use Rattle.connector_core.specs.Accepting.{accepting}
use Rattle.connector_core.specs.declared.accepting.BookFault.{BookFault}
use Rattle.connector_core.specs.declared.accepting.BookFault.TheVariants as faults
use Rattle.connector_core.specs.declared.accepting.Verdict.{Verdict}
use Rattle.connector_core.specs.declared.accepting.Verdict.TheVariants as verdicts
use Rattle.connector_core.specs.Changing.{limited, judging_by_source}
use Rattle.world_model.specs.Safe.{Has}

pub rows_push : (history : History) (row : Row) (name : RecordName) → rows_of (history ++ row ∷ []) name ≡ rows_of history name ++ rows_of (row ∷ []) name
rows_push history row name = filter-append (λ r. same_name (row_name r) name) history (row ∷ [])

pub rows_stay : (history : History) (row : Row) (name : RecordName) (r : Row) → Has (rows_of history name) r → Has (rows_of (history ++ row ∷ []) name) r
rows_stay history row name r has =
    (has.0, rw (rows_push history row name) (at_more (rows_of history name) (rows_of (row ∷ []) name) has.0 r has.1))

-- a row that is new though their number is limited is new by the history
limited_new : (no_room : Bool) (row : Row) (v : Result Verdict BookFault) → limited no_room row v ≡ Ok verdicts.New → v ≡ Ok verdicts.New
limited_new true row (Ok verdicts.New) is = refl
limited_new false row (Ok verdicts.New) is = refl
limited_new no_room row (Ok verdicts.Known) is = absurd (cc)
limited_new no_room row (Ok verdicts.Older) is = absurd (cc)
limited_new no_room row (Err faults.Differs) is = absurd (cc)
limited_new no_room row (Err (faults.NoSuchMember place)) is = absurd (cc)

pub new_by_source : (history : History) (row : Row) → judging_by_source history row ≡ Ok verdicts.New → accepting history row ≡ Ok verdicts.New
new_by_source history row is = limited_new _ row (accepting history row) is
