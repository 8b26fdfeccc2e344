-- A story has no more versions than there are revisions.
use Rattle.std.proofs.Common.{◌≡◌, ℕ, zero, suc, ◌<◌, ◌≤◌, true, List, [], ◌∷◌, length, Some, refl, inl, inr, ap, sym, ◌∙◌, arith, length-append}
use Rattle.std.proofs.lemmas.Bool.{ltb-true, leb-true}
use Rattle.std.proofs.lemmas.Option.{slice_get_within}
use Rattle.scim_key.proofs.RevisionLaws.{none_before, rank_rises, rank_bounded}
use Rattle.scim_key.specs.Revisions.{RevisionValue, IsRevision, no_revision, rank, most_revisions}
use Rattle.scim_key.specs.declared.records.RecordName.{RecordName}
use Rattle.scim_resource.specs.declared.contents.Content.{Content}
use Rattle.provider_core.specs.Stories.{Entry, story}
use Rattle.provider_core.proofs.TableLaws.{held_at}
use Rattle.source_csv.specs.Records.{IsRow, row_revision}
use Rattle.source_csv.specs.declared.rows.Row.{Row}
use Rattle.source_csv.specs.declared.rows.Row.TheVariants.{User, Group}
use Rattle.source_csv.specs.Records.{row_name}
use Rattle.connector_core.specs.History.{History, same_name, rows_of}
use Rattle.connector_core.specs.Learning.{content_revision}
use Rattle.world_model.specs.Safe.{IsAt, Has, StoryRises}
use Rattle.world_model.specs.Invariant.{Names, all_names, AllOurs, Kept}
use Rattle.world_model.proofs.Lists.{at_within, filter_has}
use Rattle.world_model.proofs.Sending.{row_of_record}

-- a content with a valid revision
pub record IsOfRevision (c : Content) : Type 0 where
  pub revision : RevisionValue
  pub has : content_revision c ≡ Some revision
  pub lawful : IsRevision revision

abbrev AllOfRevisions : List Content → Type 0
AllOfRevisions contents = (i : ℕ) (c : Content) → IsAt contents i c → IsOfRevision c

ranked : (contents : List Content) → StoryRises contents → AllOfRevisions contents → (j : ℕ) (c : Content) (r : RevisionValue) → IsAt contents j c → content_revision c ≡ Some r → IsRevision r
    → j < rank r
ranked contents rises lawful zero c r at has law = let up = ltb-true (rank no_revision) (rank r) (rank_rises no_revision r (inl refl) law (none_before r law)) in omega (arith, up)
ranked contents rises lawful (suc j) c r at has law =
    let within = slice_get_within contents (suc j) c at in
    let (d, there) = at_within contents j (omega (arith, within)) in
    let its = lawful j d there in
    let below = ranked contents rises lawful j d its.revision there its.has its.lawful in
    let up = ltb-true (rank its.revision) (rank r) (rank_rises its.revision r (inr its.lawful) law (rises j (suc j) d c its.revision r (omega arith) there at its.has has)) in
    omega (arith, below, up)

few_versions : (e : Entry) → StoryRises (story e) → AllOfRevisions (story e) → length (story e) ≤ most_revisions
few_versions e rises lawful =
    let its = lawful (length e.earlier) e.held (held_at e) in
    let below = ranked (story e) rises lawful (length e.earlier) e.held its.revision (held_at e) its.has its.lawful in
    let most = leb-true (rank its.revision) most_revisions (rank_bounded its.revision its.lawful) in
    omega (arith, below, most, length-append e.earlier (e.held ∷ []))

-- ---- valid rows

abbrev pub AllLawful : History → Type 0
AllLawful history = (i : ℕ) (row : Row) → IsAt history i row → IsRow row

pub lawful_revision : (row : Row) → IsRow row → IsRevision (row_revision row)
lawful_revision (User row) law = law.revision
lawful_revision (Group row) law = law.revision

-- an accepted row of a record is a row of the history
pub row_there : (history : History) (name : RecordName) (row : Row) → Has (rows_of history name) row → Has history row
row_there history name row has = filter_has (λ r. same_name (row_name r) name) history has.0 row has.1

pub row_lawful : (history : History) → AllLawful history → (name : RecordName) (row : Row) → Has (rows_of history name) row → IsRow row
row_lawful history lawful name row has = let there = row_there history name row has in lawful there.0 row there.1

-- the record of an accepted row is ours
pub record_ours : (ours : Names) (history : History) → AllOurs ours history → (name : RecordName) (row : Row) → Has (rows_of history name) row → ours name ≡ true
record_ours ours history mine name row has = ap ours (sym (row_of_record history name row has)) ∙ mine row (row_there history name row has)

pub versions_few_of : {ours : Names} (history : History) (es : List Entry) → Kept ours history es → AllLawful history → (i : ℕ) (e : Entry) → IsAt es i e → ours e.name ≡ true
    → length (story e) ≤ most_revisions
versions_few_of history es kept lawful i e at mine = few_versions e (kept.rises i e at mine) (λ j c in_story.
    let image = kept.imaged i j e c at mine in_story in
    record { revision = row_revision image.row; has = image.revision; lawful = lawful_revision image.row (row_lawful history lawful e.name image.row image.accepted) })

pub versions_few : (history : History) (es : List Entry) → Kept all_names history es → AllLawful history → (i : ℕ) (e : Entry) → IsAt es i e → length (story e) ≤ most_revisions
versions_few history es kept lawful i e at = versions_few_of history es kept lawful i e at refl
