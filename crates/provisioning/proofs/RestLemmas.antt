-- Nothing is asked for only of a record whose wanted revision is confirmed.
use Rattle.std.proofs.Common.{◌≡◌, ℕ, Bool, true, false, not, List, Option, Some, None, inl, inr, refl, sym, ◌∙◌}
use Rattle.std.proofs.lemmas.Bool.{and_parts, cases_Bool}
use Rattle.std.specs.Option.{option_map}
use Rattle.scim_key.proofs.RevisionLaws.{same as same_revisions}
use Rattle.scim_key.specs.Revisions.{RevisionValue, same_revision}
use Rattle.scim_key.specs.declared.records.RecordName.{RecordName}
use Rattle.source_csv.specs.Rows.{GroupFields}
use Rattle.source_csv.specs.Records.{row_revision}
use Rattle.source_csv.specs.declared.rows.Row.{Row}
use Rattle.source_csv.specs.declared.rows.Row.TheVariants.{User, Group}
use Rattle.mapping.specs.Ready.{ready}
use Rattle.mapping.specs.declared.ids.Ready.{Ready}
use Rattle.mapping.specs.declared.ids.Ready.TheVariants as readiness
use Rattle.mapping.specs.Images.{image_by, imaged}
use Rattle.connector_core.specs.Asking.{asking, asking_of, asking_with, is_done, is_done_at, is_done_if}
use Rattle.connector_core.specs.Book.{Book, confirmed_if, confirmed_of, known_id, wanted_if, wanted_of}
use Rattle.connector_core.specs.declared.asking.Ask.TheVariants.{Nothing}
use Rattle.connector_core.specs.declared.knowledge.Known.{Known}
use Rattle.provisioning.specs.Records.{Stands, most_exchanges}
use Rattle.provisioning.specs.declared.faults.RecordFault.{RecordFault}
use Rattle.provisioning.specs.declared.records.Standing.TheVariants.{Confirmed, Unconfirmed}

group_asks : (r : Ready) (row : GroupFields) (known : Known) → asking_with (image_by r row) known ≡ Nothing → ⊥
group_asks (readiness.Ids ids) row known is = cc
group_asks (readiness.Waits place) row known is = cc

asks : (ids : RecordName → Option (List ℕ)) (row : Row) (known : Known) → asking_with (imaged ids row) known ≡ Nothing → ⊥
asks ids (User row) known is = cc
asks ids (Group row) known is = group_asks (ready ids row.members) row known is

resting : (book : Book) (here : Option Known) → option_map (asking_of book) here ≡ Some Nothing → confirmed_if here ≡ wanted_if here
resting book None is = absurd (cc)
resting book (Some known) is = elim (cases_Bool (is_done known)) [
  | inl done ↦ (same_revisions known.confirmed (row_revision known.wanted)).0
      (and_parts (not known.is_doubted) (same_revision known.confirmed (row_revision known.wanted)) done).1
  | inr not ↦ (let said : Some (asking_with (imaged (known_id book) known.wanted) known) ≡ Some Nothing = rw not at is in absurd (asks (known_id book) known.wanted known (cc)))
]

pub confirmed_at_rest : (book : Book) (name : RecordName) → asking book name ≡ Some Nothing → confirmed_of book name ≡ wanted_of book name
confirmed_at_rest book name is = resting book (book name) is

rests_if : (book : Book) (here : Option Known) → is_done_if here ≡ true → option_map (asking_of book) here ≡ Some Nothing
rests_if book None done = absurd (cc)
rests_if book (Some known) done = rw done refl

-- ---- after all exchanges of a record, by whether it is done

pub confirmed_stands : (is_versioned : Bool) (book : Book) (name : RecordName) (count : ℕ) (last : Option RecordFault) (revision : RevisionValue) → revision ≡ confirmed_of book name
    → is_done_at book name ≡ true → Stands is_versioned book name count last (Confirmed revision)
confirmed_stands is_versioned book name count last revision is done =
    let rests : asking book name ≡ Some Nothing = rests_if book (book name) done in
    inl (rests, is, is ∙ confirmed_at_rest book name rests)

pub spent_stands : (is_versioned : Bool) (book : Book) (name : RecordName) (last : Option RecordFault) → is_done_at book name ≡ false → Stands is_versioned book name most_exchanges last (Unconfirmed last)
spent_stands is_versioned book name last undone = inr (record { at_end = inl refl; unconfirmed = undone; last_is = refl })
