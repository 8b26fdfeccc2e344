-- A record whose wanted revision is confirmed is settled.
use Rattle.std.proofs.Common.{◌≡◌, ◌≢◌, true, length, Some, inl, inr, ap, sym, ◌∙◌, subst}
use Rattle.scim_key.proofs.RevisionLaws.{irreflexive, none_before}
use Rattle.scim_key.specs.Revisions.{RevisionValue, no_revision, before, ◌≺◌}
use Rattle.scim_key.specs.declared.records.RecordName.{RecordName}
use Rattle.provider_core.proofs.TableLaws.{held_at}
use Rattle.source_csv.specs.Records.{row_revision}
use Rattle.mapping.specs.Images.{image}
use Rattle.connector_core.specs.History.{rows_of}
use Rattle.connector_core.specs.declared.keeps.Keeps.{Keeps}
use Rattle.connector_core.specs.declared.knowledge.Known.{Known}
use Rattle.world_model.specs.Safe.{Has, id_in}
use Rattle.world_model.specs.Settled.{IsSettledOf}
use Rattle.world_model.specs.World.{World}
use Rattle.world_model.proofs.Asked.{IsDone, if_done}
use Rattle.world_model.proofs.Keeping.{none_above_held_at}
use Rattle.world_model.specs.Invariant.{Names, HasVersion}
use Rattle.world_model.proofs.Phases.{SoundAt, is_last, its_law, its_ours}
use Rattle.world_model.proofs.Ranking.{lawful_revision}
use Rattle.world_model.proofs.Rows.{last_or_below}

module _ {keeps : Keeps} {ours : Names} (w : World) (q : SoundAt keeps ours w) (name : RecordName) (known : Known) (in_book : w.book name ≡ Some known) (done : IsDone known) where
  confirmed : known.confirmed ≡ row_revision known.wanted
  confirmed = if_done known done

  is_some : known.confirmed ≢ no_revision
  is_some none =
      let lawful = none_before (row_revision known.wanted) (lawful_revision known.wanted (its_law w q name known in_book)) in
      irreflexive no_revision (subst (λ (r : RevisionValue). no_revision ≺ r) (sym confirmed ∙ none) lawful)

  pub has_version : HasVersion w.entries name known.id known.confirmed
  has_version = (q.inv.noted name known in_book).confirmed is_some

  -- what the entry holds is the image of the last row
  its_image : image (id_in w.entries) known.wanted ≡ Some has_version.version.entry.held
  its_image =
      let v = has_version.version in
      let mine : ours v.entry.name ≡ true = ap ours v.of_record ∙ its_ours w q name known in_book in
      let is = q.inv.kept.imaged v.place (length v.entry.earlier) v.entry v.entry.held v.here mine (held_at v.entry) in
      let reached = none_above_held_at keeps v.entry (q.inv.kept.rises v.place v.entry v.here mine) v.turn v.content known.confirmed (row_revision is.row) v.held v.at_revision is.revision in
      let there : Has (rows_of w.history name) is.row = subst (λ (n : RecordName). Has (rows_of w.history n) is.row) v.of_record is.accepted in
      elim (last_or_below (rows_of w.history name) there.0 is.row known.wanted (q.inv.rising name) there.1 (is_last w q name known in_book)) [
        | inl same ↦ ap (image (id_in w.entries)) (sym same) ∙ is.image
        | inr below ↦ absurd (let up : before (row_revision is.row) known.confirmed ≡ true = subst (λ (r : RevisionValue). row_revision is.row ≺ r) (sym confirmed) below in cc)
      ]

  pub settled_of : IsSettledOf w name
  settled_of = record {
    known = known;
    entry = has_version.version.entry;
    in_book = in_book;
    wanted = is_last w q name known in_book;
    confirmed = confirmed;
    of_record = ((has_version.version.place, has_version.version.here), has_version.version.of_record);
    held = its_image;
  }
