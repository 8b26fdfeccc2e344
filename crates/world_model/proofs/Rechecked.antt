-- In runs in which others leave our records alone, everything may be healed at each moment.
use Rattle.std.proofs.Common.{◌≡◌, true, length, Some, ap, sym, ◌∙◌, subst}
use Rattle.std.specs.Option.{option_map}
use Rattle.scim_key.specs.Revisions.{RevisionValue, ◌≼◌}
use Rattle.scim_key.specs.declared.records.RecordName.{RecordName}
use Rattle.provider_core.specs.Stories.{Entry, story}
use Rattle.provider_core.proofs.TableLaws.{held_at}
use Rattle.source_csv.specs.Records.{row_revision}
use Rattle.connector_core.specs.History.{last_row, rows_of}
use Rattle.connector_core.specs.Learning.{or_no_revision, shown_revision}
use Rattle.connector_core.specs.declared.knowledge.Known.{Known}
use Rattle.world_model.specs.Healing.{Healable, HealableOf, HealsInRuns}
use Rattle.world_model.specs.Invariant.{Names}
use Rattle.world_model.specs.Others.{run_among}
use Rattle.world_model.specs.Safe.{Has, IsEntryOf}
use Rattle.world_model.specs.World.{World, empty, names}
use Rattle.world_model.proofs.Answering.{below_last}
use Rattle.world_model.proofs.Calm.{CalmAmong, calm_among, name_known}
use Rattle.world_model.proofs.Healed.{heals_among}
use Rattle.world_model.proofs.Learning.{each_up_to}
use Rattle.world_model.proofs.Ranking.{versions_few_of}
use Rattle.world_model.proofs.Safety.{in_book_ours}

module _ {ours : Names} (w : World) (c : CalmAmong ours w) where
  calm_healable : Healable w
  calm_healable = record {
    in_order = record {
      follows = c.quiet.inv.follows;
      within = λ name known in_book. (c.quiet.inv.noted name known in_book).within;
      lawful = λ row has. c.quiet.lawful has.0 row has.1;
      members = c.members;
      whole = c.quiet.inv.kept.whole;
    };
    room = c.room;
  }

  -- what the resource of a record holds is the image of one of its rows
  not_above : (name : RecordName) (e : Entry) (known : Known) → IsEntryOf w.entries name e → w.book name ≡ Some known → shown_revision e.held ≼ row_revision known.wanted
  not_above name e known has in_book =
      let mine : ours e.name ≡ true = ap ours has.1 ∙ in_book_ours w c.quiet.inv name known in_book in
      let image = c.quiet.inv.kept.imaged has.0.0 (length e.earlier) e e.held has.0.1 mine (held_at e) in
      let accepted : Has (rows_of w.history name) image.row = subst (λ (n : RecordName). Has (rows_of w.history n) image.row) has.1 image.accepted in
      let last : last_row w.history name ≡ Some known.wanted = sym (c.quiet.inv.follows name) ∙ ap (option_map (λ (k : Known). k.wanted)) in_book in
      let up = each_up_to (rows_of w.history name) accepted.0 image.row known.wanted (c.quiet.inv.rising name) accepted.1 last in
      subst (λ (r : RevisionValue). r ≼ row_revision known.wanted) (sym (ap or_no_revision image.revision)) up

  calm_of : (name : RecordName) → Has (names w) name → HealableOf w name
  calm_of name has = record {
    not_above = not_above name;
    short = λ e its.
        let (known, in_book) = name_known w c name has in
        let mine : ours e.name ≡ true = ap ours its.1 ∙ in_book_ours w c.quiet.inv name known in_book in
        below_last (length (story e)) (versions_few_of w.history w.entries c.quiet.inv.kept c.quiet.lawful its.0.0 e its.0.1 mine);
  }

pub heals_in_runs : HealsInRuns
heals_in_runs ours acts theirs apart law room leave =
    let w = run_among empty acts in
    let c = calm_among ours acts apart law room in
    heals_among ours theirs w leave c.quiet.inv.mine (calm_healable w c) (calm_of w c)
