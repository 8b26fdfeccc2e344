-- After every run the world is safe, and so it is among others.
use Rattle.std.proofs.Common.{◌≡◌, ◌≢◌, ◌↔◌, ℕ, true, List, length, Some, false, refl, ap, sym, ◌∙◌, subst}
use Rattle.std.proofs.lemmas.Bool.{false_from_ne_true}
use Rattle.std.specs.List.{slice_get}
use Rattle.scim_key.proofs.RevisionLaws.{none_first}
use Rattle.scim_key.specs.Revisions.{RevisionValue, no_revision, before, ◌≺◌, ◌≼◌}
use Rattle.scim_key.specs.declared.records.RecordName.{RecordName}
use Rattle.scim_resource.specs.declared.contents.Content.{Content}
use Rattle.provider_core.specs.Stories.{Entry}
use Rattle.provider_core.proofs.TableLaws.{held_at}
use Rattle.source_csv.specs.Records.{row_revision}
use Rattle.source_csv.specs.declared.rows.Row.{Row}
use Rattle.source_csv.specs.declared.rows.Row.TheVariants.{User, Group}
use Rattle.connector_core.specs.History.{rows_of}
use Rattle.connector_core.specs.declared.keeps.Keeps.{Keeps}
use Rattle.connector_core.specs.declared.keeps.Keeps.TheVariants.{Revisions, Versions}
use Rattle.connector_core.specs.Learning.{content_revision}
use Rattle.connector_core.specs.declared.knowledge.Known.{Known}
use Rattle.connector_core.specs.declared.knowledge.Seen.{Seen}
use Rattle.connector_core.specs.declared.knowledge.Seen.TheVariants.{Unknown, Absent, At}
use Rattle.world_model.specs.World.{World, empty, run}
use Rattle.world_model.specs.Safe.{Has, id_in, IsEntryOf, HasReached, IsImage, is_leaver, is_inactive, HasLeftSince, IsVersion, SeenTruly, IsReached, KnownTruly, Safe, AlwaysSafe}
use Rattle.world_model.specs.Providers.{IsVersionAt, SeenTrulyAt, KnownTrulyAt, SafeAt, AlwaysSafeAt, WithRevisions, run_at}
use Rattle.world_model.proofs.Imaging.{image_with, of_image}
use Rattle.world_model.proofs.Keeping.{held_revision, none_above_held_at}
use Rattle.world_model.specs.Invariant.{Names, InvariantAt, InvariantOf, HasVersion, InSightAt, NotedAt}
use Rattle.world_model.specs.Others.{run_among, SafeAmong, AlwaysSafeAmong}
use Rattle.world_model.proofs.Hearing.{same_event, same_run}
use Rattle.world_model.proofs.Invariant.{always_inv, always_inv_at, always_inv_among}
use Rattle.world_model.proofs.Lists.{last_has}
use Rattle.world_model.proofs.Ranking.{row_there}
use Rattle.world_model.proofs.Sending.{row_of_record, wanted_of}

-- ---- what is known about a record

version_in_sight : (keeps : Keeps) (es : List Entry) (name : RecordName) (known : Known) (id tag : List ℕ) (r : RevisionValue) → InSightAt keeps es name known id tag r → IsVersionAt keeps es name id tag r
version_in_sight Revisions es name known id tag r sight = sight.version
version_in_sight Versions es name known id tag r sight = (sight.held, sight.version, sight.from)

seen_truly : (keeps : Keeps) (es : List Entry) (name : RecordName) (known : Known) (seen : Seen) → ((id tag : List ℕ) (r : RevisionValue) → seen ≡ At id tag r → InSightAt keeps es name known id tag r)
    → SeenTrulyAt keeps es name seen
seen_truly keeps es name known Unknown sight = tt
seen_truly keeps es name known Absent sight = tt
seen_truly keeps es name known (At id tag r) sight = version_in_sight keeps es name known id tag r (sight id tag r refl)

module _ {keeps : Keeps} {ours : Names} (w : World) (inv : InvariantAt keeps ours w) where
  -- every record of the book is ours
  pub in_book_ours : (name : RecordName) (known : Known) → w.book name ≡ Some known → ours name ≡ true
  in_book_ours name known in_book =
      let has = last_has (rows_of w.history name) known.wanted (sym (inv.follows name) ∙ wanted_of (w.book name) known in_book) in
      ap ours (sym (row_of_record w.history name known.wanted has)) ∙ inv.mine known.wanted (row_there w.history name known.wanted has)

  -- the entry of ours that has a version of a revision holds that revision or a later one
  pub version_reached : (name : RecordName) (id tag : List ℕ) (r : RevisionValue) → ours name ≡ true → (v : IsVersion w.entries name id tag r) → HasReached r v.entry.held
  version_reached name id tag r its v =
      let mine : ours v.entry.name ≡ true = ap ours v.of_record ∙ its in
      let (held, has_held) = held_revision w.history w.entries inv.kept v.place v.entry v.here mine in
      (held, has_held, none_above_held_at keeps v.entry (inv.kept.rises v.place v.entry v.here mine) v.turn v.content r held v.held v.at_revision has_held)

  is_reached : (name : RecordName) (known : Known) → ours name ≡ true → NotedAt keeps w.entries name known → HasVersion w.entries name known.id known.confirmed
      → IsReached w.entries name known.id known.confirmed
  is_reached name known its n has =
      let v = has.version in
      record {
        entry = v.entry;
        of_record = ((v.place, v.here), v.of_record);
        has_id = has.known ∙ sym (n.id has.id has.known);
        reached = version_reached name has.id has.tag known.confirmed its v;
      }

  pub known_truly : (name : RecordName) (known : Known) → w.book name ≡ Some known → KnownTrulyAt keeps w.entries name known
  known_truly name known in_book =
      let n = inv.noted name known in_book in
      record {
        id = n.id;
        confirmed = λ some. is_reached name known (in_book_ours name known in_book) n (n.confirmed some);
        within = n.within;
        seen = seen_truly keeps w.entries name known known.seen n.seen;
      }

-- ---- leavers

leaver_image : (ids : List (List ℕ)) (row : Row) → is_leaver row ≡ true → is_inactive (image_with ids row) ≡ true
leaver_image ids (User row) left = left
leaver_image ids (Group row) left = absurd (cc)

abbrev IsNone : RevisionValue → Type 0
IsNone r = r ≡ no_revision

module _ {keeps : Keeps} {ours : Names} (w : World) (inv : InvariantAt keeps ours w) (name : RecordName) (known : Known) (in_book : w.book name ≡ Some known) (e : Entry) (of_record : IsEntryOf w.entries name e) where
  its_mine : ours name ≡ true
  its_mine = in_book_ours w inv name known in_book

  -- the row that the held content is the image of
  held_image : IsImage w.history w.entries e.name e.held
  held_image = inv.kept.imaged of_record.0.0 (length e.earlier) e e.held of_record.0.1 (ap ours of_record.1 ∙ its_mine) (held_at e)

  -- it is of the confirmed revision or of a later one
  held_reached : known.confirmed ≼ row_revision held_image.row
  held_reached = false_from_ne_true _ (λ below.
      let some : known.confirmed ≢ no_revision = λ none. absurd (cc (none_first (row_revision held_image.row), subst (λ (r : RevisionValue). row_revision held_image.row ≺ r) none below)) in
      let has = (inv.noted name known in_book).confirmed some in
      let v = has.version in
      let place : v.place ≡ of_record.0.0 = inv.kept.whole.distinct v.place of_record.0.0 v.entry e v.here of_record.0.1 (v.of_record ∙ sym of_record.1) in
      let same : Some v.entry ≡ Some e = sym v.here ∙ ap (slice_get w.entries) place ∙ of_record.0.1 in
      let entry : v.entry ≡ e = cc in
      let reached = version_reached w inv name has.id has.tag known.confirmed its_mine v in
      let revisions : Some (row_revision held_image.row) ≡ Some reached.0 = sym held_image.revision ∙ ap (λ x. content_revision x.held) (sym entry) ∙ reached.1 in
      let equal : row_revision held_image.row ≡ reached.0 = cc in
      let up : before reached.0 known.confirmed ≡ false = reached.2 in
      let down : before reached.0 known.confirmed ≡ true = subst (λ (r : RevisionValue). r ≺ known.confirmed) equal below in
      absurd (cc))

  pub inactive : HasLeftSince w.history name known.confirmed → is_inactive e.held ≡ true
  inactive left =
      let row = held_image.row in
      let (ids, same, _) = of_image (id_in w.entries) row e.held held_image.image in
      let accepted : Has (rows_of w.history name) row = subst (λ (n : RecordName). Has (rows_of w.history n) row) of_record.1 held_image.accepted in
      subst (λ (c : Content). is_inactive c ≡ true) same (leaver_image ids row (left row accepted held_reached))

-- ---- safe

-- where revisions are shown, a tag in sight is that of a version of the noted revision
seen_same : (es : List Entry) (name : RecordName) (seen : Seen) → SeenTrulyAt Revisions es name seen ↔ SeenTruly es name seen
seen_same es name Unknown = (λ truly. truly, λ truly. truly)
seen_same es name Absent = (λ truly. truly, λ truly. truly)
seen_same es name (At id tag r) = (λ truly. truly, λ truly. truly)

known_of : (es : List Entry) (name : RecordName) (known : Known) → KnownTrulyAt Revisions es name known → KnownTruly es name known
known_of es name known k = record { id = k.id; confirmed = k.confirmed; within = k.within; seen = (seen_same es name known.seen).0 k.seen }

known_for : (es : List Entry) (name : RecordName) (known : Known) → KnownTruly es name known → KnownTrulyAt Revisions es name known
known_for es name known k = record { id = k.id; confirmed = k.confirmed; within = k.within; seen = (seen_same es name known.seen).1 k.seen }

safe_now : {ours : Names} (w : World) → InvariantOf ours w → SafeAmong ours w
safe_now w inv = record {
  rows_rise = inv.rising;
  one_each = inv.kept.whole.distinct;
  stories_rise = λ e has mine. inv.kept.rises has.0 e has.1 mine;
  images = λ e content has mine in_story. inv.kept.imaged has.0 in_story.0 e content has.1 mine in_story.1;
  wanted = inv.follows;
  known = λ name known in_book. known_of w.entries name known (known_truly w inv name known in_book);
  leavers = λ name known e of_kind in_book of_record left. inactive w inv name known in_book e of_record left;
}

pub always_safe_among : AlwaysSafeAmong
always_safe_among ours all apart = safe_now (run_among empty all) (always_inv_among ours all apart)

pub always_safe : AlwaysSafe
always_safe events =
    let safe = safe_now (run empty events) (always_inv events) in
    record {
      rows_rise = safe.rows_rise;
      one_each = safe.one_each;
      stories_rise = λ e has. safe.stories_rise e has refl;
      images = λ e content has in_story. safe.images e content has refl in_story;
      wanted = safe.wanted;
      known = safe.known;
      leavers = safe.leavers;
    }

-- ---- with each kind of provider

pub always_safe_at : AlwaysSafeAt
always_safe_at keeps events =
    let w = run_at keeps empty events in
    let inv = always_inv_at keeps events in
    record {
      rows_rise = inv.rising;
      one_each = inv.kept.whole.distinct;
      stories_rise = λ e has. inv.kept.rises has.0 e has.1 refl;
      images = λ e content has in_story. inv.kept.imaged has.0 in_story.0 e content has.1 refl in_story.1;
      wanted = inv.follows;
      known = known_truly w inv;
      leavers = λ name known e of_kind in_book of_record left. inactive w inv name known in_book e of_record left;
    }

safe_of : (w : World) → SafeAt Revisions w → Safe w
safe_of w safe = record {
  rows_rise = safe.rows_rise;
  one_each = safe.one_each;
  stories_rise = safe.stories_rise;
  images = safe.images;
  wanted = safe.wanted;
  known = λ name known in_book. known_of w.entries name known (safe.known name known in_book);
  leavers = safe.leavers;
}

safe_for : (w : World) → Safe w → SafeAt Revisions w
safe_for w safe = record {
  rows_rise = safe.rows_rise;
  one_each = safe.one_each;
  stories_rise = safe.stories_rise;
  images = safe.images;
  wanted = safe.wanted;
  known = λ name known in_book. known_for w.entries name known (safe.known name known in_book);
  leavers = safe.leavers;
}

pub with_revisions : WithRevisions
with_revisions = record { event = same_event; runs = same_run; safe = λ w. (safe_of w, safe_for w) }
