-- The headline: what the provider holds at each moment, and what it holds later, among others too.
use Rattle.std.proofs.Common.{◌≡◌, ◌≢◌, ℕ, zero, suc, ◌+◌, true, List, [], ◌∷◌, ◌++◌, length, Some, refl, ap, sym, ◌∙◌, subst, arith}
use Rattle.scim_key.specs.Identifiers.{id_text}
use Rattle.scim_key.specs.Revisions.{no_revision}
use Rattle.scim_key.specs.declared.records.RecordName.{RecordName}
use Rattle.scim_resource.specs.Contents.{content_name}
use Rattle.scim_resource.specs.Rows.{StoredRecord}
use Rattle.scim_resource.specs.declared.contents.Content.{Content}
use Rattle.provider_core.specs.Stories.{Entry, story, row_of, rows_from, AllGoOn}
use Rattle.provider_core.proofs.TableLaws.{at_more, held_at, go_on_at}
use Rattle.connector_core.specs.declared.keeps.Keeps.{Keeps}
use Rattle.connector_core.specs.Learning.{content_revision}
use Rattle.connector_core.specs.declared.knowledge.Known.{Known}
use Rattle.world_model.specs.World.{World, empty, run}
use Rattle.world_model.specs.Safe.{IsAt, Has, rows, HasReached, IsImage, IsLater, Headline, HeadlineHolds}
use Rattle.world_model.specs.Providers.{HeadlineHoldsAt, run_at}
use Rattle.world_model.proofs.Onwards.{always_onward, always_onward_at, always_onward_among, onward_among_at}
use Rattle.world_model.proofs.Keeping.{held_revision, none_above_held_at}
use Rattle.world_model.proofs.Safety.{in_book_ours, version_reached}
use Rattle.world_model.proofs.Invariant.{always_inv, always_inv_at, always_inv_among, always_inv_among_at}
use Rattle.world_model.specs.Invariant.{Names, all_names, InvariantAt}
use Rattle.world_model.specs.Others.{Act, run_among, run_among_at, Holds, KeepsApart, HeadlineAmong, HeadlineHoldsAmong, HeadlineHoldsAmongAt}

-- ---- rows and entries

-- the entry that a row is of
pub record IsRowOf (es : List Entry) (i number : ℕ) (s : StoredRecord) : Type 0 where
  pub entry : Entry
  pub here : IsAt es i entry
  pub numbered : s.number ≡ number
  pub held : entry.held ≡ s.content

pub row_at : (m : ℕ) (es : List Entry) (i : ℕ) (s : StoredRecord) → IsAt (rows_from m es) i s → IsRowOf es i (m + i) s
row_at m [] i s at = absurd (cc)
row_at m (e ∷ es) zero s at =
    let same : row_of m e ≡ s = cc in
    record { entry = e; here = refl; numbered = omega (arith, ap (λ x. x.number) same); held = ap (λ x. x.content) same }
row_at m (e ∷ es) (suc i) s at =
    let r = row_at (suc m) es i s at in
    record { entry = r.entry; here = r.here; numbered = omega (arith, r.numbered); held = r.held }

row_eq : (m k : ℕ) (d e : Entry) → m ≡ k → d ≡ e → Some (row_of m d) ≡ Some (row_of k e)
row_eq m k d e number entry = rw (number, entry) refl

pub row_here : (m k : ℕ) (es : List Entry) (i : ℕ) (e : Entry) → k ≡ m + i → IsAt es i e → IsAt (rows_from m es) i (row_of k e)
row_here m k [] i e number at = absurd (cc)
row_here m k (d ∷ es) zero e number at = row_eq m k d e (omega (arith, number)) (cc)
row_here m k (d ∷ es) (suc i) e number at = row_here (suc m) k es i e (omega (arith, number)) at

-- ---- at one moment

module _ {keeps : Keeps} {ours : Names} (w : World) (inv : InvariantAt keeps ours w) where
  held_named : (i : ℕ) (e : Entry) → IsAt w.entries i e → content_name e.held ≡ e.name
  held_named i e at = inv.kept.whole.named i (length e.earlier) e e.held at (held_at e)

  row_of_entry : (s : StoredRecord) (has : Has (rows w) s) → IsRowOf w.entries has.0 (suc has.0) s
  row_of_entry s has =
      let r = row_at 1 w.entries has.0 s has.1 in
      record { entry = r.entry; here = r.here; numbered = omega (arith, r.numbered); held = r.held }

  its_name : (s : StoredRecord) (has : Has (rows w) s) (r : IsRowOf w.entries has.0 (suc has.0) s) → content_name s.content ≡ r.entry.name
  its_name s has r = ap content_name (sym r.held) ∙ held_named has.0 r.entry r.here

  one_per_name : (s t : StoredRecord) → Has (rows w) s → Has (rows w) t → content_name s.content ≡ content_name t.content → s.number ≡ t.number
  one_per_name s t has_s has_t same =
      let r = row_of_entry s has_s in
      let q = row_of_entry t has_t in
      let place : has_s.0 ≡ has_t.0 =
      inv.kept.whole.distinct has_s.0 has_t.0 r.entry q.entry r.here q.here (sym (its_name s has_s r) ∙ same ∙ its_name t has_t q) in
      r.numbered ∙ ap suc place ∙ sym q.numbered

  row_ours : (s : StoredRecord) (holds : Holds ours w s) (r : IsRowOf w.entries holds.0.0 (suc holds.0.0) s) → ours r.entry.name ≡ true
  row_ours s holds r = ap ours (sym (its_name s holds.0 r)) ∙ holds.1

  its_image : (s : StoredRecord) → Holds ours w s → IsImage w.history w.entries (content_name s.content) s.content
  its_image s holds =
      let has = holds.0 in
      let r = row_of_entry s has in
      let e = r.entry in
      let image = inv.kept.imaged has.0 (length e.earlier) e e.held r.here (row_ours s holds r) (held_at e) in
      subst (λ (c : Content). IsImage w.history w.entries (content_name c) c) r.held
      (subst (λ (n : RecordName). IsImage w.history w.entries n e.held) (sym (held_named has.0 e r.here)) image)

  reached : (name : RecordName) (known : Known) → w.book name ≡ Some known → known.confirmed ≢ no_revision → (s : StoredRecord) × Has (rows w) s × (content_name s.content ≡ name)
      × (known.id ≡ Some (id_text s.number)) × HasReached known.confirmed s.content
  reached name known in_book some =
      let has = (inv.noted name known in_book).confirmed some in
      let v = has.version in (
        row_of (suc v.place) v.entry,
        (v.place, row_here 1 (suc v.place) w.entries v.place v.entry (omega arith) v.here),
        held_named v.place v.entry v.here ∙ v.of_record,
        has.known ∙ ap Some v.has_id,
        version_reached w inv name has.id has.tag known.confirmed (in_book_ours w inv name known in_book) v,
      )

-- ---- and later

never_back : {keeps : Keeps} {ours : Names} (w v : World) (inv_w : InvariantAt keeps ours w) (inv_v : InvariantAt keeps ours v) → AllGoOn w.entries v.entries → (s : StoredRecord) → Holds ours w s
    → (t : StoredRecord) × Has (rows v) t × IsLater s t
never_back {keeps} {ours} w v inv_w inv_v all s holds =
    let has = holds.0 in
    let r = row_of_entry w inv_w s has in
    let e = r.entry in
    let (f, at, goes) = go_on_at w.entries v.entries has.0 e all r.here in
    let mine = row_ours w inv_w s holds r in
    let still : ours f.name ≡ true = ap ours goes.name ∙ mine in
    let (earlier, has_earlier) = held_revision w.history w.entries inv_w.kept has.0 e r.here mine in
    let (held, has_held) = held_revision v.history v.entries inv_v.kept has.0 f at still in
    let in_story : IsAt (story f) (length e.earlier) e.held =
    subst (λ (contents : List Content). IsAt contents (length e.earlier) e.held) (sym goes.story) (at_more (story e) goes.more (length e.earlier) e.held (held_at e)) in
    let up = none_above_held_at keeps f (inv_v.kept.rises has.0 f at still) (length e.earlier) e.held earlier held in_story has_earlier has_held in
    let later : IsLater s (row_of (suc has.0) f) = record {
      number = sym r.numbered;
      name = held_named v inv_v has.0 f at ∙ goes.name ∙ sym (its_name w inv_w s has r);
      earlier = earlier;
      at_revision = subst (λ (c : Content). content_revision c ≡ Some earlier) r.held has_earlier;
      reached = (held, has_held, up);
    } in
    (row_of (suc has.0) f, (has.0, row_here 1 (suc has.0) v.entries has.0 f (omega arith) at), later)

pub headline_now : {keeps : Keeps} {ours : Names} (w v : World) → InvariantAt keeps ours w → InvariantAt keeps ours v → AllGoOn w.entries v.entries → HeadlineAmong ours w v
headline_now w v inv_w inv_v all = record {
  one_per_name = one_per_name w inv_w;
  its_image = its_image w inv_w;
  never_back = never_back w v inv_w inv_v all;
  reached = reached w inv_w;
}

-- what an early part does, others leave alone too
pub apart_early : (ours : Names) (early late : List Act) → KeepsApart ours (early ++ late) → KeepsApart ours early
apart_early ours [] late apart = tt
apart_early ours (act ∷ early) late apart = (apart.0, apart_early ours early late apart.1)

pub headline_holds_among : HeadlineHoldsAmong
headline_holds_among ours early late apart =
    headline_now (run_among empty early) (run_among empty (early ++ late)) (always_inv_among ours early (apart_early ours early late apart))
    (always_inv_among ours (early ++ late) apart) (always_onward_among early late).stories

pub headline_of : {keeps : Keeps} (w v : World) → InvariantAt keeps all_names w → InvariantAt keeps all_names v → AllGoOn w.entries v.entries → Headline w v
headline_of w v inv_w inv_v all =
    let among = headline_now w v inv_w inv_v all in
    record {
      one_per_name = among.one_per_name;
      its_image = λ s has. among.its_image s (has, refl);
      never_back = λ s has. among.never_back s (has, refl);
      reached = among.reached;
    }

pub headline_holds : HeadlineHolds
headline_holds early late =
    headline_of (run empty early) (run empty (early ++ late)) (always_inv early) (always_inv (early ++ late)) (always_onward early late).stories

pub headline_holds_at : HeadlineHoldsAt
headline_holds_at keeps early late =
    headline_of (run_at keeps empty early) (run_at keeps empty (early ++ late)) (always_inv_at keeps early) (always_inv_at keeps (early ++ late)) (always_onward_at keeps early late).stories

pub headline_holds_among_at : HeadlineHoldsAmongAt
headline_holds_among_at keeps ours early late apart =
    headline_now (run_among_at keeps empty early) (run_among_at keeps empty (early ++ late)) (always_inv_among_at keeps ours early (apart_early ours early late apart))
    (always_inv_among_at keeps ours (early ++ late) apart) (onward_among_at keeps early late).stories
