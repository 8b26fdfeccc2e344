-- The promise from any start, and from the empty one, through acts and resets.
use Rattle.std.proofs.Common.{◌≡◌, ◌≢◌, ℕ, suc, Bool, true, false, List, [], ◌∷◌, ◌++◌, length, Option, Some, None, Result, Ok, Err, inl, inr, refl, ap, sym, ◌∙◌, subst, arith}
use Rattle.std.specs.List.{AllByRecursion}
use Rattle.std.specs.Option.{option_map}
use Rattle.scim_key.proofs.RevisionLaws.{none_first}
use Rattle.scim_key.specs.Identifiers.{id_text}
use Rattle.scim_key.specs.Revisions.{RevisionValue, no_revision, ◌≼◌}
use Rattle.scim_key.specs.declared.records.RecordName.{RecordName}
use Rattle.scim_resource.specs.Contents.{content_name}
use Rattle.scim_resource.specs.Rows.{StoredRecord}
use Rattle.scim_resource.specs.declared.contents.Content.{Content}
use Rattle.provider_core.specs.Stories.{Entry, story as contents_of, row_of}
use Rattle.provider_core.specs.Tables.{IsWholeTable}
use Rattle.provider_core.proofs.TableLaws.{at_push, held_at}
use Rattle.source_csv.specs.Records.{row_name, row_revision}
use Rattle.source_csv.specs.declared.rows.Row.{Row}
use Rattle.connector_core.specs.Book.{undoubted}
use Rattle.connector_core.specs.History.{rows_of}
use Rattle.connector_core.specs.Asking.{asking}
use Rattle.connector_core.specs.Learning.{content_revision, or_no_revision, shown_revision}
use Rattle.connector_core.specs.declared.accepting.Verdict.{Verdict}
use Rattle.connector_core.specs.declared.accepting.Verdict.TheVariants as verdicts
use Rattle.connector_core.specs.declared.asking.Ask.{Ask}
use Rattle.connector_core.specs.declared.asking.Ask.TheVariants.{Nothing, Waits, Send}
use Rattle.connector_core.specs.declared.changing.ChangeFault.{ChangeFault}
use Rattle.connector_core.specs.declared.knowledge.Known.{Known}
use Rattle.world_model.specs.Healing.{IsInOrder, IsStart}
use Rattle.world_model.specs.Invariant.{Names, all_names, AllOurs}
use Rattle.world_model.specs.Others.{Ours, Theirs, acts, OfOurs, Holds, HeadlineAmong}
use Rattle.world_model.specs.Resetting.{unlearnt, opened_after, Happening, Does, Forgets, undergoes, run_through, StaysApart, StayApart, IsLawfulHappening, IsOwn, HeadlineFrom, HeadlineFromAnyStart, HeadlineThroughResets, HeadlineAlone, PromisedThroughResets, HealsAfterResets, WithoutResets}
use Rattle.world_model.specs.Safe.{IsAt, Has, rows, HasReached, IsImage, IsLater}
use Rattle.world_model.specs.World.{World, Message, Asked, Answered, Event, Changes, Sends, Delivers, Cuts, Restarts_provider, Restarts_connector, Doubts, changes, sends, delivers, message_at, happens, empty, judged}
use Rattle.world_model.proofs.Durable.{Durable, start_durable}
use Rattle.world_model.proofs.Faring.{AllShort, FaresOn}
use Rattle.world_model.proofs.Growing.{id_at}
use Rattle.world_model.proofs.Headlines.{IsRowOf, row_at, row_here}
use Rattle.world_model.proofs.Healed.{heals}
use Rattle.world_model.proofs.InOrder.{act_in_order, empty_is_start}
use Rattle.world_model.proofs.Invariant.{all_of_ours}
use Rattle.world_model.proofs.Lasting.{healed_holds, like_grows, like_image}
use Rattle.world_model.proofs.Lists.{last_has}
use Rattle.world_model.proofs.Ranking.{record_ours}
use Rattle.world_model.proofs.Resetting.{AllBelow, reset_wants, through_durable, through_fares, through_counts}
use Rattle.world_model.proofs.Sending.{wanted_of}

-- ---- stories

pub through-append : (w : World) (early late : List Happening) → run_through w (early ++ late) ≡ run_through (run_through w early) late
through-append w [] late = refl
through-append w (happening ∷ early) late = through-append (undergoes w happening) early late

pub apart_early : (ours : Names) (early late : List Happening) → StayApart ours (early ++ late) → StayApart ours early
apart_early ours [] late apart = tt
apart_early ours (happening ∷ early) late apart = (apart.0, apart_early ours early late apart.1)

pub apart_late : (ours : Names) (early late : List Happening) → StayApart ours (early ++ late) → StayApart ours late
apart_late ours [] late apart = apart
apart_late ours (happening ∷ early) late apart = apart_late ours early late apart.1

pub without_resets : WithoutResets
without_resets w [] = refl
without_resets w (act ∷ later) = without_resets (acts w act) later

-- ---- from any start

start_below : (ours : Names) (start : World) → IsStart start → AllBelow ours start
start_below ours start is i q a at = absurd (none_there (subst (λ (all : List Message). IsAt all i (Answered q a)) is.unsent at))
  where
    none_there : IsAt [] i (Answered q a) → ⊥
    none_there there = cc

pub headline_from_any_start : HeadlineFromAnyStart
headline_from_any_start ours start early late is apart =
    let w = run_through start early in
    let t = start_durable start is in
    let first = apart_early ours early late apart in
    let then = through_fares ours w late (apart_late ours early late apart) (through_durable start early t) in
    subst (λ (v : World). HeadlineFrom ours start early w v) (sym (through-append start early late)) (record {
      one_each = (through_durable start early t).whole.distinct;
      images = (through_fares ours start early first t).images;
      never_back = then.never_back;
      reached = λ name mine since. through_counts ours start early name mine first t (start_below ours start is) since;
    })

-- ---- from the empty start

changes_ours : (ours : Names) (w : World) (row : Row) (v : Result Verdict ChangeFault) → ours (row_name row) ≡ true → AllOurs ours w.history → AllOurs ours (changes w row v).history
changes_ours ours w row (Ok verdicts.New) its mine = λ r has. elim (at_push w.history row has.0 r has.1) [
  | inl old ↦ mine r (has.0, old)
  | inr new ↦ subst (λ (x : Row). ours (row_name x) ≡ true) new.1 its
]
changes_ours ours w row (Ok verdicts.Known) its mine = mine
changes_ours ours w row (Ok verdicts.Older) its mine = mine
changes_ours ours w row (Err fault) its mine = mine

sends_ours : (ours : Names) (w : World) (o : Option Ask) → AllOurs ours w.history → AllOurs ours (sends w o).history
sends_ours ours w None mine = mine
sends_ours ours w (Some Nothing) mine = mine
sends_ours ours w (Some (Waits member)) mine = mine
sends_ours ours w (Some (Send request)) mine = mine

delivers_ours : (ours : Names) (w : World) (o : Option Message) → AllOurs ours w.history → AllOurs ours (delivers w o).history
delivers_ours ours w None mine = mine
delivers_ours ours w (Some (Asked request)) mine = mine
delivers_ours ours w (Some (Answered request answer)) mine = mine

event_ours : (ours : Names) (w : World) (event : Event) → OfOurs ours event → AllOurs ours w.history → AllOurs ours (happens w event).history
event_ours ours w (Changes row) its mine = changes_ours ours w row (judged w row) its mine
event_ours ours w (Sends name) its mine = sends_ours ours w (asking w.book name) mine
event_ours ours w (Delivers number) its mine = delivers_ours ours w (message_at w.messages number) mine
event_ours ours w (Cuts number length) its mine = mine
event_ours ours w Restarts_provider its mine = mine
event_ours ours w Restarts_connector its mine = mine
event_ours ours w (Doubts name) its mine = mine

undergoes_ours : (ours : Names) (w : World) (happening : Happening) → StaysApart ours happening → AllOurs ours w.history → AllOurs ours (undergoes w happening).history
undergoes_ours ours w (Does (Ours event)) its mine = event_ours ours w event its mine
undergoes_ours ours w (Does (Theirs request)) its mine = mine
undergoes_ours ours w (Forgets these) its mine = mine

pub through_ours : (ours : Names) (w : World) (story : List Happening) → StayApart ours story → AllOurs ours w.history → AllOurs ours (run_through w story).history
through_ours ours w [] apart mine = mine
through_ours ours w (happening ∷ later) apart mine = through_ours ours (undergoes w happening) later apart.1 (undergoes_ours ours w happening apart.0 mine)

-- each entry of ours holds an image
abbrev HoldImages : Names → World → Type 0
HoldImages ours w = (i : ℕ) (e : Entry) → IsAt w.entries i e → ours e.name ≡ true → IsImage w.history w.entries e.name e.held

module _ (w : World) (whole : IsWholeTable w.entries) where
  held_named : (i : ℕ) (e : Entry) → IsAt w.entries i e → content_name e.held ≡ e.name
  held_named i e at = whole.named i (length e.earlier) e e.held at (held_at e)

  entry_of_row : (s : StoredRecord) (has : Has (rows w) s) → IsRowOf w.entries has.0 (suc has.0) s
  entry_of_row s has =
      let r = row_at 1 w.entries has.0 s has.1 in
      record { entry = r.entry; here = r.here; numbered = omega (arith, r.numbered); held = r.held }

  row_named : (s : StoredRecord) (has : Has (rows w) s) (r : IsRowOf w.entries has.0 (suc has.0) s) → content_name s.content ≡ r.entry.name
  row_named s has r = ap content_name (sym r.held) ∙ held_named has.0 r.entry r.here

  one_row : (s t : StoredRecord) → Has (rows w) s → Has (rows w) t → content_name s.content ≡ content_name t.content → s.number ≡ t.number
  one_row s t has_s has_t same =
      let r = entry_of_row s has_s in
      let q = entry_of_row t has_t in
      let place : has_s.0 ≡ has_t.0 = whole.distinct has_s.0 has_t.0 r.entry q.entry r.here q.here (sym (row_named s has_s r) ∙ same ∙ row_named t has_t q) in
      r.numbered ∙ ap suc place ∙ sym q.numbered

  module _ (ours : Names) (images : HoldImages ours w) where
    mine_of : (s : StoredRecord) (holds : Holds ours w s) (r : IsRowOf w.entries holds.0.0 (suc holds.0.0) s) → ours r.entry.name ≡ true
    mine_of s holds r = ap ours (sym (row_named s holds.0 r)) ∙ holds.1

    row_image : (s : StoredRecord) → Holds ours w s → IsImage w.history w.entries (content_name s.content) s.content
    row_image s holds =
        let r = entry_of_row s holds.0 in
        subst (λ (c : Content). IsImage w.history w.entries (content_name c) c) r.held
        (subst (λ (n : RecordName). IsImage w.history w.entries n r.entry.held) (sym (held_named holds.0.0 r.entry r.here)) (images holds.0.0 r.entry r.here (mine_of s holds r)))

    -- what is shown of an entry of ours is its revision
    has_reached : (r : RevisionValue) (i : ℕ) (e : Entry) → IsAt w.entries i e → ours e.name ≡ true → r ≼ shown_revision e.held → HasReached r e.held
    has_reached r i e at mine up =
        let image = images i e at mine in
        (row_revision image.row, image.revision, subst (λ (x : RevisionValue). r ≼ x) (ap or_no_revision image.revision) up)

row_back : (ours : Names) (w v : World) (whole : IsWholeTable w.entries) (whole_v : IsWholeTable v.entries) → HoldImages ours w → HoldImages ours v → FaresOn ours w v → (s : StoredRecord) → Holds ours w s
    → (t : StoredRecord) × Has (rows v) t × IsLater s t
row_back ours w v whole whole_v images images_v fares s holds =
    let i = holds.0.0 in
    let r = entry_of_row w whole s holds.0 in
    let e = r.entry in
    let mine = mine_of w whole ours images s holds r in
    let (f, at, named, up) = fares.never_back i e r.here mine in
    let image = images i e r.here mine in
    let above : row_revision image.row ≼ shown_revision f.held = subst (λ (x : RevisionValue). x ≼ shown_revision f.held) (ap or_no_revision image.revision) up in
    let later : IsLater s (row_of (suc i) f) = record {
      number = sym r.numbered;
      name = held_named v whole_v i f at ∙ named ∙ sym (row_named w whole s holds.0 r);
      earlier = row_revision image.row;
      at_revision = subst (λ (c : Content). content_revision c ≡ Some (row_revision image.row)) r.held image.revision;
      reached = has_reached v whole_v ours images_v (row_revision image.row) i f at (ap ours named ∙ mine) above;
    } in
    (row_of (suc i) f, (i, row_here 1 (suc i) v.entries i f (omega arith) at), later)

-- from the empty start nothing is as it was there
only_images : (ours : Names) (story : List Happening) → StayApart ours story → HoldImages ours (run_through empty story)
only_images ours story apart i e at mine = elim ((through_fares ours empty story apart (start_durable empty empty_is_start)).images i e at mine) [
  | inl old ↦ absurd (cc old)
  | inr image ↦ image
]

-- and each content that was ever held is an image
pub story_images : (ours : Names) (story : List Happening) → StayApart ours story → (i j : ℕ) (e : Entry) (c : Content) → IsAt (run_through empty story).entries i e → ours e.name ≡ true → IsAt (contents_of e) j c
    → IsImage (run_through empty story).history (run_through empty story).entries e.name c
story_images ours story apart i j e c at mine held = elim ((through_fares ours empty story apart (start_durable empty empty_is_start)).stories i e j c at mine held) [
  | inl old ↦ absurd (cc old.1)
  | inr image ↦ image
]

pub stories_short : (ours : Names) (story : List Happening) → StayApart ours story → AllShort (run_through empty story).entries
stories_short ours story apart = (through_fares ours empty story apart (start_durable empty empty_is_start)).short (λ i e at. absurd (cc))

module _ (ours : Names) (early late : List Happening) (apart : StayApart ours (early ++ late)) where
  abbrev w : World
  w = run_through empty early

  first : StayApart ours early
  first = apart_early ours early late apart

  t : Durable w
  t = through_durable empty early (start_durable empty empty_is_start)

  reached : (name : RecordName) (known : Known) → w.book name ≡ Some known → known.confirmed ≢ no_revision → (s : StoredRecord) × Has (rows w) s × (content_name s.content ≡ name) × (known.id ≡ Some (id_text s.number))
      × HasReached known.confirmed s.content
  reached name known in_book some =
      let has = last_has (rows_of w.history name) known.wanted (sym (t.follows name) ∙ wanted_of (w.book name) known in_book) in
      let mine = record_ours ours w.history (through_ours ours empty early first (λ row none. absurd (cc none.1))) name known.wanted has in
      let h = through_counts ours empty early name mine first (start_durable empty empty_is_start) (start_below ours empty empty_is_start) (inl (λ k none. absurd (cc none))) known in_book some in
      let i = h.of_record.0.0 in
      let at = h.of_record.0.1 in (
        row_of (suc i) h.entry,
        (i, row_here 1 (suc i) w.entries i h.entry (omega arith) at),
        held_named w t.whole i h.entry at ∙ h.of_record.1,
        h.its_id ∙ id_at w.entries name i h.entry t.whole at h.of_record.1,
        has_reached w t.whole ours (only_images ours early first) known.confirmed i h.entry at (ap ours h.of_record.1 ∙ mine) h.reached,
      )

  later_on : HeadlineAmong ours w (run_through empty (early ++ late))
  later_on =
      let v = run_through w late in
      let same : run_through empty (early ++ late) ≡ v = through-append empty early late in
      let images_v : HoldImages ours v = subst (λ (x : World). HoldImages ours x) same (only_images ours (early ++ late) apart) in
      let fares = through_fares ours w late (apart_late ours early late apart) t in
      subst (λ (x : World). HeadlineAmong ours w x) (sym same) (record {
        one_per_name = one_row w t.whole;
        its_image = row_image w t.whole ours (only_images ours early first);
        never_back = row_back ours w v t.whole (through_durable w late t).whole (only_images ours early first) images_v fares;
        reached = reached;
      })

pub headline_through_resets : HeadlineThroughResets
headline_through_resets ours early late apart = later_on ours early late apart

own_apart : (story : List Happening) → AllByRecursion IsOwn story → StayApart all_names story
own_apart [] own = tt
own_apart (Does (Ours event) ∷ later) own = (all_of_ours event, own_apart later own.1)
own_apart (Does (Theirs request) ∷ later) own = absurd own.0
own_apart (Forgets these ∷ later) own = (tt, own_apart later own.1)

pub headline_alone : HeadlineAlone
headline_alone early late own =
    let among = headline_through_resets all_names early late (own_apart (early ++ late) own) in
    record {
      one_per_name = among.one_per_name;
      its_image = λ s has. among.its_image s (has, refl);
      never_back = λ s has. among.never_back s (has, refl);
      reached = among.reached;
    }

-- ---- once healed

pub promised_through_resets : PromisedThroughResets
promised_through_resets ours start early late is healed mine apart =
    let w = run_through start early in
    let v = run_through w late in
    let t = through_durable start early (start_durable start is) in
    let fares = through_fares ours w late apart t in
    record {
      one_each = (through_durable w late t).whole.distinct;
      images = λ e has its. elim (fares.images has.0 e has.1 (mine e.name its)) [
        | inl old ↦ like_grows w.history w.entries v.history v.entries fares.grows e.name e.held (healed_holds w t healed has.0 e old its)
        | inr image ↦ like_image v.history v.entries e.name e.held image
      ];
      never_back = λ i e at has. fares.never_back i e at (mine e.name has);
    }

reset_within : (b : Bool) (o : Option Known) (k : Known) → ((known : Known) → o ≡ Some known → known.confirmed ≼ row_revision known.wanted) → option_map (opened_after b) o ≡ Some k
    → k.confirmed ≼ row_revision k.wanted
reset_within b None k was is = absurd (cc)
reset_within true (Some known) k was is =
    let same : unlearnt known ≡ k = cc in subst (λ (x : Known). x.confirmed ≼ row_revision x.wanted) same (none_first (row_revision known.wanted))
reset_within false (Some known) k was is =
    let same : undoubted known ≡ k = cc in subst (λ (x : Known). x.confirmed ≼ row_revision x.wanted) same (was known refl)

undergoes_in_order : (w : World) (happening : Happening) → IsLawfulHappening happening → IsInOrder w → IsInOrder (undergoes w happening)
undergoes_in_order w (Does act) law t = act_in_order w act law t
undergoes_in_order w (Forgets these) law t = record {
  follows = λ q. reset_wants (these q) (w.book q) ∙ t.follows q;
  within = λ q k is. reset_within (these q) (w.book q) k (t.within q) is;
  lawful = t.lawful;
  members = t.members;
  whole = t.whole;
}

through_in_order : (w : World) (story : List Happening) → AllByRecursion IsLawfulHappening story → IsInOrder w → IsInOrder (run_through w story)
through_in_order w [] law t = t
through_in_order w (happening ∷ later) law t = through_in_order (undergoes w happening) later law.1 (undergoes_in_order w happening law.0 t)

pub heals_after_resets : HealsAfterResets
heals_after_resets start story is law room each = heals (run_through start story) (record { in_order = through_in_order start story law is.in_order; room = room }) each
