-- Acts and resets from any start: what is durable, what answers show, and what counts as confirmed.
use Rattle.std.proofs.Common.{◌≡◌, ◌≢◌, ℕ, zero, suc, Bool, true, false, cond, List, [], ◌∷◌, length, Option, Some, None, Result, Ok, Err, ◌⊎◌, inl, inr, refl, ap, sym, ◌∙◌, subst}
use Rattle.std.proofs.lemmas.Bool.{cases_Bool}
use Rattle.std.specs.List.{slice_get}
use Rattle.std.specs.Option.{option_map}
use Rattle.scim_key.proofs.RecordLaws.{same as same_names}
use Rattle.scim_key.proofs.RevisionLaws.{none_first, reflexive_up_to, same as same_revisions, transitive_up_to}
use Rattle.scim_key.specs.Revisions.{RevisionValue, no_revision, same_revision, later, ◌≼◌}
use Rattle.scim_key.specs.declared.records.RecordName.{RecordName}
use Rattle.scim_resource.specs.Contents.{content_name}
use Rattle.scim_resource.specs.Rows.{ShownRecord}
use Rattle.scim_message.specs.declared.messages.Answer.{Answer}
use Rattle.scim_message.specs.declared.messages.Request.{Request}
use Rattle.provider_core.specs.Stories.{Entry, step}
use Rattle.provider_core.specs.Tables.{IsWholeTable, IsFact, shown_in}
use Rattle.provider_core.proofs.TableLaws.{at_push, held_at}
use Rattle.source_csv.specs.Records.{row_name, row_revision}
use Rattle.source_csv.specs.declared.rows.Row.{Row}
use Rattle.connector_core.specs.History.{same_name}
use Rattle.connector_core.specs.Asking.{asking}
use Rattle.connector_core.specs.Book.{Book, put, wanting, undoubted, doubting}
use Rattle.connector_core.specs.Learning.{Finding, Shows, Sight, absent, nothing_new, none_sighted, forgetting, is_absent, is_under, or_no_revision, sighted, shown_revision, Lesson, Learning, learn, after_learning}
use Rattle.connector_core.specs.declared.accepting.Verdict.{Verdict}
use Rattle.connector_core.specs.declared.accepting.Verdict.TheVariants as verdicts
use Rattle.connector_core.specs.declared.asking.Ask.{Ask}
use Rattle.connector_core.specs.declared.asking.Ask.TheVariants.{Nothing, Waits, Send}
use Rattle.connector_core.specs.declared.changing.ChangeFault.{ChangeFault}
use Rattle.connector_core.specs.declared.keeps.Keeps.TheVariants.{Revisions}
use Rattle.connector_core.specs.declared.knowledge.Known.{Known}
use Rattle.connector_core.specs.declared.learning.LearnFault.{LearnFault}
use Rattle.world_model.specs.Invariant.{Names, ShowsTruly}
use Rattle.world_model.specs.Others.{Ours, Theirs, acts}
use Rattle.world_model.specs.Resetting.{unlearnt, opened_after, Happening, Does, Forgets, undergoes, run_through, StaysApart, StayApart, WasReset, HoldsConfirmed, CountsTruly}
use Rattle.world_model.specs.Safe.{IsAt}
use Rattle.world_model.specs.World.{World, Message, Asked, Answered, Event, Changes, Sends, Delivers, Cuts, Restarts_provider, Restarts_connector, Doubts, changes, sends, arrives, delivers, message_at, happens, judged}
use Rattle.world_model.proofs.Comparing.{wanted_named, wanted_revised}
use Rattle.world_model.proofs.Current.{answers_show_current}
use Rattle.world_model.proofs.Durable.{IsTrue, Durable, act_durable, its_name}
use Rattle.world_model.proofs.Faring.{IsStillAt, FaresOn, fares_further, fares_same, act_fares}
use Rattle.world_model.proofs.Growing.{id_at}
use Rattle.world_model.proofs.Invariant.{message_there}
use Rattle.world_model.proofs.Learned.{LearnsShown, LearnsShown.sees, LearnsShown.agrees, LearnsShown.differs, LearnsShown.only, LearnsShown.hides, Learns, Learns.shows, Learns.misses, Learns.is_taken, Learns.is_stale, learnt_by, never_hidden, never_only, shows_first}
use Rattle.world_model.proofs.Making.{put_one}
use Rattle.world_model.proofs.Noting.{forgetting_id, none_sighted_id}
use Rattle.world_model.proofs.Order.{later_within}

-- ---- a reset keeps what is durable

pub reset_wants : (b : Bool) (o : Option Known) → option_map (λ (k : Known). k.wanted) (option_map (opened_after b) o) ≡ option_map (λ (k : Known). k.wanted) o
reset_wants b None = refl
reset_wants true (Some known) = refl
reset_wants false (Some known) = refl

reset_true : (es : List Entry) (name : RecordName) (b : Bool) (o : Option Known) (k : Known) → ((known : Known) → o ≡ Some known → IsTrue es name known) → option_map (opened_after b) o ≡ Some k → IsTrue es name k
reset_true es name b None k was is = absurd (cc)
reset_true es name true (Some known) k was is =
    let same : unlearnt known ≡ k = cc in
    subst (λ (x : Known). IsTrue es name x) same (record { its_id = λ id has. absurd (cc); seen = λ id tag r at. absurd (cc) })
reset_true es name false (Some known) k was is =
    let same : undoubted known ≡ k = cc in
    subst (λ (x : Known). IsTrue es name x) same (record { its_id = (was known refl).its_id; seen = λ id tag r at. absurd (cc) })

pub undergoes_durable : (w : World) (happening : Happening) → Durable w → Durable (undergoes w happening)
undergoes_durable w (Does act) t = act_durable w act t
undergoes_durable w (Forgets these) t = record {
  follows = λ q. reset_wants (these q) (w.book q) ∙ t.follows q;
  whole = t.whole;
  known = λ q k is. reset_true w.entries q (these q) (w.book q) k (t.known q) is;
  asked = t.asked;
  shown = t.shown;
}

pub through_durable : (w : World) (story : List Happening) → Durable w → Durable (run_through w story)
through_durable w [] t = t
through_durable w (happening ∷ later) t = through_durable (undergoes w happening) later (undergoes_durable w happening t)

pub undergoes_fares : (ours : Names) (w : World) (happening : Happening) → StaysApart ours happening → Durable w → FaresOn ours w (undergoes w happening)
undergoes_fares ours w (Does act) apart t = act_fares ours w act apart t
undergoes_fares ours w (Forgets these) apart t = fares_same ours w t

pub through_fares : (ours : Names) (w : World) (story : List Happening) → StayApart ours story → Durable w → FaresOn ours w (run_through w story)
through_fares ours w [] apart t = fares_same ours w t
through_fares ours w (happening ∷ later) apart t =
    let u = undergoes w happening in
    let v = run_through u later in
    fares_further ours w.history w.entries u.history u.entries v.history v.entries (undergoes_fares ours w happening apart.0 t)
    (through_fares ours u later apart.1 (undergoes_durable w happening t))

-- ---- what answers show

-- the record that is shown is there, and shows no lower revision by now
pub record IsBelow (ours : Names) (es : List Entry) (s : ShownRecord) : Type 0 where
  pub place : ℕ
  pub entry : Entry
  pub here : IsAt es place entry
  pub named : entry.name ≡ content_name s.content
  pub up : shown_revision s.content ≼ shown_revision entry.held

abbrev ShowsBelow : Names → List Entry → Answer → Type 0
ShowsBelow ours es answer = (j : ℕ) (s : ShownRecord) → IsAt (shown_in answer) j s → ours (content_name s.content) ≡ true → IsBelow ours es s

-- so it is of every answer that was ever given
abbrev pub AllBelow : Names → World → Type 0
AllBelow ours w = (i : ℕ) (q : Request) (a : Answer) → IsAt w.messages i (Answered q a) → ShowsBelow ours w.entries a

below_on : (ours : Names) (es fs : List Entry) (s : ShownRecord) → ((i : ℕ) (e : Entry) → IsAt es i e → ours e.name ≡ true → IsStillAt fs i e) → ours (content_name s.content) ≡ true → IsBelow ours es s
    → IsBelow ours fs s
below_on ours es fs s back mine b =
    let (f, at, named, up) = back b.place b.entry b.here (ap ours b.named ∙ mine) in
    record { place = b.place; entry = f; here = at; named = named ∙ b.named; up = transitive_up_to (shown_revision s.content) (shown_revision b.entry.held) (shown_revision f.held) b.up up }

from_current : (ours : Names) (es : List Entry) (request : Request) → IsWholeTable (step es request).entries → ShowsBelow ours (step es request).entries (step es request).answer
from_current ours es request whole j s at mine =
    let c = answers_show_current es request j s at in
    record {
      place = c.place;
      entry = c.entry;
      here = c.here;
      named = sym (ap content_name c.content ∙ held_named c.place c.entry c.here);
      up = subst (λ (x : _). shown_revision s.content ≼ shown_revision x) c.content (reflexive_up_to (shown_revision s.content));
    }
  where
    held_named : (i : ℕ) (e : Entry) → IsAt (step es request).entries i e → content_name e.held ≡ e.name
    held_named i e here = whole.named i (length e.earlier) e e.held here (held_at e)

below_staying : (ours : Names) (w v : World) → FaresOn ours w v → v.messages ≡ w.messages → AllBelow ours w → AllBelow ours v
below_staying ours w v fares same below i q a at j s shown mine =
    below_on ours w.entries v.entries s fares.never_back mine (below i q a (subst (λ (all : List Message). IsAt all i (Answered q a)) same at) j s shown mine)

sends_below : (ours : Names) (w : World) (o : Option Ask) → AllBelow ours w → AllBelow ours (sends w o)
sends_below ours w None below = below
sends_below ours w (Some Nothing) below = below
sends_below ours w (Some (Waits member)) below = below
sends_below ours w (Some (Send request)) below = λ i q a at. elim (at_push w.messages (Asked request) i (Answered q a) at) [
  | inl old ↦ below i q a old
  | inr new ↦ absurd (cc new.1)
]

delivers_below : (ours : Names) (w : World) (o : Option Message) → FaresOn ours w (delivers w o) → IsWholeTable (delivers w o).entries → AllBelow ours w → AllBelow ours (delivers w o)
delivers_below ours w None fares whole below = below
delivers_below ours w (Some (Asked request)) fares whole below = λ i q a at. elim (at_push w.messages (Answered request (step w.entries request).answer) i (Answered q a) at) [
  | inl old ↦ λ j s shown mine. below_on ours w.entries (step w.entries request).entries s fares.never_back mine (below i q a old j s shown mine)
  | inr new ↦ new_answer q a new.1
]
  where
    new_answer : (q : Request) (a : Answer) → Answered request (step w.entries request).answer ≡ Answered q a → ShowsBelow ours (step w.entries request).entries a
    new_answer q a same =
        let answers : (step w.entries request).answer ≡ a = cc in
        subst (λ (x : Answer). ShowsBelow ours (step w.entries request).entries x) answers (from_current ours w.entries request whole)
delivers_below ours w (Some (Answered request answer)) fares whole below = below

changes_messages : (w : World) (row : Row) (v : Result Verdict ChangeFault) → (changes w row v).messages ≡ w.messages
changes_messages w row v = refl

event_below : (ours : Names) (w : World) (event : Event) → FaresOn ours w (happens w event) → Durable (happens w event) → AllBelow ours w → AllBelow ours (happens w event)
event_below ours w (Changes row) fares t below = below_staying ours w (happens w (Changes row)) fares (changes_messages w row (judged w row)) below
event_below ours w (Sends name) fares t below = sends_below ours w (asking w.book name) below
event_below ours w (Delivers number) fares t below = delivers_below ours w (message_at w.messages number) fares t.whole below
event_below ours w (Cuts number length) fares t below = below
event_below ours w Restarts_provider fares t below = below
event_below ours w Restarts_connector fares t below = below
event_below ours w (Doubts name) fares t below = below

pub undergoes_below : (ours : Names) (w : World) (happening : Happening) → FaresOn ours w (undergoes w happening) → Durable (undergoes w happening) → AllBelow ours w → AllBelow ours (undergoes w happening)
undergoes_below ours w (Does (Ours event)) fares t below = event_below ours w event fares t below
undergoes_below ours w (Does (Theirs request)) fares t below = below_staying ours w (acts w (Theirs request)) fares refl below
undergoes_below ours w (Forgets these) fares t below = below

-- ---- what counts as confirmed

-- a record of which nothing more counts, under the same id
as_before : (es : List Entry) (name : RecordName) (known now : Known) → now.confirmed ≡ known.confirmed → now.id ≡ known.id → (known.confirmed ≢ no_revision → HoldsConfirmed es name known)
    → now.confirmed ≢ no_revision → HoldsConfirmed es name now
as_before es name known now same its_id was some =
    let h = was (λ none. some (same ∙ none)) in
    record { entry = h.entry; of_record = h.of_record; its_id = its_id ∙ h.its_id; reached = subst (λ (r : RevisionValue). r ≼ shown_revision h.entry.held) (sym same) h.reached }

-- later tables still hold it
counts_on : (ours : Names) (w v : World) (name : RecordName) → ours name ≡ true → IsWholeTable w.entries → FaresOn ours w v → v.book name ≡ w.book name → CountsTruly w name → CountsTruly v name
counts_on ours w v name mine whole fares same counts known in_book some =
    let h = counts known (sym same ∙ in_book) some in
    let i = h.of_record.0.0 in
    let (f, at, named, up) = fares.never_back i h.entry h.of_record.0.1 (ap ours h.of_record.1 ∙ mine) in
    record {
      entry = f;
      of_record = ((i, at), named ∙ h.of_record.1);
      its_id = h.its_id ∙ id_at w.entries name i h.entry whole h.of_record.0.1 h.of_record.1 ∙ sym (id_at v.entries name i f fares.grows.whole at (named ∙ h.of_record.1));
      reached = transitive_up_to known.confirmed (shown_revision h.entry.held) (shown_revision f.held) h.reached up;
    }

some_sighted_counts : (doubted : Bool) (known : Known) → (cond doubted (absent known) (nothing_new known)).known.confirmed ≡ known.confirmed
some_sighted_counts true known = refl
some_sighted_counts false known = refl

none_sighted_counts : (id : Option (List ℕ)) (known : Known) → (none_sighted id known).known.confirmed ≡ known.confirmed
none_sighted_counts None known = refl
none_sighted_counts (Some id) known = some_sighted_counts known.is_doubted known

forgetting_counts : (concerned : Bool) (known : Known) → (forgetting concerned known).known.confirmed ≡ known.confirmed
forgetting_counts true known = refl
forgetting_counts false known = refl

module _ (ours : Names) (es : List Entry) (whole : IsWholeTable es) (book : Book) (name : RecordName) (mine : ours name ≡ true) (known : Known) (of_record : row_name known.wanted ≡ name)
    (was : known.confirmed ≢ no_revision → HoldsConfirmed es name known) where
  module _ (s : ShownRecord) (fact : IsFact es s) (below : ours (content_name s.content) ≡ true → IsBelow ours es s) where
    -- what counted before is held by the same entry
    before_held : (b : IsBelow ours es s) → name ≡ content_name s.content → known.confirmed ≼ shown_revision b.entry.held
    before_held b named = elim (cases_Bool (same_revision known.confirmed no_revision)) [
      | inl none ↦ subst (λ (r : RevisionValue). r ≼ shown_revision b.entry.held) (sym ((same_revisions known.confirmed no_revision).0 none)) (none_first (shown_revision b.entry.held))
      | inr some ↦
          let h = was (λ none. not_both (same_revision known.confirmed no_revision) ((same_revisions known.confirmed no_revision).1 none) some) in
          let place : h.of_record.0.0 ≡ b.place = whole.distinct h.of_record.0.0 b.place h.entry b.entry h.of_record.0.1 b.here (h.of_record.1 ∙ named ∙ sym b.named) in
          let entries : Some h.entry ≡ Some b.entry = sym h.of_record.0.1 ∙ ap (slice_get es) place ∙ b.here in
          let equal : h.entry ≡ b.entry = cc in
          subst (λ (x : Entry). known.confirmed ≼ shown_revision x.held) equal h.reached
    ]
      where
        not_both : (t : Bool) → t ≡ true → t ≡ false → ⊥
        not_both t is not = let clash : true ≡ false = sym is ∙ not in cc

    sighted_counts : (sight : Sight) → name ≡ content_name s.content → sight.id ≡ s.id → shown_revision s.content ≡ sight.revision → HoldsConfirmed es name (sighted known sight).known
    sighted_counts sight named same_id revised =
        let b = below (ap ours (sym named) ∙ mine) in
        let fact_named : fact.entry.name ≡ name = sym (named ∙ whole.named fact.place fact.turn fact.entry s.content fact.here fact.held) in
        record {
          entry = b.entry;
          of_record = ((b.place, b.here), b.named ∙ sym named);
          its_id = ap Some (same_id ∙ fact.id) ∙ sym (id_at es name fact.place fact.entry whole fact.here fact_named);
          reached = later_within known.confirmed sight.revision (shown_revision b.entry.held) (before_held b named) (subst (λ (r : RevisionValue). r ≼ shown_revision b.entry.held) revised b.up);
        }

    shown_counts : {l : Lesson} → LearnsShown Revisions book name known s l → l.known.confirmed ≢ no_revision → HoldsConfirmed es name l.known
    shown_counts (sees sight fits) some = sighted_counts sight ((same_names name (content_name s.content)).0 fits.named) fits.id (ap or_no_revision fits.revision)
    shown_counts (agrees tag wanted tagged) some =
        sighted_counts (record { id = s.id; revision = row_revision known.wanted; tag = tag }) (sym (wanted_named book known s.content wanted ∙ of_record)) refl
        (ap or_no_revision (wanted_revised book known s.content wanted))
    shown_counts (differs sight d) some = as_before es name known _ refl refl was some
    shown_counts (only tag o) some = never_only o
    shown_counts (hides u learns) some = never_hidden u

  lesson_counts : {said : Finding} {l : Lesson} → ((s : ShownRecord) → said ≡ Shows s → IsFact es s × (ours (content_name s.content) ≡ true → IsBelow ours es s)) → Learns Revisions book name known said l
      → l.known.confirmed ≢ no_revision → HoldsConfirmed es name l.known
  lesson_counts facts (shows s l learns) some = let (fact, below) = facts s refl in shown_counts s fact below learns some
  lesson_counts facts misses some = as_before es name known _ (none_sighted_counts known.id known) (none_sighted_id known.id known) was some
  lesson_counts facts is_taken some = as_before es name known _ (forgetting_counts (is_absent known.seen) known) (forgetting_id (is_absent known.seen) known) was some
  lesson_counts facts (is_stale if_match) some = as_before es name known _ (forgetting_counts (is_under if_match known.seen) known) (forgetting_id (is_under if_match known.seen) known) was some

-- what is put in the place of a record
put_counts : (es : List Entry) (book : Book) (other name : RecordName) (now : Known) → ((k : Known) → book name ≡ Some k → k.confirmed ≢ no_revision → HoldsConfirmed es name k)
    → (other ≡ name → now.confirmed ≢ no_revision → HoldsConfirmed es name now) → (k : Known) → put book other now name ≡ Some k → k.confirmed ≢ no_revision → HoldsConfirmed es name k
put_counts es book other name now was its k is = elim (cases_Bool (same_name other name)) [
  | inl same ↦
      let equal : now ≡ k = put_one (same_name other name) now k (book name) same is in
      subst (λ (x : Known). x.confirmed ≢ no_revision → HoldsConfirmed es name x) equal (its ((same_names other name).0 same))
  | inr not ↦ was k (sym (ap (λ (b : Bool). cond b (Some now) (book name)) not) ∙ is)
]

learnt_counts : (ours : Names) (w : World) (request : Request) (answer : Answer) (name : RecordName) → ours name ≡ true → Durable w → ShowsTruly w.entries answer → ShowsBelow ours w.entries answer
    → CountsTruly w name → (k : Known) → after_learning w.book (learn w.book request answer) name ≡ Some k → k.confirmed ≢ no_revision → HoldsConfirmed w.entries name k
learnt_counts ours w request answer name mine t truly below counts = go (learn w.book request answer) refl
  where
    go : (r : Result Learning LearnFault) → learn w.book request answer ≡ r → (k : Known) → after_learning w.book r name ≡ Some k → k.confirmed ≢ no_revision → HoldsConfirmed w.entries name k
    go (Err fault) is = counts
    go (Ok learning) is =
        let x = learnt_by Revisions w.book request answer learning is in
        subst (λ (b : Book). (k : Known) → b name ≡ Some k → k.confirmed ≢ no_revision → HoldsConfirmed w.entries name k) (sym x.book_after)
        (put_counts w.entries w.book x.name name x.teaches.known counts (λ same some.
        let in_book : w.book name ≡ Some x.known = ap w.book (sym same) ∙ x.in_book in
        let learns : Learns Revisions w.book name x.known x.said x.teaches = subst (λ (n : RecordName). Learns Revisions w.book n x.known x.said x.teaches) same x.learns in
        lesson_counts ours w.entries t.whole w.book name mine x.known (its_name w t name x.known in_book) (counts x.known in_book)
        (λ s said. let first = shows_first request answer s (x.says ∙ ap Ok said) in (truly 0 s first, below 0 s first)) learns some))

-- ---- every happening

wanting_counts : (es : List Entry) (name : RecordName) (o : Option Known) (row : Row) → ((k : Known) → o ≡ Some k → k.confirmed ≢ no_revision → HoldsConfirmed es name k)
    → (wanting o row).confirmed ≢ no_revision → HoldsConfirmed es name (wanting o row)
wanting_counts es name None row was some = absurd (some refl)
wanting_counts es name (Some known) row was some = as_before es name known _ refl refl (was known refl) some

changes_counts : (w : World) (row : Row) (v : Result Verdict ChangeFault) (name : RecordName) → CountsTruly w name → CountsTruly (changes w row v) name
changes_counts w row (Ok verdicts.New) name counts =
    put_counts w.entries w.book (row_name row) name (wanting (w.book (row_name row)) row) counts (λ same.
    subst (λ (n : RecordName). (wanting (w.book (row_name row)) row).confirmed ≢ no_revision → HoldsConfirmed w.entries n (wanting (w.book (row_name row)) row)) same
    (wanting_counts w.entries (row_name row) (w.book (row_name row)) row (subst (λ (n : RecordName). CountsTruly w n) (sym same) counts)))
changes_counts w row (Ok verdicts.Known) name counts = counts
changes_counts w row (Ok verdicts.Older) name counts = counts
changes_counts w row (Err fault) name counts = counts

sends_counts : (w : World) (o : Option Ask) (name : RecordName) → CountsTruly w name → CountsTruly (sends w o) name
sends_counts w None name counts = counts
sends_counts w (Some Nothing) name counts = counts
sends_counts w (Some (Waits member)) name counts = counts
sends_counts w (Some (Send request)) name counts = counts

delivers_counts : (ours : Names) (w : World) (number : ℕ) (o : Option Message) (name : RecordName) → message_at w.messages number ≡ o → ours name ≡ true → Durable w → AllBelow ours w → FaresOn ours w (delivers w o)
    → CountsTruly w name → CountsTruly (delivers w o) name
delivers_counts ours w number None name is mine t below fares counts = counts
delivers_counts ours w number (Some (Asked request)) name is mine t below fares counts = counts_on ours w (arrives w (Asked request)) name mine t.whole fares refl counts
delivers_counts ours w number (Some (Answered request answer)) name is mine t below fares counts =
    let (i, at) = message_there w.messages number (Answered request answer) is in
    learnt_counts ours w request answer name mine t (t.shown i request answer at) (below i request answer at) counts

reopened_counts : (es : List Entry) (name : RecordName) (o : Option Known) → ((k : Known) → o ≡ Some k → k.confirmed ≢ no_revision → HoldsConfirmed es name k) → (k : Known) → option_map undoubted o ≡ Some k
    → k.confirmed ≢ no_revision → HoldsConfirmed es name k
reopened_counts es name None was k is = absurd (cc)
reopened_counts es name (Some known) was k is =
    let same : undoubted known ≡ k = cc in
    subst (λ (x : Known). x.confirmed ≢ no_revision → HoldsConfirmed es name x) same (as_before es name known (undoubted known) refl refl (was known refl))

doubted_counts : (es : List Entry) (name : RecordName) (b : Bool) (o : Option Known) → ((k : Known) → o ≡ Some k → k.confirmed ≢ no_revision → HoldsConfirmed es name k) → (k : Known)
    → cond b (option_map doubting o) o ≡ Some k → k.confirmed ≢ no_revision → HoldsConfirmed es name k
doubted_counts es name true None was k is = absurd (cc)
doubted_counts es name true (Some known) was k is =
    let same : doubting known ≡ k = cc in
    subst (λ (x : Known). x.confirmed ≢ no_revision → HoldsConfirmed es name x) same (as_before es name known (doubting known) refl refl (was known refl))
doubted_counts es name false o was k is = was k is

event_counts : (ours : Names) (w : World) (event : Event) (name : RecordName) → ours name ≡ true → Durable w → AllBelow ours w → FaresOn ours w (happens w event) → CountsTruly w name
    → CountsTruly (happens w event) name
event_counts ours w (Changes row) name mine t below fares counts = changes_counts w row (judged w row) name counts
event_counts ours w (Sends n) name mine t below fares counts = sends_counts w (asking w.book n) name counts
event_counts ours w (Delivers number) name mine t below fares counts = delivers_counts ours w number (message_at w.messages number) name refl mine t below fares counts
event_counts ours w (Cuts number length) name mine t below fares counts = counts
event_counts ours w Restarts_provider name mine t below fares counts = counts
event_counts ours w Restarts_connector name mine t below fares counts = reopened_counts w.entries name (w.book name) counts
event_counts ours w (Doubts n) name mine t below fares counts = doubted_counts w.entries name (same_name n name) (w.book name) counts

-- after a reset nothing counts
reset_counts : (es : List Entry) (name : RecordName) (o : Option Known) (k : Known) → option_map (opened_after true) o ≡ Some k → k.confirmed ≢ no_revision → HoldsConfirmed es name k
reset_counts es name None k is some = absurd (cc)
reset_counts es name (Some known) k is some =
    let same : unlearnt known ≡ k = cc in
    absurd (some (ap (λ (x : Known). x.confirmed) (sym same)))

reset_or_opened : (es : List Entry) (name : RecordName) (b : Bool) (o : Option Known) → ((k : Known) → o ≡ Some k → k.confirmed ≢ no_revision → HoldsConfirmed es name k) → (k : Known)
    → option_map (opened_after b) o ≡ Some k → k.confirmed ≢ no_revision → HoldsConfirmed es name k
reset_or_opened es name true o was k is = reset_counts es name o k is
reset_or_opened es name false o was k is = reopened_counts es name o was k is

pub undergoes_counts : (ours : Names) (w : World) (happening : Happening) (name : RecordName) → ours name ≡ true → Durable w → AllBelow ours w → FaresOn ours w (undergoes w happening) → CountsTruly w name
    → CountsTruly (undergoes w happening) name
undergoes_counts ours w (Does (Ours event)) name mine t below fares counts = event_counts ours w event name mine t below fares counts
undergoes_counts ours w (Does (Theirs request)) name mine t below fares counts = counts_on ours w (acts w (Theirs request)) name mine t.whole fares refl counts
undergoes_counts ours w (Forgets these) name mine t below fares counts = reset_or_opened w.entries name (these name) (w.book name) counts

pub forgotten_counts : (w : World) (these : Names) (name : RecordName) → these name ≡ true → CountsTruly (undergoes w (Forgets these)) name
forgotten_counts w these name is k in_book = reset_counts w.entries name (w.book name) k (sym (ap (λ (b : Bool). option_map (opened_after b) (w.book name)) is) ∙ in_book)

pub through_counts : (ours : Names) (w : World) (story : List Happening) (name : RecordName) → ours name ≡ true → StayApart ours story → Durable w → AllBelow ours w
    → CountsTruly w name ⊎ WasReset story name → CountsTruly (run_through w story) name
through_counts ours w [] name mine apart t below (inl counts) = counts
through_counts ours w [] name mine apart t below (inr reset) = absurd (cc reset.1.1)
through_counts ours w (happening ∷ later) name mine apart t below since =
    let fares = undergoes_fares ours w happening apart.0 t in
    let after = undergoes_durable w happening t in
    through_counts ours (undergoes w happening) later name mine apart.1 after (undergoes_below ours w happening fares after below) (next since)
  where
    at_head : (h : Happening) (these : Names) → h ≡ Forgets these → these name ≡ true → CountsTruly (undergoes w h) name
    at_head h these same is = subst (λ (x : Happening). CountsTruly (undergoes w x) name) (sym same) (forgotten_counts w these name is)

    reset_at : (these : Names) (i : ℕ) → IsAt (happening ∷ later) i (Forgets these) → these name ≡ true → CountsTruly (undergoes w happening) name ⊎ WasReset later name
    reset_at these zero at is = inl (at_head happening these (cc) is)
    reset_at these (suc i) at is = inr (these, (i, at), is)

    next : CountsTruly w name ⊎ WasReset (happening ∷ later) name → CountsTruly (undergoes w happening) name ⊎ WasReset later name
    next (inl counts) = inl (undergoes_counts ours w happening name mine t below (undergoes_fares ours w happening apart.0 t) counts)
    next (inr reset) = reset_at reset.0 reset.1.0 reset.1.1 reset.2
