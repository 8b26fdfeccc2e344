-- Source, book and table stay in order, whatever anybody does at the provider.
use Rattle.std.proofs.Common.{◌≡◌, ℕ, Bool, true, false, cond, List, [], ◌∷◌, Option, Some, None, Result, Ok, Err, inl, inr, refl, ap, sym, ◌∙◌, subst}
use Rattle.std.proofs.lemmas.Bool.{cases_Bool, not-true}
use Rattle.std.specs.List.{AllByRecursion}
use Rattle.std.specs.Option.{option_map}
use Rattle.scim_key.proofs.RevisionLaws.{none_first, reflexive_up_to, up_to_before, transitive_up_to}
use Rattle.scim_key.specs.Revisions.{◌≺◌, ◌≼◌}
use Rattle.scim_key.specs.declared.records.RecordName.{RecordName}
use Rattle.scim_resource.specs.Rows.{ShownRecord}
use Rattle.scim_message.specs.declared.messages.Answer.{Answer}
use Rattle.scim_message.specs.declared.messages.Request.{Request}
use Rattle.provider_core.proofs.TableLaws.{at_push, tables_stay_whole}
use Rattle.source_csv.specs.Records.{IsRow, row_name, row_revision}
use Rattle.source_csv.specs.declared.rows.Row.{Row}
use Rattle.connector_core.proofs.Acceptance.{new_is_newer}
use Rattle.connector_core.proofs.Rising.{goes_on}
use Rattle.connector_core.specs.Accepting.{accepting}
use Rattle.connector_core.specs.History.{same_name}
use Rattle.connector_core.specs.Asking.{asking}
use Rattle.connector_core.specs.Book.{Book, put, wanting, undoubted, doubting}
use Rattle.connector_core.specs.declared.keeps.Keeps.TheVariants.{Revisions}
use Rattle.connector_core.specs.Learning.{Finding, absent, nothing_new, none_sighted, forgetting, is_absent, is_under, Lesson, Learning, learn, after_learning}
use Rattle.connector_core.specs.declared.accepting.Verdict.{Verdict}
use Rattle.connector_core.specs.declared.accepting.Verdict.TheVariants as verdicts
use Rattle.connector_core.specs.declared.asking.Ask.{Ask}
use Rattle.connector_core.specs.declared.asking.Ask.TheVariants.{Nothing, Waits, Send}
use Rattle.connector_core.specs.declared.changing.ChangeFault.{ChangeFault}
use Rattle.connector_core.specs.declared.knowledge.Known.{Known}
use Rattle.connector_core.specs.declared.learning.LearnFault.{LearnFault}
use Rattle.world_model.specs.Healing.{IsInOrder, IsStart}
use Rattle.world_model.specs.Invariant.{Follows}
use Rattle.world_model.specs.Others.{Act, Ours, Theirs, acts, run_among}
use Rattle.world_model.specs.Room.{IsLawfulAct}
use Rattle.world_model.specs.Untroubled.{IsLawful}
use Rattle.world_model.specs.World.{World, Message, Asked, Answered, Event, Changes, Sends, Delivers, Cuts, Restarts_provider, Restarts_connector, Doubts, changes, sends, delivers, message_at, happens, judged, empty}
use Rattle.world_model.proofs.Accepting.{new_by_source}
use Rattle.world_model.proofs.Judging.{event_follows, judged_by_source}
use Rattle.world_model.proofs.Learned.{LearnsShown, LearnsShown.sees, LearnsShown.agrees, LearnsShown.differs, LearnsShown.only, LearnsShown.hides, Learns, Learns.shows, Learns.misses, Learns.is_taken, Learns.is_stale, learnt_by, never_hidden}
use Rattle.world_model.proofs.Making.{put_one}
use Rattle.world_model.proofs.Order.{later_within}

-- nothing above the wanted revision is confirmed
abbrev IsWithin : Known → Type 0
IsWithin known = known.confirmed ≼ row_revision known.wanted

abbrev AllWithin : Book → Type 0
AllWithin book = (name : RecordName) (known : Known) → book name ≡ Some known → IsWithin known

-- ---- the book

put_within : (book : Book) (name : RecordName) (now : Known) → AllWithin book → IsWithin now → AllWithin (put book name now)
put_within book name now within its q k is = elim (cases_Bool (same_name name q)) [
  | inl same ↦ subst IsWithin (put_one (same_name name q) now k (book q) same is) its
  | inr other ↦ within q k (sym (ap (λ (b : Bool). cond b (Some now) (book q)) other) ∙ is)
]

wanting_within : (o : Option Known) (row : Row) → ((known : Known) → o ≡ Some known → IsWithin known × (row_revision known.wanted ≺ row_revision row)) → IsWithin (wanting o row)
wanting_within None row was = none_first (row_revision row)
wanting_within (Some known) row was =
    let (within, newer) = was known refl in
    transitive_up_to known.confirmed (row_revision known.wanted) (row_revision row) within (up_to_before (row_revision known.wanted) (row_revision row) newer)

reopened_within : (o : Option Known) (k : Known) → ((known : Known) → o ≡ Some known → IsWithin known) → option_map undoubted o ≡ Some k → IsWithin k
reopened_within None k was is = absurd (cc)
reopened_within (Some known) k was is = let same : undoubted known ≡ k = cc in subst IsWithin same (was known refl)

doubted_within : (b : Bool) (o : Option Known) (k : Known) → ((known : Known) → o ≡ Some known → IsWithin known) → cond b (option_map doubting o) o ≡ Some k → IsWithin k
doubted_within true None k was is = absurd (cc)
doubted_within true (Some known) k was is = let same : doubting known ≡ k = cc in subst IsWithin same (was known refl)
doubted_within false o k was is = was k is

-- ---- what is learnt

some_sighted_within : (doubted : Bool) (known : Known) → IsWithin known → IsWithin (cond doubted (absent known) (nothing_new known)).known
some_sighted_within true known within = within
some_sighted_within false known within = within

none_sighted_within : (id : Option (List ℕ)) (known : Known) → IsWithin known → IsWithin (none_sighted id known).known
none_sighted_within None known within = within
none_sighted_within (Some id) known within = some_sighted_within known.is_doubted known within

forgetting_within : (concerned : Bool) (known : Known) → IsWithin known → IsWithin (forgetting concerned known).known
forgetting_within true known within = within
forgetting_within false known within = within

module _ (book : Book) (name : RecordName) (known : Known) (within : IsWithin known) where
  shown_within : (s : ShownRecord) {l : Lesson} → LearnsShown Revisions book name known s l → IsWithin l.known
  shown_within s (sees sight fits) = later_within known.confirmed sight.revision (row_revision known.wanted) within (not-true _ fits.within)
  shown_within s (agrees tag wanted tagged) = later_within known.confirmed (row_revision known.wanted) (row_revision known.wanted) within (reflexive_up_to (row_revision known.wanted))
  shown_within s (differs sight d) = within
  shown_within s (only tag o) = within
  shown_within s (hides u learns) = never_hidden u

  lesson_within : {said : Finding} {l : Lesson} → Learns Revisions book name known said l → IsWithin l.known
  lesson_within (shows s l learns) = shown_within s learns
  lesson_within misses = none_sighted_within known.id known within
  lesson_within is_taken = forgetting_within (is_absent known.seen) known within
  lesson_within (is_stale if_match) = forgetting_within (is_under if_match known.seen) known within

learning_within : (book : Book) (request : Request) (answer : Answer) → AllWithin book → AllWithin (after_learning book (learn book request answer))
learning_within book request answer within = go (learn book request answer) refl
  where
    go : (r : Result Learning LearnFault) → learn book request answer ≡ r → AllWithin (after_learning book r)
    go (Err fault) is = within
    go (Ok learning) is =
        let t = learnt_by Revisions book request answer learning is in
        subst AllWithin (sym t.book_after) (put_within book t.name t.teaches.known within (lesson_within book t.name t.known (within t.name t.known t.in_book) t.learns))

-- ---- every act

changes_order : (w : World) (row : Row) (v : Result Verdict ChangeFault) → IsRow row → judged w row ≡ v → Follows (changes w row v).book (changes w row v).history → IsInOrder w → IsInOrder (changes w row v)
changes_order w row (Ok verdicts.New) law is follows t =
    let new : accepting w.history row ≡ Ok verdicts.New = new_by_source w.history row (sym (judged_by_source w row t.follows) ∙ is) in
    record {
      follows = follows;
      within = put_within w.book (row_name row) (wanting (w.book (row_name row)) row) t.within (wanting_within (w.book (row_name row)) row (λ known there.
          (t.within (row_name row) known there, new_is_newer w.history row new known.wanted (sym (t.follows (row_name row)) ∙ ap (option_map (λ (k : Known). k.wanted)) there))));
      lawful = λ r has. elim (at_push w.history row has.0 r has.1) [
        | inl old ↦ t.lawful r (has.0, old)
        | inr last ↦ subst IsRow last.1 law
      ];
      members = (goes_on w.history row new).members t.members;
      whole = t.whole;
    }
changes_order w row (Ok verdicts.Known) law is follows t = t
changes_order w row (Ok verdicts.Older) law is follows t = t
changes_order w row (Err fault) law is follows t = t

sends_order : (w : World) (o : Option Ask) → IsInOrder w → IsInOrder (sends w o)
sends_order w None t = t
sends_order w (Some Nothing) t = t
sends_order w (Some (Waits member)) t = t
sends_order w (Some (Send request)) t = record { follows = t.follows; within = t.within; lawful = t.lawful; members = t.members; whole = t.whole }

delivers_order : (w : World) (o : Option Message) → Follows (delivers w o).book (delivers w o).history → IsInOrder w → IsInOrder (delivers w o)
delivers_order w None follows t = t
delivers_order w (Some (Asked request)) follows t =
    record { follows = follows; within = t.within; lawful = t.lawful; members = t.members; whole = tables_stay_whole w.entries request t.whole }
delivers_order w (Some (Answered request answer)) follows t =
    record { follows = follows; within = learning_within w.book request answer t.within; lawful = t.lawful; members = t.members; whole = t.whole }

pub event_in_order : (w : World) (event : Event) → IsLawful event → IsInOrder w → IsInOrder (happens w event)
event_in_order w (Changes row) law t = changes_order w row (judged w row) law refl (event_follows w (Changes row) t.follows) t
event_in_order w (Sends name) law t = sends_order w (asking w.book name) t
event_in_order w (Delivers number) law t = delivers_order w (message_at w.messages number) (event_follows w (Delivers number) t.follows) t
event_in_order w (Cuts number length) law t = t
event_in_order w Restarts_provider law t = t
event_in_order w Restarts_connector law t = record {
  follows = event_follows w Restarts_connector t.follows;
  within = λ q k is. reopened_within (w.book q) k (t.within q) is;
  lawful = t.lawful;
  members = t.members;
  whole = t.whole;
}
event_in_order w (Doubts name) law t = record {
  follows = event_follows w (Doubts name) t.follows;
  within = λ q k is. doubted_within (same_name name q) (w.book q) k (t.within q) is;
  lawful = t.lawful;
  members = t.members;
  whole = t.whole;
}

pub act_in_order : (w : World) (act : Act) → IsLawfulAct act → IsInOrder w → IsInOrder (acts w act)
act_in_order w (Ours event) law t = event_in_order w event law t
act_in_order w (Theirs request) law t =
    record { follows = t.follows; within = t.within; lawful = t.lawful; members = t.members; whole = tables_stay_whole w.entries request t.whole }

pub run_in_order : (w : World) (later : List Act) → AllByRecursion IsLawfulAct later → IsInOrder w → IsInOrder (run_among w later)
run_in_order w [] law t = t
run_in_order w (act ∷ later) law t = run_in_order (acts w act) later law.1 (act_in_order w act law.0 t)

-- nothing at all is a start
pub empty_is_start : IsStart empty
empty_is_start = record {
  in_order = record {
    follows = λ name. refl;
    within = λ name known is. absurd (cc);
    lawful = λ row has. absurd (cc has.1);
    members = tt;
    whole = record { named = λ i j e c at held. absurd (cc); distinct = λ i j d e at_d at_e same. absurd (cc) };
  };
  ids = λ name known id is. absurd (cc);
  unseen = λ name known is. absurd (cc);
  unsent = refl;
}
