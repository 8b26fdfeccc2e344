-- Where no revision is shown, only an answer to a Create or a Replace that shows what was asked confirms.
use Rattle.std.proofs.Common.{◌≡◌, ℕ, zero, suc, Bool, true, false, cond, List, [], ◌∷◌, Option, Some, None, Result, Ok, Err, ◌⊎◌, inl, inr, refl, ap, sym, ◌∙◌, subst}
use Rattle.std.proofs.lemmas.Bool.{and_parts, cases_Bool}
use Rattle.scim_key.proofs.RecordLaws.{same as same_names}
use Rattle.scim_key.proofs.RevisionLaws.{later_is_one}
use Rattle.scim_key.specs.Revisions.{RevisionValue, later}
use Rattle.scim_key.specs.declared.records.RecordName.{RecordName}
use Rattle.scim_resource.specs.Contents.{content_name, content_revision}
use Rattle.scim_resource.specs.Rows.{ShownRecord, shown_under}
use Rattle.scim_resource.specs.declared.contents.Content.{Content}
use Rattle.scim_message.specs.declared.messages.Request.{Request}
use Rattle.scim_message.specs.declared.messages.Request.TheVariants.{Create, Retrieve, Search, Replace}
use Rattle.scim_message.specs.declared.messages.Answer.{Answer}
use Rattle.scim_message.specs.declared.messages.Answer.TheVariants.{Created, Found, Replaced, NotModified, Error}
use Rattle.scim_message.specs.declared.messages.Answer.TheVariants as answers
use Rattle.provider_core.specs.Tables.{shown_in}
use Rattle.source_csv.specs.Records.{row_revision}
use Rattle.comparing.specs.Aspects.{is_active, same_flag}
use Rattle.connector_core.specs.History.{same_name}
use Rattle.connector_core.specs.Book.{Book, confirmed_if, confirmed_of, put}
use Rattle.connector_core.proofs.Standing.{was_asked, was_seen}
use Rattle.connector_core.specs.Keeps.{asked_lesson, carried, learn_at, lesson_at, no_version, says, standing_for}
use Rattle.connector_core.specs.declared.keeps.Keeps.TheVariants.{Versions}
use Rattle.connector_core.specs.Learning.{Finding, Shows, Shows_none, Taken, Stale, Lesson, Learning, absent, nothing_new, none_sighted, forgetting, is_absent, is_under, finding, subject, after_learning}
use Rattle.connector_core.specs.declared.knowledge.Known.{Known}
use Rattle.connector_core.specs.declared.learning.LearnFault.{LearnFault}
use Rattle.world_model.specs.Safe.{IsAt, Has}
use Rattle.world_model.specs.Untroubled.{request_content}
use Rattle.world_model.specs.Providers.{WasAsked, OnlyAnswersConfirm}
use Rattle.world_model.proofs.Comparing.{wanted_revised}
use Rattle.world_model.proofs.Learned.{LearnsShown, LearnsShown.sees, LearnsShown.agrees, LearnsShown.differs, LearnsShown.only, LearnsShown.hides, asked_shown, learnt_by}

-- ---- what leaves the confirmed revision

none_sighted_confirmed : (id : Option (List ℕ)) (known : Known) → (none_sighted id known).known.confirmed ≡ known.confirmed
none_sighted_confirmed None known = refl
none_sighted_confirmed (Some id) known = go known.is_doubted
  where
    go : (doubted : Bool) → (cond doubted (absent known) (nothing_new known)).known.confirmed ≡ known.confirmed
    go true = refl
    go false = refl

forgetting_confirmed : (concerned : Bool) (known : Known) → (forgetting concerned known).known.confirmed ≡ known.confirmed
forgetting_confirmed true known = refl
forgetting_confirmed false known = refl

-- ---- what was asked

flags_same : (a b : Bool) → same_flag a b ≡ true → b ≡ a
flags_same true true is = refl
flags_same true false is = absurd (cc)
flags_same false true is = absurd (cc)
flags_same false false is = refl

same_some : (a b : RecordName) → Some a ≡ Some b → a ≡ b
same_some a b is = cc

has_only : (x s : ShownRecord) (i : ℕ) → IsAt (x ∷ []) i s → x ≡ s
has_only x s zero at = cc
has_only x s (suc i) at = absurd (cc)

-- whatever an answer shows of what was written is what it is taken to show
shows_alone : (request : Request) (c : Content) (answer : Answer) (x s : ShownRecord) → carried request ≡ Some c → finding request answer ≡ Ok (Shows x) → Has (shown_in answer) s → x ≡ s
shows_alone (Create content) c (Created y) x s has says is = let same : y ≡ x = cc in sym same ∙ has_only y s is.0 is.1
shows_alone (Create content) c (Found y) x s has says is = absurd (cc)
shows_alone (Create content) c (Replaced y) x s has says is = absurd (cc)
shows_alone (Create content) c (answers.List list) x s has says is = absurd (cc)
shows_alone (Create content) c (NotModified kind id version) x s has says is = absurd (cc)
shows_alone (Create content) c (Error error) x s has says is = absurd (cc is.1)
shows_alone (Retrieve kind id m n) c answer x s has says is = absurd (cc)
shows_alone (Search kind wanted start count) c answer x s has says is = absurd (cc)
shows_alone (Replace id content m n) c (Created y) x s has says is = absurd (cc)
shows_alone (Replace id content m n) c (Found y) x s has says is = absurd (cc)
shows_alone (Replace id content m n) c (Replaced y) x s has says is = let same : y ≡ x = cc in sym same ∙ has_only y s is.0 is.1
shows_alone (Replace id content m n) c (answers.List list) x s has says is = absurd (cc)
shows_alone (Replace id content m n) c (NotModified kind i version) x s has says is = absurd (cc)
shows_alone (Replace id content m n) c (Error error) x s has says is = absurd (cc is.1)

-- the content of a request is of the record that it is about
carries_subject : (request : Request) (name : RecordName) → subject request ≡ Some name → (content : Content) → carried request ≡ Some content → content_name content ≡ name
carries_subject (Create c) name about content is = let same : c ≡ content = cc in same_some (content_name content) name (ap (λ (x : Content). Some (content_name x)) (sym same) ∙ about)
carries_subject (Retrieve kind id m n) name about content is = absurd (cc)
carries_subject (Search kind wanted start count) name about content is = absurd (cc)
carries_subject (Replace id c m n) name about content is = let same : c ≡ content = cc in same_some (content_name content) name (ap (λ (x : Content). Some (content_name x)) (sym same) ∙ about)

carries : (request : Request) → request_content request ≡ carried request
carries (Create c) = refl
carries (Retrieve kind id m n) = refl
carries (Search kind wanted start count) = refl
carries (Replace id c m n) = refl

module _ (book : Book) (request : Request) (answer : Answer) (name : RecordName) (known : Known) (about : subject request ≡ Some name) where
  -- the confirmed revision afterwards
  abbrev Outcome : RevisionValue → Type 0
  Outcome now = (now ≡ known.confirmed) ⊎ WasAsked request answer name now

  -- what was asked may be confirmed
  module _ (c : Content) (has : carried request ≡ Some c) (x : ShownRecord) (shown : finding request answer ≡ Ok (Shows x)) (test : says name c x ≡ true) where
    what_was_asked : (r : RevisionValue) → content_revision c ≡ Some r → WasAsked request answer name r
    what_was_asked r at_revision = record {
      content = c;
      carried = carries request ∙ has;
      of_record = carries_subject request name about c has;
      at_revision = at_revision;
      shown = λ s has_s.
          let same = shows_alone request c answer x s has shown has_s in
          let tests = and_parts (same_name name (content_name x.content)) (same_flag (is_active c) (is_active x.content)) test in (
            ap (λ (t : ShownRecord). content_name t.content) (sym same) ∙ sym ((same_names name (content_name x.content)).0 tests.0),
            ap (λ (t : ShownRecord). is_active t.content) (sym same) ∙ flags_same (is_active c) (is_active x.content) tests.1,
          );
    }

    later_outcome : (r : RevisionValue) → content_revision c ≡ Some r → Outcome (later known.confirmed r)
    later_outcome r at_revision = elim (later_is_one known.confirmed r) [
      | inl first ↦ inl first
      | inr second ↦ inr (subst (λ (v : RevisionValue). WasAsked request answer name v) (sym second) (what_was_asked r at_revision))
    ]

    standing_outcome : (s : ShownRecord) {l : Lesson} → s.content ≡ c → LearnsShown Versions book name known s l → Outcome l.known.confirmed
    standing_outcome s same (sees sight fits) = later_outcome sight.revision (ap content_revision (sym same) ∙ fits.revision)
    standing_outcome s same (agrees tag wanted tagged) =
        later_outcome (row_revision known.wanted) (ap content_revision (sym same) ∙ wanted_revised book known s.content wanted)
    standing_outcome s same (differs sight d) = inl refl
    standing_outcome s same (only tag o) = inl refl
    standing_outcome s same (hides u learns) = standing_outcome (shown_under no_version s) same learns

  asked_outcome : (l : Lesson) (c : Content) (x : ShownRecord) → carried request ≡ Some c → finding request answer ≡ Ok (Shows x) → asked_lesson book name known c x ≡ Ok l → Outcome l.known.confirmed
  asked_outcome l c x has shown is =
      standing_outcome c has x shown (was_asked book name known l c x is).0 (standing_for c x) refl (asked_shown book name known c x l is)

  shown_outcome : (l : Lesson) (x : ShownRecord) (o : Option Content) → carried request ≡ o → finding request answer ≡ Ok (Shows x) → lesson_at Versions book name known o (Shows x) ≡ Ok l → Outcome l.known.confirmed
  shown_outcome l x None has shown is = let (seen, made) = was_seen name known x l is in inl (ap (λ (y : Lesson). y.known.confirmed) made)
  shown_outcome l x (Some c) has shown is = asked_outcome l c x has shown is

  same_confirmed : (a l : Lesson) → a ≡ l → a.known.confirmed ≡ known.confirmed → Outcome l.known.confirmed
  same_confirmed a l same stays = inl (ap (λ (x : Lesson). x.known.confirmed) (sym same) ∙ stays)

  lesson_outcome : (l : Lesson) (found : Finding) → finding request answer ≡ Ok found → lesson_at Versions book name known (carried request) found ≡ Ok l → Outcome l.known.confirmed
  lesson_outcome l (Shows x) finds is = shown_outcome l x (carried request) refl finds is
  lesson_outcome l Shows_none finds is = same_confirmed (none_sighted known.id known) l (cc) (none_sighted_confirmed known.id known)
  lesson_outcome l Taken finds is = same_confirmed (forgetting (is_absent known.seen) known) l (cc) (forgetting_confirmed (is_absent known.seen) known)
  lesson_outcome l (Stale if_match) finds is = same_confirmed (forgetting (is_under if_match known.seen) known) l (cc) (forgetting_confirmed (is_under if_match known.seen) known)

module _ (book : Book) (request : Request) (answer : Answer) (name : RecordName) where
  abbrev After : Book → Type 0
  After now = (confirmed_of now name ≡ confirmed_of book name) ⊎ WasAsked request answer name (confirmed_of now name)

  learnt_outcome : After (after_learning book (learn_at Versions book request answer))
  learnt_outcome = go (learn_at Versions book request answer) refl
    where
      go : (r : Result Learning LearnFault) → learn_at Versions book request answer ≡ r → After (after_learning book r)
      go (Err fault) is = inl refl
      go (Ok learning) is =
          let t = learnt_by Versions book request answer learning is in
          subst After (sym t.book_after) (elim (cases_Bool (same_name t.name name)) [
            | inl same ↦
                let its : t.name ≡ name = (same_names t.name name).0 same in
                let now : confirmed_of (put book t.name t.teaches.known) name ≡ t.teaches.known.confirmed = rw same refl in
                let before : confirmed_of book name ≡ t.known.confirmed = ap (confirmed_of book) (sym its) ∙ ap confirmed_if t.in_book in
                elim (lesson_outcome book request answer t.name t.known t.about t.teaches t.found t.finds t.taught_by) [
                  | inl kept ↦ inl (now ∙ kept ∙ sym before)
                  | inr asked ↦ inr (subst (λ (r : RevisionValue). WasAsked request answer name r) (sym now) (subst (λ (n : RecordName). WasAsked request answer n t.teaches.known.confirmed) its asked))
                ]
            | inr other ↦ inl (rw other refl)
          ])

pub only_answers_confirm : OnlyAnswersConfirm
only_answers_confirm book request answer name = learnt_outcome book request answer name
