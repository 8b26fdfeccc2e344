-- What an exchange for a record leads to: the connector learns what the reply says about the record, and nothing about
-- others.
use Rattle.std.proofs.Common.{◌≡◌, suc, length, Option, Some, None, Result, Ok, Err, IsOk, refl, ap, ◌∙◌, subst}
use Rattle.scim_key.specs.Outcome.{◌>>=◌}
use Rattle.scim_key.specs.declared.records.RecordName.{RecordName}
use Rattle.scim_version.specs.declared.conditions.Condition.{Condition}
use Rattle.scim_resource.specs.Contents.{content_name}
use Rattle.scim_resource.specs.declared.contents.Content.{Content}
use Rattle.scim_resource.specs.Rows.{ShownRecord}
use Rattle.scim_message.specs.declared.messages.Answer.{Answer}
use Rattle.scim_message.specs.declared.messages.Request.{Request}
use Rattle.provider_core.specs.Stories.{step}
use Rattle.connector_core.specs.Asking.{asking}
use Rattle.connector_core.specs.Book.{Book, put}
use Rattle.connector_core.proofs.Standing as standing
use Rattle.connector_core.specs.Keeps.{carried, heard, lesson_at, shown_with}
use Rattle.connector_core.specs.declared.keeps.Keeps.{Keeps}
use Rattle.connector_core.specs.declared.keeps.Keeps.TheVariants.{Revisions, Versions}
use Rattle.connector_core.specs.Learning.{Finding, Shows, Shows_none, Taken, Stale, Lesson, none_sighted, forgetting, is_absent, is_under, finding, subject, noted, learn, after_learning}
use Rattle.connector_core.specs.declared.asking.Ask.TheVariants.{Send}
use Rattle.connector_core.specs.declared.knowledge.Known.{Known}
use Rattle.connector_core.specs.declared.learning.LearnFault.{LearnFault}
use Rattle.world_model.specs.World.{World, Sends, Delivers}
use Rattle.world_model.specs.Providers.{answered, happens_at}
use Rattle.world_model.specs.Settled.{Wants}
use Rattle.world_model.proofs.Exchanging.{answer_to, exchange_of, replied_at, sent_is_at, after_exchange}
use Rattle.world_model.proofs.Hearing.{hearing, hears, answered_said, says_answered, carried_shown, answered_truly}
use Rattle.world_model.proofs.Invariant.{of_ours_inv_at}
use Rattle.world_model.proofs.Learned.{LearnsShown, learns_at, taught, shows_first}
use Rattle.world_model.proofs.Learning.{answered_ok}
use Rattle.world_model.specs.Invariant.{Names, InvariantAt, StandsAt}

-- what is said about a record is learnt about it
pub learn_is : (book : Book) (request : Request) (answer : Answer) (name : RecordName) (known : Known) (said : Finding) → subject request ≡ Some name → book name ≡ Some known
    → finding request answer ≡ Ok said → learn book request answer ≡ taught book name known said
learn_is book request answer name known said about in_book says = standing.learn_is Revisions book request answer name known said about in_book says

-- what shows no resource says the same with each kind of provider
pub misses_at : (keeps : Keeps) (book : Book) (name : RecordName) (known : Known) (o : Option Content) → lesson_at keeps book name known o (answered_said keeps Shows_none) ≡ Ok (none_sighted known.id known)
misses_at Revisions book name known o = refl
misses_at Versions book name known o = refl

pub taken_at : (keeps : Keeps) (book : Book) (name : RecordName) (known : Known) (o : Option Content) → lesson_at keeps book name known o (answered_said keeps Taken) ≡ Ok (forgetting (is_absent known.seen) known)
taken_at Revisions book name known o = refl
taken_at Versions book name known o = refl

pub stale_at : (keeps : Keeps) (book : Book) (name : RecordName) (known : Known) (o : Option Content) (if_match : Condition)
    → lesson_at keeps book name known o (answered_said keeps (Stale if_match)) ≡ Ok (forgetting (is_under if_match known.seen) known)
stale_at Revisions book name known o if_match = refl
stale_at Versions book name known o if_match = refl

ok_is : {A : Type 0} (r : Result A LearnFault) → IsOk r → (x : A) × (r ≡ Ok x)
ok_is (Ok x) ok = (x, refl)
ok_is (Err fault) ok = absurd (cc)

-- after an exchange for the record in which this request was sent, this is known of it
pub record Leads (keeps : Keeps) (w : World) (name : RecordName) (request : Request) (now : Known) : Type 0 where
  pub wants : Wants w name
  pub book : (exchange_of keeps w name).book ≡ put w.book name now
  pub history : (exchange_of keeps w name).history ≡ w.history
  pub entries : (exchange_of keeps w name).entries ≡ (step w.entries request).entries

module _ (keeps : Keeps) (w : World) (name : RecordName) (known : Known) (request : Request) (said : Finding)
    (asks : asking w.book name ≡ Some (Send request)) (about : subject request ≡ Some name) (in_book : w.book name ≡ Some known) (says : finding request (answer_to w request) ≡ Ok said) where
  pub leads_to : (l : Lesson) → lesson_at keeps w.book name known (carried request) (answered_said keeps said) ≡ Ok l → Leads keeps w name request l.known
  leads_to l is = record {
    wants = (request, asks);
    book = ap (λ (u : World). u.book) (after_exchange w name request asks keeps)
        ∙ ap (after_learning w.book)
        (standing.learn_is keeps w.book request (answered keeps (answer_to w request)) name known (answered_said keeps said) about in_book (says_answered keeps request (answer_to w request) said says))
        ∙ ap (λ (r : Result Lesson LearnFault). after_learning w.book (r >>= λ l. Ok (noted w.book name l))) is;
    history = ap (λ (u : World). u.history) (after_exchange w name request asks keeps);
    entries = ap (λ (u : World). u.entries) (after_exchange w name request asks keeps);
  }

-- what is learnt from a shown resource
pub record Sees (keeps : Keeps) (w : World) (name : RecordName) (known : Known) (request : Request) (s : ShownRecord) : Type 0 where
  pub lesson : Lesson
  pub learns : LearnsShown keeps w.book name known (hearing keeps request s) lesson
  pub leads : Leads keeps w name request lesson.known

module _ (keeps : Keeps) {ours : Names} (w : World) (inv : InvariantAt keeps ours w) (name : RecordName) (known : Known) (request : Request) (s : ShownRecord)
    (asks : asking w.book name ≡ Some (Send request)) (about : subject request ≡ Some name) (in_book : w.book name ≡ Some known) (says : finding request (answer_to w request) ≡ Ok (Shows s))
    (named : content_name (hearing keeps request s).content ≡ name) where
  -- the world when the reply was given
  replied_inv : InvariantAt keeps ours (replied_at keeps w request)
  replied_inv = subst (λ (u : World). InvariantAt keeps ours u) (sent_is_at w name request asks keeps)
      (of_ours_inv_at keeps (happens_at keeps w (Sends name)) (Delivers (suc (length w.messages))) tt (of_ours_inv_at keeps w (Sends name) tt inv))

  its_stands : StandsAt keeps (step w.entries request).entries (hearing keeps request s)
  its_stands = answered_truly keeps w.entries request 0 (hearing keeps request s)
      (shows_first request (heard keeps request (answered keeps (answer_to w request))) (hearing keeps request s) (hears keeps request (answer_to w request) (Shows s) says))

  learns_in : (kind : Keeps) (l : Lesson) → lesson_at kind w.book name known (carried request) (answered_said kind (Shows s)) ≡ Ok l → LearnsShown kind w.book name known (hearing kind request s) l
  learns_in Revisions l is = learns_at w.book name known Revisions request s l is
  learns_in Versions l is = learns_at w.book name known Versions request (shown_with None s) l is

  pub seen_in : Sees keeps w name known request s
  seen_in =
      let written = λ (c : Content) (has : carried request ≡ Some c). carried_shown w.entries request c has 0 s (shows_first request (answer_to w request) s says) in
      let (l, is) = ok_is (lesson_at keeps w.book name known (carried request) (answered_said keeps (Shows s)))
      (answered_ok (replied_at keeps w request) replied_inv name known in_book keeps request s its_stands named written) in
      record {
        lesson = l;
        learns = learns_in keeps l is;
        leads = leads_to keeps w name known request (Shows s) asks about in_book says l is;
      }
