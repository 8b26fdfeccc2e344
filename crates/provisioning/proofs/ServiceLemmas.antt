-- A request whose revision, or whose conditions, were taken out and put back; and what is learnt from an answer as it is taken.
use Rattle.std.proofs.Common.{◌≡◌, Bool, true, false, Option, None, Result, Ok, Err, inl, refl, ap, sym, subst}
use Rattle.scim_resource.specs.Contents.{content_revision, content_with}
use Rattle.scim_resource.specs.declared.contents.Content.{Content}
use Rattle.scim_resource.specs.declared.contents.Content.TheVariants.{User, Group}
use Rattle.scim_version.specs.declared.conditions.Condition.{Condition}
use Rattle.scim_version.specs.declared.conditions.Condition.TheVariants.{Always}
use Rattle.scim_message.specs.Messages.{request_revision, request_under, request_with}
use Rattle.scim_message.specs.declared.messages.Request.{Request}
use Rattle.scim_message.specs.declared.messages.Request.TheVariants.{Create, Retrieve, Search, Replace}
use Rattle.scim_message.specs.declared.messages.Answer.{Answer}
use Rattle.journal_core.specs.declared.journals.Journal.{Ghosts}
use Rattle.connector_core.proofs.Writing.{refused-by}
use Rattle.connector_core.specs.Maps.{book_of}
use Rattle.connector_core.specs.Noting.{CountsLearn, note_at, noted_entries}
use Rattle.connector_core.specs.State.{State}
use Rattle.connector_core.specs.declared.learning.LearnFault.TheVariants as faults
use Rattle.provisioning.specs.Exchanges.{IsTaken, IsTaught, Learns, answered}
use Rattle.provisioning.specs.Services.{Service, conditioned, kept_for, taken_from, written_for}
use Rattle.provisioning.specs.declared.faults.RecordFault.{RecordFault}
use Rattle.provisioning.specs.declared.faults.RunFault.{RunFault}
use Rattle.provisioning.specs.declared.faults.RunFault.TheVariants.{Memory}

content_again : (c : Content) → content_with (content_revision c) (content_with None c) ≡ c
content_again (User u) = refl
content_again (Group g) = refl

pub request_again : (request : Request) → request_with (request_revision request) (request_with None request) ≡ request
request_again (Create c) = ap Create (content_again c)
request_again (Retrieve kind id m n) = refl
request_again (Search kind wanted start count) = refl
request_again (Replace id c m n) = ap (λ (x : Content). Replace id x m n) (content_again c)

pub conditions_again : (m n : Condition) (request : Request) → request_under m n (request_under Always Always request) ≡ request_under m n request
conditions_again m n (Create c) = refl
conditions_again m n (Retrieve kind id p q) = refl
conditions_again m n (Search kind wanted start count) = refl
conditions_again m n (Replace id c p q) = refl

-- ---- as it is written

pub written_as_kept : (service : Service) (request : Request) → service.is_versioned ≡ true → kept_for service.keeps request ≡ written_for service request
written_as_kept service request is = ap (λ (b : Bool). kept_for service.keeps (conditioned b request)) (sym is)

pub written_bare : (service : Service) (request : Request) → service.is_versioned ≡ false → kept_for service.keeps (request_under Always Always request) ≡ written_for service request
written_bare service request is = ap (λ (b : Bool). kept_for service.keeps (conditioned b request)) (sym is)

-- ---- as it is taken

pub takes_answer : {J : Type 0} (g : Ghosts J) (service : Service) (request : Request) (answer taken : Answer) (old new : State J) (result : Result (Option RecordFault) RunFault)
    → taken ≡ taken_from service.is_versioned answer → IsTaught g service.keeps request taken old new result → IsTaken g service request (Ok answer) old new result
takes_answer g service request answer taken old new result is taught = record {
  came = answered answer taught.learnt;
  answer_is = refl;
  becomes = subst (λ (a : Answer). Learns g service.keeps request a taught.learnt old new) is taught.learns;
  result_is = taught.result_is;
}

-- if memory runs out before, nothing is learnt
pub takes_none : {J : Type 0} (g : Ghosts J) (service : Service) (request : Request) (answer : Answer) (s : State J) → IsTaken g service request (Ok answer) s s (Err Memory)
takes_none {J} g service request answer s = record {
  came = answered answer (Err faults.Memory);
  answer_is = refl;
  becomes = record {
    learnt = inl tt;
    ok = tt;
    err = refl;
    names = refl;
    journal = refused-by g CountsLearn s.journal (noted_entries (g.entries s.journal) (note_at service.keeps (book_of s.book) request (taken_from service.is_versioned answer))) faults.Memory refl;
    quiet = λ _. refl;
    leaves = λ honest held. record { done = tt; failed = λ found may. inl (held found may) };
  };
  result_is = refl;
}
