-- What is read of a first part of a message.
use Rattle.std.proofs.Common.{◌≡◌, ℕ, zero, suc, inl, inr, Bool, true, false, List, [], ◌∷◌, ◌++◌, Option, Some, None, refl, ap, sym, subst, ◌∙◌, append_assoc}
use Rattle.std.proofs.lemmas.List.{append-nil}
use Rattle.std.specs.Io.KnownBytes.{Consumes}
use Rattle.scim_message.specs.Bodies.{body_text}
use Rattle.scim_message.specs.declared.messages.Answer.{Answer}
use Rattle.http_text.specs.Forms.{AfterInterims, IsFinalResponse, IsMessage, IsOneResponse, IsRequestMessage, IsResponseMessage, interim_limit, request_form, response_form}
use Rattle.http_text.specs.Message.{Message}
use Rattle.http_text.specs.Requests.{TakesMessage}
use Rattle.http_text.specs.Responses.{TakesResponse}
use Rattle.http_text.proofs.FormLaws.{request_laws, response_laws}
use Rattle.http_text.proofs.InterimLemmas.{responses_apart}
use Rattle.http_text.proofs.MessageLemmas.{messages_same}
use Rattle.scim_http.specs.Replies.{answer_text}
use Rattle.world_model.specs.Safe.{IsPrefixOf}
use Rattle.promise.specs.Traces.{IsAtFront}

pub part_of_part : (a b c : List ℕ) → IsPrefixOf a b → IsPrefixOf b c → IsPrefixOf a c
part_of_part a b c p q = (p.0 ++ q.0, q.1 ∙ ap (λ (l : List ℕ). l ++ q.0) p.1 ∙ append_assoc a p.0 q.0)

module _ (came text : List ℕ) (left : Option (List ℕ)) (m : Message) (part : IsPrefixOf came text) where
  taken_front : (bytes rest : List ℕ) → came ≡ bytes ++ rest → IsPrefixOf bytes text
  taken_front bytes rest split = part_of_part bytes came text (rest, split) part

  -- a message that is taken from a first part of some bytes is at the front of these
  pub taken_request : TakesMessage (Some came) left m → IsAtFront IsRequestMessage text m
  taken_request takes = go left takes.1
    where
      go : (o : Option (List ℕ)) → Consumes (Some came) o takes.0 → IsAtFront IsRequestMessage text m
      go None c = absurd c
      go (Some rest) c = (takes.0, takes.2, taken_front takes.0 rest c)

  pub taken_response : TakesResponse (Some came) left m → IsAtFront IsResponseMessage text m
  taken_response takes = go left takes.1
    where
      go : (o : Option (List ℕ)) → Consumes (Some came) o takes.0 → IsAtFront IsResponseMessage text m
      go None c = absurd c
      go (Some rest) c = (takes.0, takes.2, taken_front takes.0 rest c)

first_empty : (xs ys : List ℕ) → xs ++ ys ≡ [] → xs ≡ []
first_empty [] ys e = refl
first_empty (x ∷ xs) ys e = absurd (cc e)

-- no response is taken from no bytes
no_stated : (bytes : List ℕ) (m : Message) → bytes ≡ [] → IsMessage response_form bytes m → ⊥
no_stated bytes m none is =
    let front : is.front ≡ [] = first_empty is.front m.body (sym is.split ∙ none) in
    response_laws.undecided.none is.head.tree [] (subst (λ (b : List ℕ). response_form.Reads b is.head.tree []) front is.head.reads)

no_response : (bytes : List ℕ) (m : Message) → bytes ≡ [] → IsOneResponse bytes m → ⊥
no_response bytes m none is = no_stated is.front is.stated (first_empty is.front is.behind (sym is.split ∙ none)) is.is_message

no_message : (room : ℕ) (bytes : List ℕ) (m : Message) → bytes ≡ [] → AfterInterims room (IsFinalResponse m) bytes → ⊥
no_message zero bytes m none is = no_response bytes m none is.0
no_message (suc room) bytes m none is = elim is [
  | inl here ↦ no_response bytes m none here.0
  | inr after ↦ no_response after.0 after.2.message (first_empty after.0 after.1 (sym after.3 ∙ none)) after.2.is
]

pub none_taken : (left : Option (List ℕ)) (m : Message) → TakesResponse (Some []) left m → ⊥
none_taken left m takes = go left takes.1
  where
    go : (o : Option (List ℕ)) → Consumes (Some []) o takes.0 → ⊥
    go None c = c
    go (Some rest) c = no_message interim_limit takes.0 m (first_empty takes.0 rest (sym c)) takes.2

-- a message at the front of the text of a message is that message
pub one_request_message : (text : List ℕ) (m n : Message) → IsAtFront IsRequestMessage text m → IsMessage request_form text n → m ≡ n
one_request_message text m n front is = (messages_same request_form request_laws front.0 front.2.0 text [] m n (sym front.2.1 ∙ sym (append-nil text)) front.1 is).2

pub one_response_message : (text : List ℕ) (m n : Message) → IsAtFront IsResponseMessage text m → IsResponseMessage text n → m ≡ n
one_response_message text m n front is =
    (responses_apart front.0 front.2.0 m n front.1 (subst (λ (b : List ℕ). IsResponseMessage b n) front.2.1 is)).0

-- without its body, a reply is a first part of the whole
pub without_body : (base : List ℕ) (leaves_out : Bool) (answer : Answer) → IsPrefixOf (answer_text base leaves_out answer) (answer_text base false answer)
without_body base false answer = ([], sym (append-nil (answer_text base false answer)))
without_body base true answer = (body_text base answer, ap (λ (l : List ℕ). l ++ body_text base answer) (sym (append-nil _)))
