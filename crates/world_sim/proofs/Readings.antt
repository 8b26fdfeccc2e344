-- What bytes are read as, and that no first part of a message is read.
use Rattle.std.proofs.Common.{◌≡◌, ℕ, ◌<◌, inl, inr, List, [], ◌++◌, length, take, drop, Result, Ok, Err, refl, ap, sym, ◌∙◌, subst, arith, length-drop}
use Rattle.std.specs.Prelude.{Bool, false, is_ok, IfOk}
use Rattle.std.proofs.lemmas.List.{take-append-drop}
use Rattle.scim_message.specs.declared.messages.Answer.{Answer}
use Rattle.scim_message.specs.declared.messages.Request.{Request}
use Rattle.scim_message.specs.declared.refusals.Refusal.{Refusal}
use Rattle.http_text.specs.Message.{Message as Incoming}
use Rattle.http_text.specs.Forms.{request_form}
use Rattle.http_text.specs.Wholes.{IsNoRequest, IsOneRequest}
use Rattle.http_text.proofs.FormLaws.{request_laws}
use Rattle.http_text.proofs.InterimLemmas.{responses_apart}
use Rattle.http_text.proofs.MessageLemmas.{messages_same, messages_apart}
use Rattle.scim_http.specs.Meaning.{Asks}
use Rattle.scim_http.proofs.MeaningLaws.{one_meaning}
use Rattle.scim_client.specs.declared.answers.AnswerFault.{AnswerFault}
use Rattle.scim_client.specs.declared.answers.AnswerFault.TheVariants.{NotOneResponse, NotJson, WrongShape, OutOfMemory}
use Rattle.scim_client.specs.Answers.{AnswersSo, IsOrMemory as IsAnswerOrMemory}
use Rattle.scim_client.specs.Spelling.{SpellsRequest}
use Rattle.scim_client.proofs.RequestLaws.{one_request}
use Rattle.world_model.specs.World.{Message}
use Rattle.world_sim.specs.Reading.{IsReadAs, IsOrMemory, MeansSo, reading_fault}
use Rattle.world_sim.specs.declared.reading.ReadingFault.{ReadingFault}
use Rattle.world_sim.specs.declared.reading.ReadingFault.TheVariants.{Unread, Memory}

abbrev pub told : Result Answer AnswerFault → Result Answer ReadingFault
told (Ok answer) = Ok answer
told (Err fault) = Err (reading_fault fault)

-- the reading is the only one that is possible
pub one_read : {X : Type 0} (x y : X) → IsOrMemory x (Ok y) → y ≡ x
one_read x y is = elim is [
  | inl same ↦ cc same
  | inr none ↦ absurd (cc none)
]

-- and something is read
pub no_unread : {X : Type 0} (x : X) → IsOrMemory x (Err Unread) → ⊥
no_unread x is = elim is [
  | inl same ↦ absurd (cc same)
  | inr none ↦ absurd (cc none)
]

-- what the client reads of bytes, or out of memory
pub answered_only : (r : Result Answer AnswerFault) (answer : Answer) → IsAnswerOrMemory (Ok answer) r → IsOrMemory answer (told r)
answered_only (Ok other) answer is = elim is [
  | inl same ↦ inl (let e : other ≡ answer = cc same in ap Ok e)
  | inr none ↦ absurd (cc none)
]
answered_only (Err NotOneResponse) answer is = elim is [
  | inl same ↦ absurd (cc same)
  | inr none ↦ absurd (cc none)
]
answered_only (Err NotJson) answer is = elim is [
  | inl same ↦ absurd (cc same)
  | inr none ↦ absurd (cc none)
]
answered_only (Err WrongShape) answer is = elim is [
  | inl same ↦ absurd (cc same)
  | inr none ↦ absurd (cc none)
]
answered_only (Err OutOfMemory) answer is = inr refl

-- what isn't read
unread : {X F : Type 0} (read : Result X ReadingFault) (found : Result Bool F) → ((x : X) → read ≡ Ok x → ⊥) → IfOk found (λ is. is ≡ is_ok read) → IfOk found (λ is. is ≡ false)
unread (Ok x) found none is = absurd (none x refl)
unread (Err fault) found none is = is

-- what a first part of a whole message is read as
pub cut_read : (bytes : List ℕ) (n : ℕ) (front : List ℕ) (message : Message) → n < length bytes → front ≡ take n bytes → (P : Type 0)
    → ((more : List ℕ) → 0 < length more → IsReadAs (front ++ more) message → P) → IsReadAs bytes message → P
cut_read bytes n front message less is P cuts reads =
    let whole : bytes ≡ front ++ drop n bytes = sym (ap (λ (t : List ℕ). t ++ drop n bytes) is ∙ take-append-drop n bytes) in
    cuts (drop n bytes) (omega (arith, length-drop n bytes, less)) (subst (λ (t : List ℕ). IsReadAs t message) whole reads)

module _ (bytes : List ℕ) where
  -- what the one request of the bytes asks for
  pub asked_ok : (m : Incoming) → IsOneRequest bytes m → (r : Result Request ReadingFault) → MeansSo m r → IfOk r (SpellsRequest bytes)
  asked_ok m is (Ok request) means = record { message = m; is = is.0; accepted = is.1; asks = means }
  asked_ok m is (Err fault) means = tt

  pub asked_only : (m : Incoming) → IsOneRequest bytes m → (r : Result Request ReadingFault) → MeansSo m r → (request : Request) → SpellsRequest bytes request → IsOrMemory request r
  asked_only m is (Ok other) means request spells =
      inl (ap Ok (one_request bytes other request (record { message = m; is = is.0; accepted = is.1; asks = means }) spells))
  asked_only m is (Err Unread) means request spells =
      let same = messages_same request_form request_laws bytes [] bytes [] m spells.message refl is.0 spells.is in
      let asks : Asks m (Ok request) = subst (λ (k : Incoming). Asks k (Ok request)) (sym same.2) spells.asks in
      let e : ◌≡◌ {A = Result Request Refusal} (Ok request) (Err means.0) = one_meaning m (Ok request) (Err means.0) asks means.1 in absurd (cc)
  asked_only m is (Err Memory) means request spells = inr refl

  pub none_asked : IsNoRequest bytes → (request : Request) → SpellsRequest bytes request → ⊥
  none_asked none request spells = none spells.message (spells.is, spells.accepted)

  module _ (more : List ℕ) (some : 0 < length more) where
    -- no first part of a request is one, and none of an answer an answer
    no_request_cut : (one two : Request) → SpellsRequest bytes one → SpellsRequest (bytes ++ more) two → ⊥
    no_request_cut one two part whole =
        let apart = messages_apart request_form request_laws bytes more part.message whole.message part.is whole.is in
        let none : length more ≡ 0 = ap length apart.1 in
        omega (arith, some, none)

    no_answer_cut : (request : Request) (one two : Answer) → AnswersSo bytes request one → AnswersSo (bytes ++ more) request two → ⊥
    no_answer_cut request one two part whole =
        let apart = responses_apart bytes more part.message whole.message part.is_message whole.is_message in
        let none : length more ≡ 0 = ap length apart.1 in
        omega (arith, some, none)

    -- and so none is read
    pub request_unread : {F : Type 0} (read : Result Request ReadingFault) (found : Result Bool F) (request : Request) → IfOk read (SpellsRequest bytes) → IfOk found (λ is. is ≡ is_ok read)
        → SpellsRequest (bytes ++ more) request → IfOk found (λ is. is ≡ false)
    request_unread read found request ok is whole = unread read found (λ part same. no_request_cut part request (subst (λ r. IfOk r (SpellsRequest bytes)) same ok) whole) is

    pub answer_unread : {F : Type 0} (read : Result Answer ReadingFault) (found : Result Bool F) (request : Request) (answer : Answer) → IfOk read (AnswersSo bytes request) → IfOk found (λ is. is ≡ is_ok read)
        → AnswersSo (bytes ++ more) request answer → IfOk found (λ is. is ≡ false)
    answer_unread read found request answer ok is whole = unread read found (λ part same. no_answer_cut request part answer (subst (λ r. IfOk r (AnswersSo bytes request)) same ok) whole) is
