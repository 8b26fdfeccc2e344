-- Bytes are one response at most, so they say one thing.
use Rattle.std.proofs.Common.{◌≡◌, ◌≢◌, ℕ, inl, inr, List, [], Result, Ok, Err, refl, ap, sym, ◌∙◌, subst}
use Rattle.std.specs.Prelude.{IfOk, IfErr, ⊤}
use Rattle.http_text.specs.Message.{Message}
use Rattle.http_text.specs.Forms.{IsResponseMessage}
use Rattle.http_text.proofs.InterimLemmas.{responses_same}
use Rattle.scim_message.specs.declared.answers.BodyFault.{BodyFault}
use Rattle.scim_message.specs.declared.answers.BodyFault.TheVariants as bodies
use Rattle.scim_message.specs.declared.messages.Answer.{Answer}
use Rattle.scim_message.specs.declared.messages.Request.{Request}
use Rattle.scim_client.specs.declared.answers.AnswerFault.{AnswerFault}
use Rattle.scim_client.specs.declared.answers.AnswerFault.TheVariants.{NotOneResponse, NotJson, WrongShape, OutOfMemory}
use Rattle.scim_client.specs.Answers.{answer_in, AnswersSo, RefusesBody, RefusesSo, IsOrMemory, SaysSo}

pub one_message : (text : List ℕ) (m n : Message) → IsResponseMessage text m → IsResponseMessage text n → m ≡ n
one_message text m n x y = (responses_same text [] text [] m n refl x y).1

-- ---- a result is one thing

abbrev IsSaid : Result Answer BodyFault → Type 0
IsSaid (Ok a) = ⊤
IsSaid (Err fault) = ⊥

pub refused_is_not_said : (a : Answer) (fault : BodyFault) (r : Result Answer BodyFault) → r ≡ Ok a → r ≡ Err fault → ⊥
refused_is_not_said a fault r x y = subst IsSaid (sym x ∙ y) tt

abbrev said_or : Answer → Result Answer BodyFault → Answer
said_or other (Ok a) = a
said_or other (Err fault) = other

pub same_said : (a b : Answer) (r : Result Answer BodyFault) → r ≡ Ok a → r ≡ Ok b → a ≡ b
same_said a b r x y = ap (said_or a) (sym x ∙ y)

abbrev fault_or : BodyFault → Result Answer BodyFault → BodyFault
fault_or other (Ok a) = other
fault_or other (Err fault) = fault

abbrev IsWrongShape : BodyFault → Type 0
IsWrongShape bodies.NotJson = ⊥
IsWrongShape bodies.WrongShape = ⊤
IsWrongShape bodies.Memory = ⊥

pub not_both : (r : Result Answer BodyFault) → r ≡ Err bodies.WrongShape → r ≡ Err bodies.NotJson → ⊥
not_both r x y = subst IsWrongShape (ap (fault_or bodies.NotJson) (sym x ∙ y)) tt

-- ---- what one response says

module _ (text : List ℕ) (request : Request) where
  -- what is said about a response is said about its bytes
  pub says_ok : (m : Message) → IsResponseMessage text m → (r : Result Answer AnswerFault) → SaysSo request m r → IfOk r (AnswersSo text request)
  says_ok m is (Ok a) h = record { message = m; is_message = is; says = h }
  says_ok m is (Err fault) h = tt

  pub says_refused : (m : Message) → IsResponseMessage text m → (r : Result Answer AnswerFault) → SaysSo request m r → IfErr r (RefusesSo text request)
  says_refused m is (Ok a) h = tt
  says_refused m is (Err NotOneResponse) h = absurd h
  says_refused m is (Err NotJson) h = record { message = m; is_message = is; says = h }
  says_refused m is (Err WrongShape) h = record { message = m; is_message = is; says = h }
  says_refused m is (Err OutOfMemory) h = tt

  -- what the one response of the bytes says
  at_message : (m n : Message) → IsResponseMessage text m → IsResponseMessage text n → (r : Result Answer BodyFault) → answer_in request n ≡ r → answer_in request m ≡ r
  at_message m n x y r h = ap (answer_in request) (one_message text m n x y) ∙ h

  pub one_answer : (a b : Answer) → AnswersSo text request a → AnswersSo text request b → a ≡ b
  one_answer a b x y = same_said a b _ x.says (at_message x.message y.message x.is_message y.is_message (Ok b) y.says)

  no_refusal : (a : Answer) (fault : BodyFault) → AnswersSo text request a → RefusesBody text request fault → ⊥
  no_refusal a fault x y = refused_is_not_said a fault _ x.says (at_message x.message y.message x.is_message y.is_message (Err fault) y.says)

  -- the bytes are this answer and nothing else
  pub only : (r : Result Answer AnswerFault) → IfOk r (AnswersSo text request) → IfErr r (RefusesSo text request)
      → (a : Answer) → AnswersSo text request a → IsOrMemory (Ok a) r
  only (Ok b) ok refused a so = inl (ap Ok (one_answer b a ok so))
  only (Err NotOneResponse) ok refused a so = absurd (refused so.message so.is_message)
  only (Err NotJson) ok refused a so = absurd (no_refusal a bodies.NotJson so refused)
  only (Err WrongShape) ok refused a so = absurd (no_refusal a bodies.WrongShape so refused)
  only (Err OutOfMemory) ok refused a so = inr refl

  not_two_refusals : RefusesBody text request bodies.WrongShape → RefusesBody text request bodies.NotJson → ⊥
  not_two_refusals x y = not_both _ x.says (at_message x.message y.message x.is_message y.is_message (Err bodies.NotJson) y.says)

  -- the bytes are refused so and no other way
  pub only_refusal : (r : Result Answer AnswerFault) → IfOk r (AnswersSo text request) → IfErr r (RefusesSo text request)
      → (fault : AnswerFault) → fault ≢ OutOfMemory → RefusesSo text request fault → IsOrMemory (Err fault) r
  only_refusal r ok refused OutOfMemory other so = absurd (other refl)
  only_refusal (Ok a) ok refused NotOneResponse other so = absurd (so ok.message ok.is_message)
  only_refusal (Ok a) ok refused NotJson other so = absurd (no_refusal a bodies.NotJson ok so)
  only_refusal (Ok a) ok refused WrongShape other so = absurd (no_refusal a bodies.WrongShape ok so)
  only_refusal (Err OutOfMemory) ok refused fault other so = inr refl
  only_refusal (Err NotOneResponse) ok refused NotOneResponse other so = inl refl
  only_refusal (Err NotOneResponse) ok refused NotJson other so = absurd (refused so.message so.is_message)
  only_refusal (Err NotOneResponse) ok refused WrongShape other so = absurd (refused so.message so.is_message)
  only_refusal (Err NotJson) ok refused NotOneResponse other so = absurd (so refused.message refused.is_message)
  only_refusal (Err NotJson) ok refused NotJson other so = inl refl
  only_refusal (Err NotJson) ok refused WrongShape other so = absurd (not_two_refusals so refused)
  only_refusal (Err WrongShape) ok refused NotOneResponse other so = absurd (so refused.message refused.is_message)
  only_refusal (Err WrongShape) ok refused NotJson other so = absurd (not_two_refusals refused so)
  only_refusal (Err WrongShape) ok refused WrongShape other so = inl refl
