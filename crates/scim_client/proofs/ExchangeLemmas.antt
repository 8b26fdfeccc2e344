-- From what was read, and its result, to what an exchange promises.
use Rattle.std.proofs.Common.{◌≡◌, ℕ, zero, suc, ◌⊎◌, inl, inr, false, List, ◌++◌, Option, Some, Result, Ok, Err, refl, ap, sym, ◌∙◌, subst}
use Rattle.scim_message.specs.declared.answers.BodyFault.TheVariants as bodies
use Rattle.scim_message.specs.declared.messages.Answer.{Answer}
use Rattle.scim_message.specs.declared.messages.Request.{Request}
use Rattle.http_text.specs.declared.fault.ReadFault.{ReadFault}
use Rattle.http_text.specs.declared.fault.ReadFault.TheVariants as faults
use Rattle.http_text.specs.Counts.{Reading, Writing}
use Rattle.http_text.specs.Message.{Message}
use Rattle.http_text.specs.Forms.{IsResponseMessage}
use Rattle.http_text.specs.Heads.{IsStreamFault, IsRefusedHead, EndsReading}
use Rattle.http_text.specs.Heads as heads
use Rattle.http_text.specs.Forms.{response_form, AfterInterims, interim_limit}
use Rattle.http_text.specs.Responses.{FindsResponse, AnswersMalformedHead, AnswersMalformedBody, IsNoResponse}
use Rattle.http_text.proofs.FormLaws.{response_laws}
use Rattle.http_text.proofs.JudgeLemmas.{IsHeadFault}
use Rattle.scim_client.specs.declared.answers.AnswerFault.TheVariants.{NotOneResponse, NotJson, WrongShape}
use Rattle.scim_client.specs.declared.answers.AnswerFault.TheVariants as answers
use Rattle.scim_client.specs.declared.exchange.ExchangeFault.{ExchangeFault}
use Rattle.scim_client.specs.declared.exchange.ExchangeFault.TheVariants.{Unsent, EndedEarly, ReadFailed, OutOfMemory, TurnsExhausted, NoAnswer}
use Rattle.scim_client.specs.Answers.{answer_in}
use Rattle.scim_client.specs.Exchanges.{Sends, Starts, IsReply, fault_of, StopsReading, Reads, IsHindered, IsWithout, ExchangesKnown, HasRead, ComesOf}
use Rattle.scim_client.proofs.AnswerLemmas.{refused_is_not_said, same_said, not_both}

-- ---- the two halves of an exchange are one

pub sends_reply : (text : List ℕ) (old new : Writing) (came : Result Answer ExchangeFault) → IsReply came → Starts text old new (Ok tt) → Sends text old new came
sends_reply text old new (Ok a) reply sent = sent
sends_reply text old new (Err (Unsent fault)) reply sent = absurd reply
sends_reply text old new (Err EndedEarly) reply sent = sent
sends_reply text old new (Err ReadFailed) reply sent = sent
sends_reply text old new (Err OutOfMemory) reply sent = sent
sends_reply text old new (Err TurnsExhausted) reply sent = sent
sends_reply text old new (Err (NoAnswer NotOneResponse)) reply sent = sent
sends_reply text old new (Err (NoAnswer NotJson)) reply sent = sent
sends_reply text old new (Err (NoAnswer WrongShape)) reply sent = sent
sends_reply text old new (Err (NoAnswer answers.OutOfMemory)) reply sent = inl sent

pub sends_fault : (text : List ℕ) (old new : Writing) (fault : ExchangeFault) → Starts text old new (Err fault) → Sends text old new (Err fault) × IsHindered (Err fault)
sends_fault text old new (Unsent fault) sent = (sent, tt)
sends_fault text old new EndedEarly sent = absurd sent
sends_fault text old new ReadFailed sent = absurd sent
sends_fault text old new OutOfMemory sent = absurd sent
sends_fault text old new TurnsExhausted sent = absurd sent
sends_fault text old new (NoAnswer NotOneResponse) sent = absurd sent
sends_fault text old new (NoAnswer NotJson) sent = absurd sent
sends_fault text old new (NoAnswer WrongShape) sent = absurd sent
sends_fault text old new (NoAnswer answers.OutOfMemory) sent = (inr sent, tt)

-- what wasn't sent whole wasn't read
pub reads_none : (request : Request) (reading : Reading) (text : List ℕ) (old new : Writing) (fault : ExchangeFault) → Starts text old new (Err fault) → Reads request reading reading (Err fault)
reads_none request reading text old new (Unsent fault) sent = refl
reads_none request reading text old new EndedEarly sent = absurd sent
reads_none request reading text old new ReadFailed sent = absurd sent
reads_none request reading text old new OutOfMemory sent = absurd sent
reads_none request reading text old new TurnsExhausted sent = absurd sent
reads_none request reading text old new (NoAnswer NotOneResponse) sent = absurd sent
reads_none request reading text old new (NoAnswer NotJson) sent = absurd sent
reads_none request reading text old new (NoAnswer WrongShape) sent = absurd sent
reads_none request reading text old new (NoAnswer answers.OutOfMemory) sent = inr refl

-- ---- a reply

reply_at_fault : (fault : ReadFault) → IsReply (Err (fault_of fault))
reply_at_fault (faults.Malformed is_head) = tt
reply_at_fault (faults.HostMissingOrRepeated is_head) = tt
reply_at_fault (faults.LengthMissing is_head) = tt
reply_at_fault (faults.BodyTooLong is_head) = tt
reply_at_fault (faults.HeadTooLong is_head) = tt
reply_at_fault (faults.TransferCoding is_head) = tt
reply_at_fault (faults.Expectation is_head) = tt
reply_at_fault faults.EndedEarly = tt
reply_at_fault faults.ReadFailed = tt
reply_at_fault faults.OutOfMemory = tt
reply_at_fault faults.TurnsExhausted = tt

pub is_reply : (request : Request) (r : Result Message ReadFault) (result : Result Answer ExchangeFault) → ComesOf request r result → IsReply result
is_reply request (Err fault) result h = subst IsReply (sym h) (reply_at_fault fault)
is_reply request (Ok m) (Ok a) h = tt
is_reply request (Ok m) (Err (Unsent fault)) h = absurd h
is_reply request (Ok m) (Err EndedEarly) h = absurd h
is_reply request (Ok m) (Err ReadFailed) h = absurd h
is_reply request (Ok m) (Err OutOfMemory) h = absurd h
is_reply request (Ok m) (Err TurnsExhausted) h = absurd h
is_reply request (Ok m) (Err (NoAnswer fault)) h = tt

-- ---- what was read

module _ (request : Request) (old new : Reading) where
  reads_at_fault : (fault : ReadFault) → StopsReading old new fault → Reads request old new (Err (fault_of fault))
  reads_at_fault (faults.Malformed is_head) h = (faults.Malformed is_head, refl, h)
  reads_at_fault (faults.HostMissingOrRepeated is_head) h = (faults.HostMissingOrRepeated is_head, refl, h)
  reads_at_fault (faults.LengthMissing is_head) h = (faults.LengthMissing is_head, refl, h)
  reads_at_fault (faults.BodyTooLong is_head) h = (faults.BodyTooLong is_head, refl, h)
  reads_at_fault (faults.HeadTooLong is_head) h = (faults.HeadTooLong is_head, refl, h)
  reads_at_fault (faults.TransferCoding is_head) h = (faults.TransferCoding is_head, refl, h)
  reads_at_fault (faults.Expectation is_head) h = (faults.Expectation is_head, refl, h)
  reads_at_fault faults.EndedEarly h = h
  reads_at_fault faults.ReadFailed h = h
  reads_at_fault faults.OutOfMemory h = h
  reads_at_fault faults.TurnsExhausted h = h

  pub reads : (r : Result Message ReadFault) → HasRead old new r → (result : Result Answer ExchangeFault) → ComesOf request r result → Reads request old new result
  reads (Err fault) read result h = subst (Reads request old new) (sym h) (reads_at_fault fault (record { takes = read.refused; counts = read.fault }))
  reads (Ok m) read (Ok a) h = record { message = m; takes = read.message; says = h; clean = read.clean }
  reads (Ok m) read (Err (Unsent fault)) h = absurd h
  reads (Ok m) read (Err EndedEarly) h = absurd h
  reads (Ok m) read (Err ReadFailed) h = absurd h
  reads (Ok m) read (Err OutOfMemory) h = absurd h
  reads (Ok m) read (Err TurnsExhausted) h = absurd h
  reads (Ok m) read (Err (NoAnswer NotOneResponse)) h = absurd h
  reads (Ok m) read (Err (NoAnswer NotJson)) h = record { message = m; takes = read.message; says = h; clean = read.clean }
  reads (Ok m) read (Err (NoAnswer WrongShape)) h = record { message = m; takes = read.message; says = h; clean = read.clean }
  reads (Ok m) read (Err (NoAnswer answers.OutOfMemory)) h =
      inl (answer_in request m, record { message = m; takes = read.message; says = refl; clean = read.clean })

-- ---- what is at the front

module _ (request : Request) where
  -- a fault of the stream hinders
  hinders : (fault : ReadFault) → IsStreamFault fault → (result : Result Answer ExchangeFault) → ComesOf request (Err fault) result → IsHindered result
  hinders (faults.Malformed is_head) s result h = absurd s
  hinders (faults.HostMissingOrRepeated is_head) s result h = absurd s
  hinders (faults.LengthMissing is_head) s result h = absurd s
  hinders (faults.BodyTooLong is_head) s result h = absurd s
  hinders (faults.HeadTooLong is_head) s result h = absurd s
  hinders (faults.TransferCoding is_head) s result h = absurd s
  hinders (faults.Expectation is_head) s result h = absurd s
  hinders faults.EndedEarly s result h = absurd s
  hinders faults.ReadFailed s result h = subst IsHindered (sym h) tt
  hinders faults.OutOfMemory s result h = subst IsHindered (sym h) tt
  hinders faults.TurnsExhausted s result h = subst IsHindered (sym h) tt

  -- if this fault, or one of the stream, is what was read
  meets : (fault : ReadFault) (r : Result Message ReadFault) → heads.Answers fault r → (result : Result Answer ExchangeFault) → ComesOf request r result
      → (result ≡ Err (fault_of fault)) ⊎ IsHindered result
  meets fault (Ok m) a result h = absurd a
  meets fault (Err answered) (inl same) result h = inl (h ∙ ap (λ (f : ReadFault). Err (fault_of f)) same)
  meets fault (Err answered) (inr stream) result h = inr (hinders answered stream result h)

  -- what one message says comes, or it was out of memory
  comes_answer : (m : Message) (a : Answer) → answer_in request m ≡ Ok a → (result : Result Answer ExchangeFault) → ComesOf request (Ok m) result
      → (result ≡ Ok a) ⊎ IsHindered result
  comes_answer m a says (Ok b) h = inl (ap Ok (same_said b a _ h says))
  comes_answer m a says (Err (Unsent fault)) h = absurd h
  comes_answer m a says (Err EndedEarly) h = absurd h
  comes_answer m a says (Err ReadFailed) h = absurd h
  comes_answer m a says (Err OutOfMemory) h = absurd h
  comes_answer m a says (Err TurnsExhausted) h = absurd h
  comes_answer m a says (Err (NoAnswer NotOneResponse)) h = absurd h
  comes_answer m a says (Err (NoAnswer NotJson)) h = absurd (refused_is_not_said a bodies.NotJson _ says h)
  comes_answer m a says (Err (NoAnswer WrongShape)) h = absurd (refused_is_not_said a bodies.WrongShape _ says h)
  comes_answer m a says (Err (NoAnswer answers.OutOfMemory)) h = inr tt

  comes_not_json : (m : Message) → answer_in request m ≡ Err bodies.NotJson → (result : Result Answer ExchangeFault) → ComesOf request (Ok m) result
      → (result ≡ Err (NoAnswer NotJson)) ⊎ IsHindered result
  comes_not_json m says (Ok b) h = absurd (refused_is_not_said b bodies.NotJson _ h says)
  comes_not_json m says (Err (Unsent fault)) h = absurd h
  comes_not_json m says (Err EndedEarly) h = absurd h
  comes_not_json m says (Err ReadFailed) h = absurd h
  comes_not_json m says (Err OutOfMemory) h = absurd h
  comes_not_json m says (Err TurnsExhausted) h = absurd h
  comes_not_json m says (Err (NoAnswer NotOneResponse)) h = absurd h
  comes_not_json m says (Err (NoAnswer NotJson)) h = inl refl
  comes_not_json m says (Err (NoAnswer WrongShape)) h = absurd (not_both _ h says)
  comes_not_json m says (Err (NoAnswer answers.OutOfMemory)) h = inr tt

  comes_wrong_shape : (m : Message) → answer_in request m ≡ Err bodies.WrongShape → (result : Result Answer ExchangeFault) → ComesOf request (Ok m) result
      → (result ≡ Err (NoAnswer WrongShape)) ⊎ IsHindered result
  comes_wrong_shape m says (Ok b) h = absurd (refused_is_not_said b bodies.WrongShape _ h says)
  comes_wrong_shape m says (Err (Unsent fault)) h = absurd h
  comes_wrong_shape m says (Err EndedEarly) h = absurd h
  comes_wrong_shape m says (Err ReadFailed) h = absurd h
  comes_wrong_shape m says (Err OutOfMemory) h = absurd h
  comes_wrong_shape m says (Err TurnsExhausted) h = absurd h
  comes_wrong_shape m says (Err (NoAnswer NotOneResponse)) h = absurd h
  comes_wrong_shape m says (Err (NoAnswer NotJson)) h = absurd (not_both _ says h)
  comes_wrong_shape m says (Err (NoAnswer WrongShape)) h = inl refl
  comes_wrong_shape m says (Err (NoAnswer answers.OutOfMemory)) h = inr tt

  left_too : {A B C : Type 0} → A ⊎ B → C → (A × C) ⊎ B
  left_too (inl a) c = inl (a, c)
  left_too (inr b) c = inr b

  -- a message at the front is what was read
  at_front : (remaining left : Option (List ℕ)) (r : Result Message ReadFault) → FindsResponse remaining left r
      → (result : Result Answer ExchangeFault) → ComesOf request r result
      → (bytes rest : List ℕ) (m : Message) → remaining ≡ Some (bytes ++ rest) → IsResponseMessage bytes m
      → (P : Type 0) → (ComesOf request (Ok m) result → P ⊎ IsHindered result)
      → (P × (left ≡ Some rest)) ⊎ IsHindered result
  at_front remaining left (Ok found) finds result h bytes rest m at is P then =
      let found_is = finds bytes rest m at is in
      left_too (then (subst (λ (k : Message). ComesOf request (Ok k) result) found_is.0 h)) found_is.1
  at_front remaining left (Err fault) finds result h bytes rest m at is P then =
      inr (hinders fault (finds bytes rest m at is) result h)

  abbrev Stops : Result Answer ExchangeFault → Type 0
  Stops (Ok a) = ⊥
  Stops (Err (Unsent fault)) = ⊥
  Stops (Err EndedEarly) = Unit {0}
  Stops (Err ReadFailed) = ⊥
  Stops (Err OutOfMemory) = ⊥
  Stops (Err TurnsExhausted) = ⊥
  Stops (Err (NoAnswer NotOneResponse)) = Unit {0}
  Stops (Err (NoAnswer NotJson)) = ⊥
  Stops (Err (NoAnswer WrongShape)) = ⊥
  Stops (Err (NoAnswer answers.OutOfMemory)) = ⊥

  without_stops : (result : Result Answer ExchangeFault) → IsWithout result → Stops result
  without_stops result (inl h) = subst Stops (sym h) tt
  without_stops result (inr h) = subst Stops (sym h) tt

  hindered_goes_on : (result : Result Answer ExchangeFault) → IsHindered result → Stops result → ⊥
  hindered_goes_on (Ok a) h s = s
  hindered_goes_on (Err (Unsent fault)) h s = s
  hindered_goes_on (Err EndedEarly) h s = h
  hindered_goes_on (Err ReadFailed) h s = s
  hindered_goes_on (Err OutOfMemory) h s = s
  hindered_goes_on (Err TurnsExhausted) h s = s
  hindered_goes_on (Err (NoAnswer NotOneResponse)) h s = h
  hindered_goes_on (Err (NoAnswer NotJson)) h s = s
  hindered_goes_on (Err (NoAnswer WrongShape)) h s = s
  hindered_goes_on (Err (NoAnswer answers.OutOfMemory)) h s = s

  message_goes_on : (m : Message) (result : Result Answer ExchangeFault) → ComesOf request (Ok m) result → Stops result → ⊥
  message_goes_on m (Ok a) h s = s
  message_goes_on m (Err (Unsent fault)) h s = s
  message_goes_on m (Err EndedEarly) h s = h
  message_goes_on m (Err ReadFailed) h s = s
  message_goes_on m (Err OutOfMemory) h s = s
  message_goes_on m (Err TurnsExhausted) h s = s
  message_goes_on m (Err (NoAnswer NotOneResponse)) h s = h
  message_goes_on m (Err (NoAnswer NotJson)) h s = s
  message_goes_on m (Err (NoAnswer WrongShape)) h s = s
  message_goes_on m (Err (NoAnswer answers.OutOfMemory)) h s = s

  without : (remaining left : Option (List ℕ)) (r : Result Message ReadFault) → FindsResponse remaining left r
      → (result : Result Answer ExchangeFault) → ComesOf request r result → Stops result
      → (bytes rest : List ℕ) → remaining ≡ Some (bytes ++ rest) → IsNoResponse bytes
  without remaining left (Ok found) finds result h s bytes rest at = λ m is. message_goes_on found result h s
  without remaining left (Err fault) finds result h s bytes rest at = λ m is. hindered_goes_on result (hinders fault (finds bytes rest m at is) result h) s

  malformed : (all : List ℕ) (r : Result Message ReadFault) → AnswersMalformedHead all r
      → (result : Result Answer ExchangeFault) → ComesOf request r result
      → (result ≡ Err (NoAnswer NotOneResponse)) ⊎ IsHindered result
  malformed all (Ok m) a result h = absurd a
  malformed all (Err (faults.Malformed is_head)) a result h = inl h
  malformed all (Err (faults.HostMissingOrRepeated is_head)) a result h = absurd a
  malformed all (Err (faults.LengthMissing is_head)) a result h = absurd a
  malformed all (Err (faults.BodyTooLong is_head)) a result h = absurd a
  malformed all (Err (faults.HeadTooLong is_head)) a result h = inl h
  malformed all (Err (faults.TransferCoding is_head)) a result h = absurd a
  malformed all (Err (faults.Expectation is_head)) a result h = absurd a
  malformed all (Err faults.EndedEarly) a result h = absurd a
  malformed all (Err faults.ReadFailed) a result h = inr (hinders faults.ReadFailed tt result h)
  malformed all (Err faults.OutOfMemory) a result h = inr (hinders faults.OutOfMemory tt result h)
  malformed all (Err faults.TurnsExhausted) a result h = inr (hinders faults.TurnsExhausted tt result h)

  malformed_body : (r : Result Message ReadFault) → AnswersMalformedBody r → (result : Result Answer ExchangeFault) → ComesOf request r result
      → (result ≡ Err (NoAnswer NotOneResponse)) ⊎ IsHindered result
  malformed_body (Ok m) a result h = absurd a
  malformed_body (Err fault) (inl is) result h = inl (h ∙ ap (λ f. Err (fault_of f)) is)
  malformed_body (Err fault) (inr (inl is)) result h = inl (h ∙ ap (λ f. Err (fault_of f)) is)
  malformed_body (Err fault) (inr (inr s)) result h = inr (hinders fault s result h)

  -- a head that is refused makes no response
  refused_head : (fault : ReadFault) → IsHeadFault fault → (r : Result Message ReadFault) → heads.Answers fault r → (result : Result Answer ExchangeFault) → ComesOf request r result
      → (result ≡ Err (NoAnswer NotOneResponse)) ⊎ IsHindered result
  refused_head (faults.Malformed is_head) k r a result h = meets (faults.Malformed is_head) r a result h
  refused_head (faults.HostMissingOrRepeated is_head) k r a result h = meets (faults.HostMissingOrRepeated is_head) r a result h
  refused_head (faults.LengthMissing is_head) k r a result h = meets (faults.LengthMissing is_head) r a result h
  refused_head (faults.BodyTooLong is_head) k r a result h = meets (faults.BodyTooLong is_head) r a result h
  refused_head (faults.HeadTooLong is_head) k r a result h = meets (faults.HeadTooLong is_head) r a result h
  refused_head (faults.TransferCoding is_head) k r a result h = meets (faults.TransferCoding is_head) r a result h
  refused_head (faults.Expectation is_head) k r a result h = meets (faults.Expectation is_head) r a result h
  refused_head faults.EndedEarly k r a result h = absurd k
  refused_head faults.ReadFailed k r a result h = absurd k
  refused_head faults.OutOfMemory k r a result h = absurd k
  refused_head faults.TurnsExhausted k r a result h = absurd k

  -- a head that is refused is refused by a fault of heads
  fault_of_head : (room : ℕ) (bytes : List ℕ) (fault : ReadFault) → AfterInterims room (λ room bytes. IsRefusedHead response_form bytes fault) bytes → IsHeadFault fault
  fault_of_head zero bytes fault x = response_laws.judged x.0 fault x.2
  fault_of_head (suc room) bytes fault (inl x) = response_laws.judged x.0 fault x.2
  fault_of_head (suc room) bytes fault (inr x) = fault_of_head room x.1 fault x.4

  -- whatever is at the front
  pub exchanges_known : (old new : Reading) (r : Result Message ReadFault) → HasRead old new r → (result : Result Answer ExchangeFault) → ComesOf request r result
      → ExchangesKnown request old.remaining new.remaining result
  exchanges_known old new r read result h = record {
    answer = λ bytes rest a at so.
        at_front old.remaining new.remaining r read.found result h bytes rest so.message at so.is_message (result ≡ Ok a) (comes_answer so.message a so.says result);
    not_json = λ bytes rest at so.
        at_front old.remaining new.remaining r read.found result h bytes rest so.message at so.is_message (result ≡ Err (NoAnswer NotJson)) (comes_not_json so.message so.says result);
    wrong_shape = λ bytes rest at so.
        at_front old.remaining new.remaining r read.found result h bytes rest so.message at so.is_message (result ≡ Err (NoAnswer WrongShape)) (comes_wrong_shape so.message so.says result);
    without = λ bytes rest at none. without old.remaining new.remaining r read.found result h (without_stops result none) bytes rest at;
    part = λ bytes at part. meets faults.EndedEarly r (read.ended bytes at part) result h;
    refused_head = λ fault front. refused_head fault (fault_of_head interim_limit front.0 fault front.3) r (read.refused_head fault front) result h;
    long = λ front. let long = read.long front in meets (faults.HeadTooLong long.0) r long.1 result h;
    malformed = λ front. malformed (front.0 ++ front.1) r (read.malformed front.0 front.1 front.2 front.3) result h;
    malformed_body = λ front. malformed_body r (read.malformed_body front) result h;
    interims = λ front. meets (faults.Malformed false) r (read.interims front) result h;
  }

  -- if nothing was sent or read
  pub hindered_known : (remaining left : Option (List ℕ)) (result : Result Answer ExchangeFault) → IsHindered result → ExchangesKnown request remaining left result
  hindered_known remaining left result h = record {
    answer = λ bytes rest a at so. inr h;
    not_json = λ bytes rest at so. inr h;
    wrong_shape = λ bytes rest at so. inr h;
    without = λ bytes rest at none. absurd (hindered_goes_on result h (without_stops result none));
    part = λ bytes at part. inr h;
    refused_head = λ fault front. inr h;
    long = λ front. inr h;
    malformed = λ front. inr h;
    malformed_body = λ front. inr h;
    interims = λ front. inr h;
  }
