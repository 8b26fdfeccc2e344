-- Whether bytes are one message from the first to the last.
use Rattle.std.proofs.Common.{◌≡◌, ℕ, ◌+◌, ◌-◌, ◌≤◌, List, [], ◌++◌, length, take, drop, refl, ap, sym, ◌∙◌, subst, arith, length-append, length-take, Option, Some, None, Result, Ok, Err, inl, inr}
use Rattle.std.specs.Prelude.{min, IfOk, MatchOption}
use Rattle.std.proofs.lemmas.List.{append-nil, take-append-drop}
use Rattle.httparse.specs.declared.spans.HeaderSpan.{HeaderSpan}
use Rattle.http_text.specs.declared.parsing.HeadSpans.{HeadSpans}
use Rattle.http_text.specs.declared.fault.ReadFault.{ReadFault}
use Rattle.http_text.specs.declared.fault.ReadFault.TheVariants.{Malformed, HostMissingOrRepeated, LengthMissing, BodyTooLong, HeadTooLong, TransferCoding, Expectation, EndedEarly, ReadFailed, OutOfMemory, TurnsExhausted}
use Rattle.http_text.specs.Message.{Message, head_limit, field_limit}
use Rattle.http_text.specs.Forms.{Form, IsHead}
use Rattle.http_text.specs.Heads.{HasNone}
use Rattle.http_text.specs.Parsing.{front_message, AreWithin, IsHeadOf}
use Rattle.http_text.specs.Steps.{RefusesHead}
use Rattle.http_text.specs.Wholes.{IsOne, IsNone, TakesWhole}
use Rattle.http_text.proofs.FormLaws.{Laws}
use Rattle.http_text.proofs.HeadLemmas.{TakesHead-result}
use Rattle.http_text.proofs.ListLemmas.{front_of}
use Rattle.http_text.proofs.MessageLemmas.{reads_before, heads_same}

module _ (F : Form) (laws : Laws F) (bytes front : List ℕ) (is : front ≡ take (min (length bytes) head_limit) bytes) where
  abbrev cut : ℕ
  cut = min (length bytes) head_limit

  size : length front ≤ head_limit
  size = let long = ap length is in omega (arith, length-take cut bytes)

  -- the head of a message is in the bytes that are parsed
  in_front : (m : Message) (whole : IsOne F bytes m) → (x : List ℕ) × F.Reads front whole.0.head.tree x
  in_front m whole =
      let message = whole.0 in
      let head = message.head in
      let small = head.size in
      let sum : length bytes ≡ length message.front + length m.body = ap length message.split ∙ length-append message.front m.body in
      let kept : length front ≡ min cut (length bytes) = ap length is ∙ length-take cut bytes in
      let split : message.front ++ m.body ≡ front ++ drop cut bytes =
      sym message.split ∙ sym (take-append-drop cut bytes) ∙ ap (λ (t : List ℕ). t ++ drop cut bytes) (sym is) in
      let p = front_of message.front m.body front (drop cut bytes) split (omega arith) in
      (p.0, subst (λ (t : List ℕ). F.Reads t head.tree p.0) (sym p.1) (reads_before F laws message.front p.0 head.tree head.reads))

  pub no_head : HasNone F front → IsNone F bytes
  no_head none m whole = let p = in_front m whole in none whole.0.head.tree p.0 p.1

  pub refused_head : (fault : ReadFault) → RefusesHead F front fault → IsNone F bytes
  refused_head (Malformed is_head) never =
      no_head (λ tree rest h. never.0 [] tree rest (subst (λ (t : List ℕ). F.Reads t tree rest) (sym (append-nil front)) h))
  refused_head (HostMissingOrRepeated is_head) h = absurd h
  refused_head (LengthMissing is_head) h = absurd h
  refused_head (BodyTooLong is_head) h = absurd h
  refused_head (HeadTooLong is_head) h =
      elim h.0 [
        | inl limit ↦ no_head limit.undecided.none
        | inr fields ↦ λ m whole.
            let p = in_front m whole in
            let few = whole.0.head.fields in
            let many = fields.1 [] whole.0.head.tree p.0 (subst (λ (t : List ℕ). F.Reads t whole.0.head.tree p.0) (sym (append-nil front)) p.1) in
            omega arith
      ]
  refused_head (TransferCoding is_head) h = absurd h
  refused_head (Expectation is_head) h = absurd h
  refused_head EndedEarly h = absurd h
  refused_head ReadFailed h = absurd h
  refused_head OutOfMemory h = absurd h
  refused_head TurnsExhausted h = absurd h

  module _ (fields : List HeaderSpan) (spans : HeadSpans) (found : IsHeadOf F front fields spans) (within : AreWithin front fields spans)
      (room : length fields ≡ field_limit) where
    -- the head that was found is the front of all the bytes
    at_front : (b : List ℕ) × (bytes ≡ b ++ drop spans.len bytes) × IsHead F b (front_message front fields spans).head
    at_front =
        let none : spans.len - 0 ≡ spans.len = omega arith in
        let split : bytes ≡ take (spans.len - 0) bytes ++ drop spans.len bytes = rw none (sym (take-append-drop spans.len bytes)) in
        let took =
        TakesHead-result F laws (Some bytes) (Some bytes) (Some (drop spans.len bytes)) [] bytes front cut refl is laws.undecided size
        fields spans within split room (Ok (front_message front fields spans)) found refl in
        (took.0, took.1, took.2)

    module _ (message : Message) (made : message ≡ front_message front fields spans) where
      head_is : IsHead F at_front.0 message.head
      head_is = subst (IsHead F at_front.0) (ap (λ (k : Message). k.head) (sym made)) at_front.2

      pub outcome : (r : Option Message) → TakesWhole F message (drop spans.len bytes) r → MatchOption r (IsNone F bytes) (IsOne F bytes)
      outcome None refused = λ m whole.
          let x = whole.0 in
          let same = heads_same F laws at_front.0 (drop spans.len bytes) x.front m.body message.head m.head (sym at_front.1 ∙ x.split) head_is x.head in
          let n = whole.1.0 in
          let long : n ≡ length (drop spans.len bytes) = laws.accepted m.head n whole.1.1 ∙ sym x.body ∙ ap length (sym same.1) in
          refused (ap F.judge same.2 ∙ whole.1.1 ∙ ap Ok long)
      outcome (Some m) took =
          let rest = drop spans.len bytes in
          let head : m.head ≡ message.head = ap (λ (k : Message). k.head) took.1 in
          let body : m.body ≡ rest = ap (λ (k : Message). k.body) took.1 ∙ ap (λ (k : Message). k.body ++ rest) made in
          let judged : F.judge m.head ≡ Ok (length rest) = ap F.judge head ∙ took.0 in (
            record {
              front = at_front.0;
              head = subst (IsHead F at_front.0) (sym head) head_is;
              split = at_front.1 ∙ ap (λ (t : List ℕ). at_front.0 ++ t) (sym body);
              body = ap length body ∙ laws.accepted m.head (length rest) judged;
            },
            (length rest, judged),
          )

      pub outcomes : {E : Type 0} (r : Result (Option Message) E) → IfOk r (TakesWhole F message (drop spans.len bytes))
          → IfOk r (λ found. MatchOption found (IsNone F bytes) (IsOne F bytes))
      outcomes (Ok found) took = outcome found took
      outcomes (Err fault) took = tt
