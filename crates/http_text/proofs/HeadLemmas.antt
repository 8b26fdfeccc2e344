-- What a step of reading gives: a head that has become whole, one that is refused, or neither.
use Rattle.std.proofs.Common.{◌≡◌, ℕ, ◌+◌, ◌-◌, ◌<◌, ◌≤◌, List, [], ◌∷◌, ◌++◌, length, take, drop, refl, ap, sym, ◌∙◌, arith, subst, length-append, length-take, Option, Result, Ok, Err, inl, inr}
use Rattle.std.proofs.Math.Seq.{take-append-add}
use Rattle.std.proofs.lemmas.Bool.Decides.{leb_tells}
use Rattle.std.proofs.lemmas.List.{append-nil, length-map, length-take-le, take-take, take_at}
use Rattle.std.specs.Prelude.{IfOk, IfErr}
use Rattle.std.specs.Io.KnownBytes.{Consumes}
use Rattle.httparse.specs.declared.spans.HeaderSpan.{HeaderSpan}
use Rattle.httparse.specs.Spans.{header_bytes, name_and_value}
use Rattle.http_text.specs.declared.parsing.HeadSpans.{HeadSpans}
use Rattle.http_text.specs.declared.parsing.Refusal.{Refusal}
use Rattle.http_text.specs.declared.fault.ReadFault.{ReadFault}
use Rattle.http_text.specs.declared.fault.ReadFault.TheVariants.{Malformed, HostMissingOrRepeated, LengthMissing, BodyTooLong, HeadTooLong, TransferCoding, Expectation, EndedEarly, ReadFailed, OutOfMemory, TurnsExhausted}
use Rattle.http_text.specs.Message.{Message, head_limit, field_limit}
use Rattle.http_text.specs.Forms.{Form}
use Rattle.http_text.specs.Heads.{IsUndecided, IsUndecidedBefore, Refuses, IsRefusedHead, IsPartOfBody, TakesMessage, TakesRefused}
use Rattle.http_text.specs.Parsing.{front_message, AreWithin, IsHeadAt, IsHeadOf}
use Rattle.http_text.specs.Steps.{GivesNone, IsFirstRefusal, RefusesHead, TakesHead, TakesBody, CutsBody}
use Rattle.http_text.proofs.FormLaws.{Laws}
use Rattle.http_text.proofs.JudgeLemmas.{IsHeadFault}
use Rattle.http_text.proofs.KnownLemmas.{Consumes-kept, Consumes-then}
use Rattle.http_text.proofs.ListLemmas.{front_of}

module _ (F : Form) (laws : Laws F) where
  -- a head at the front of more bytes than those that hold none is longer than these
  pub head_is_longer : (bytes more : List ℕ) (fields : List HeaderSpan) (spans : HeadSpans) → IsUndecided F bytes
      → IsHeadOf F (bytes ++ more) fields spans → length bytes < spans.len
  head_is_longer bytes more fields spans undecided h =
      elim (leb_tells spans.len (length bytes)) [
        | inl short ↦
            let le = short.1 in
            let at = h.1 in
            let size = at.len in
            let p = front_of (F.print h.0) (drop spans.len (bytes ++ more)) bytes more (sym (laws.printed (bytes ++ more) h.0 (drop spans.len (bytes ++ more)) at.reads)) (omega arith) in
            absurd (undecided.none h.0 p.0 (laws.again (bytes ++ more) h.0 (drop spans.len (bytes ++ more)) at.reads bytes p.0 p.1))
        | inr long ↦ long.1
      ]

  -- one byte less isn't refused
  one_before : (all : List ℕ) (k : ℕ) → 0 < k → k ≤ length all → IsUndecided F (take (k - 1) all)
      → IsUndecidedBefore F (take k all)
  one_before all k some fits undecided front last e =
      let size : length front + 1 ≡ length (take k all) = sym (ap length e ∙ length-append front (last ∷ [])) in
      let shorter : length front ≡ k - 1 = omega (arith, length-take-le k all fits) in
      let same : front ≡ take (k - 1) all =
      sym (take_at front (last ∷ []) (k - 1) shorter) ∙ ap (take (k - 1)) (sym e)
      ∙ take-take (k - 1) k all (omega arith) in
      subst (IsUndecided F) (sym same) undecided

  refuses : (bytes : List ℕ) → length bytes ≤ head_limit → (left : Option (List ℕ)) (fault : ReadFault)
      → IsUndecidedBefore F bytes → RefusesHead F bytes fault → Refuses F bytes left fault
  refuses bytes size left (Malformed is_head) first h = inl (record { never = h.0; before = first; size = size }, h.1)
  refuses bytes size left (HostMissingOrRepeated is_head) first h = absurd h
  refuses bytes size left (LengthMissing is_head) first h = absurd h
  refuses bytes size left (BodyTooLong is_head) first h = absurd h
  refuses bytes size left (HeadTooLong is_head) first h = (
    elim h.0 [
      | inl limit ↦ inl limit
      | inr fields ↦ inr (record { exceeds = fields.0; overflows = fields.1; before = first; size = size })
    ],
    h.1,
  )
  refuses bytes size left (TransferCoding is_head) first h = absurd h
  refuses bytes size left (Expectation is_head) first h = absurd h
  refuses bytes size left EndedEarly first h = absurd h
  refuses bytes size left ReadFailed first h = absurd h
  refuses bytes size left OutOfMemory first h = absurd h
  refuses bytes size left TurnsExhausted first h = absurd h

  module _ (old now new : Option (List ℕ)) (bytes ahead all : List ℕ) (count : ℕ) (taken : Consumes old now bytes) (is : all ≡ bytes ++ take count ahead)
      (undecided : IsUndecided F bytes) (size : length all ≤ head_limit) where
    -- a front of all of them that is longer than the first ones
    front_taken : (k : ℕ) → length bytes ≤ k → k ≤ length all → bytes ++ take (k - length bytes) ahead ≡ take k all
    front_taken k long fits =
        let n = k - length bytes in
        let sum : length all ≡ length bytes + length (take count ahead) =
        ap length is ∙ length-append bytes (take count ahead) in
        let enough : n ≤ count = omega (arith, length-take count ahead) in
        let whole : length bytes + n ≡ k = omega arith in
        ap (λ (t : List ℕ). bytes ++ t) (sym (take-take n count ahead enough))
        ∙ sym (take-append-add bytes (take count ahead) n)
        ∙ ap (λ m. take m (bytes ++ take count ahead)) whole ∙ ap (take k) (sym is)

    module _ (fields : List HeaderSpan) (spans : HeadSpans) (within : AreWithin all fields spans) (more : Consumes now new (take (spans.len - length bytes) ahead))
        (room : length fields ≡ field_limit) where
      -- what was taken is the head
      TakesHead-front : IsHeadOf F all fields spans → Consumes old new (take spans.len all)
      TakesHead-front found =
          let long = head_is_longer bytes (take count ahead) fields spans undecided (subst (λ (t : List ℕ). IsHeadOf F t fields spans) is found) in
          let front = front_taken spans.len (omega arith) within.section.len_fits in
          subst (Consumes old new) front
          (Consumes-then old now new bytes (take (spans.len - length bytes) ahead) taken more)

      TakesHead-made : (tree : F.Tree) (m : Message) → IsHeadAt F all fields spans tree → m ≡ front_message all fields spans → TakesHead F old new m
      TakesHead-made tree m at made =
          let front : take spans.len all ≡ F.print tree ++ [] =
          ap (take spans.len) (laws.printed all tree (drop spans.len all) at.reads) ∙ take_at (F.print tree) (drop spans.len all) spans.len (sym at.len) ∙ sym (append-nil (F.print tree)) in
          let counted : length (F.lines tree) ≡ length (take spans.count fields) = sym (length-map (F.lines tree) name_and_value) ∙ sym (ap length at.lines) ∙ length-map (take spans.count fields) (header_bytes all) in
          let few : length (F.lines tree) ≤ field_limit = omega (arith, length-take spans.count fields) in (
            take spans.len all,
            TakesHead-front (tree, at),
            record { tree = tree; reads = laws.again all tree (drop spans.len all) at.reads (take spans.len all) [] front; size = omega (arith, length-take spans.len all); fields = few; parts = ap (λ (k : Message). k.head) made ∙ (λ i. record { start = at.start i; fields = at.lines i }) },
            ap (λ (k : Message). k.body) made,
          )

      pub TakesHead-result : (r : Result Message ReadFault) → IsHeadOf F all fields spans
          → IfOk r (λ (m : Message). m ≡ front_message all fields spans)
          → IfOk r (TakesHead F old new)
      TakesHead-result (Ok m) at made = TakesHead-made at.0 m at.1 made
      TakesHead-result (Err fault) at made = tt

    -- what was taken is the shortest front that is refused
    pub TakesRefused-first : (refusal : Refusal) → IsFirstRefusal F all (length bytes) refusal
        → Consumes now new (take (refusal.length - length bytes) ahead) → TakesRefused F old new refusal.fault
    TakesRefused-first refusal first more =
        let after = first.after in
        let front = front_taken refusal.length (omega arith) first.within in
        let whole = subst (Consumes old new) front
        (Consumes-then old now new bytes (take (refusal.length - length bytes) ahead) taken more) in
        let short : length (take refusal.length all) ≤ head_limit = omega (arith, length-take refusal.length all) in (
          take refusal.length all,
          whole,
          refuses (take refusal.length all) short new refusal.fault
              (one_before all refusal.length (omega arith) first.within first.before) first.refused,
        )

  -- memory for a whole head wanted
  pub TakesRefused-memory : (old now new : Option (List ℕ)) (bytes more : List ℕ) (r : Result Message ReadFault) → Consumes old now bytes → Consumes now new more
      → IfErr r (λ (fault : ReadFault). fault ≡ OutOfMemory) → IfErr r (TakesRefused F old new)
  TakesRefused-memory old now new bytes more (Ok m) taken then_taken h = tt
  TakesRefused-memory old now new bytes more (Err fault) taken then_taken h =
      subst (TakesRefused F old new) (sym h) (bytes ++ more, Consumes-then old now new bytes more taken then_taken, tt)

  -- no more bytes came to a head that isn't whole
  pub TakesRefused-none : (old now new : Option (List ℕ)) (bytes : List ℕ) (fault : ReadFault) → Consumes old now bytes
      → IsUndecided F bytes × (length bytes < head_limit) → GivesNone now new fault → TakesRefused F old new fault
  TakesRefused-none old now new bytes (Malformed is_head) taken part none = absurd none
  TakesRefused-none old now new bytes (HostMissingOrRepeated is_head) taken part none = absurd none
  TakesRefused-none old now new bytes (LengthMissing is_head) taken part none = absurd none
  TakesRefused-none old now new bytes (BodyTooLong is_head) taken part none = absurd none
  TakesRefused-none old now new bytes (HeadTooLong is_head) taken part none = absurd none
  TakesRefused-none old now new bytes (TransferCoding is_head) taken part none = absurd none
  TakesRefused-none old now new bytes (Expectation is_head) taken part none = absurd none
  TakesRefused-none old now new bytes EndedEarly taken part none = (bytes, Consumes-kept old now new bytes taken none.0, (inl part, none.1))
  TakesRefused-none old now new bytes ReadFailed taken part none = (bytes, Consumes-kept old now new bytes taken none, inl part)
  TakesRefused-none old now new bytes OutOfMemory taken part none = absurd none
  TakesRefused-none old now new bytes TurnsExhausted taken part none = (bytes, Consumes-kept old now new bytes taken none, inl part)

  Refuses-head : (bytes : List ℕ) (left : Option (List ℕ)) (fault : ReadFault) → IsHeadFault fault → IsRefusedHead F bytes fault → Refuses F bytes left fault
  Refuses-head bytes left (Malformed is_head) h r = inr r
  Refuses-head bytes left (HostMissingOrRepeated is_head) h r = r
  Refuses-head bytes left (LengthMissing is_head) h r = r
  Refuses-head bytes left (BodyTooLong is_head) h r = r
  Refuses-head bytes left (HeadTooLong is_head) h r = absurd h
  Refuses-head bytes left (TransferCoding is_head) h r = r
  Refuses-head bytes left (Expectation is_head) h r = r
  Refuses-head bytes left EndedEarly h r = absurd h
  Refuses-head bytes left ReadFailed h r = absurd h
  Refuses-head bytes left OutOfMemory h r = absurd h
  Refuses-head bytes left TurnsExhausted h r = absurd h

  -- a whole head that is refused
  pub TakesRefused-head : (old new : Option (List ℕ)) (m : Message) (fault : ReadFault) → TakesHead F old new m → F.judge m.head ≡ Err fault → TakesRefused F old new fault
  TakesRefused-head old new m fault took judged =
      (took.0, took.1, Refuses-head took.0 new fault (laws.judged m.head fault judged) (m.head, took.2, judged))

  module _ (old now new : Option (List ℕ)) (m : Message) (n : ℕ) (took : TakesHead F old now m) (judged : F.judge m.head ≡ Ok n) where
    part : (bytes : List ℕ) → length bytes < n → IsPartOfBody F (took.0 ++ bytes)
    part bytes short = record { front = took.0; part = bytes; head = m.head; stated = n; is_head = took.2; split = refl; accepted = judged; short = short }

    -- a body that was cut short
    pub TakesRefused-cut : (fault : ReadFault) → CutsBody now new n fault → TakesRefused F old new fault
    TakesRefused-cut (Malformed is_head) cut = absurd cut
    TakesRefused-cut (HostMissingOrRepeated is_head) cut = absurd cut
    TakesRefused-cut (LengthMissing is_head) cut = absurd cut
    TakesRefused-cut (BodyTooLong is_head) cut = absurd cut
    TakesRefused-cut (HeadTooLong is_head) cut = absurd cut
    TakesRefused-cut (TransferCoding is_head) cut = absurd cut
    TakesRefused-cut (Expectation is_head) cut = absurd cut
    TakesRefused-cut EndedEarly cut = (took.0 ++ cut.0, Consumes-then old now new took.0 cut.0 took.1 cut.1, (inr (part cut.0 cut.2), cut.3))
    TakesRefused-cut ReadFailed cut = (took.0 ++ cut.0, Consumes-then old now new took.0 cut.0 took.1 cut.1, inr (part cut.0 cut.2))
    TakesRefused-cut OutOfMemory cut = (took.0 ++ cut.0, Consumes-then old now new took.0 cut.0 took.1 cut.1, tt)
    TakesRefused-cut TurnsExhausted cut = (took.0 ++ cut.0, Consumes-then old now new took.0 cut.0 took.1 cut.1, inr (part cut.0 cut.2))

    -- a whole body
    pub TakesMessage-body : (after : Message) → TakesBody now new m after n → TakesMessage F old new after
    TakesMessage-body after body =
        let head : after.head ≡ m.head = ap (λ (k : Message). k.head) body.3 in
        let bytes : after.body ≡ body.0 = ap (λ (k : Message). k.body) body.3 ∙ ap (λ (t : List ℕ). t ++ body.0) took.3 in (
          took.0 ++ body.0,
          Consumes-then old now new took.0 body.0 took.1 body.1,
          record {
            front = took.0;
            head = rw head took.2;
            split = ap (λ (t : List ℕ). took.0 ++ t) (sym bytes);
            body = ap length bytes ∙ body.2 ∙ laws.accepted m.head n judged ∙ ap F.body (sym head);
          },
          (n, rw head judged),
        )
