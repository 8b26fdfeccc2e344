-- What is at a reader's front is found: each clause about it follows from what was taken.
use Rattle.std.proofs.Common.{◌≡◌, ℕ, Bool, false, ◌+◌, ◌<◌, ◌≤◌, List, [], ◌++◌, length, take, refl, ap, sym, ◌∙◌, subst, arith, append_assoc, length-append, Option, Some, None, Result, Ok, Err, inl, inr}
use Rattle.std.specs.Prelude.{IfOk, IfErr, ◌⊎◌}
use Rattle.std.specs.Io.KnownBytes.{Consumes}
use Rattle.std.proofs.lemmas.List.{append-nil, take_at}
use Rattle.http_text.specs.declared.fault.ReadFault.{ReadFault}
use Rattle.http_text.specs.declared.fault.ReadFault.TheVariants.{Malformed, HostMissingOrRepeated, LengthMissing, BodyTooLong, HeadTooLong, TransferCoding, Expectation, EndedEarly, ReadFailed, OutOfMemory, TurnsExhausted}
use Rattle.http_text.specs.Message.{Message, Head, head_limit, field_limit}
use Rattle.http_text.specs.Forms.{Form, IsHead, IsMessage, IsAcceptable}
use Rattle.http_text.specs.Heads.{AnswersLong, HasNone, NeverHas, MayBecome, Exceeds, IsUndecided, IsHeadAtLimit, HasTooManyFields, IsRefusedHead, IsPartOfBody, IsUnfinished, Refuses, TakesMessage, TakesRefused, IsStreamFault, Finds, Answers, AnswersMalformed, FindsMessage, FindsRefusedHead, IsPartOfHead, FindsEnd, IsLongPart, FindsLong, FindsMalformed}
use Rattle.http_text.proofs.FormLaws.{Laws}
use Rattle.http_text.proofs.ListLemmas.{front_of}
use Rattle.http_text.proofs.MessageLemmas.{reads_before, heads_same, messages_same}

module _ (F : Form) (laws : Laws F) where
  -- ---- what a refusal says of the whole of the bytes

  pub data Cause (s : List ℕ) (fault : ReadFault) : Type 0 where
    by_stream : IsStreamFault fault → Cause s fault
    by_head : (front after : List ℕ) (head : Head) → s ≡ front ++ after → IsHead F front head → F.judge head ≡ Err fault → Cause s fault
    by_bytes : (bytes left : List ℕ) → ((is_head : Bool) × (fault ≡ Malformed is_head)) → s ≡ bytes ++ left → NeverHas F bytes → length bytes ≤ head_limit → Cause s fault
    by_limit : (bytes left : List ℕ) → ((is_head : Bool) × (fault ≡ HeadTooLong is_head)) → s ≡ bytes ++ left → IsHeadAtLimit F bytes → Cause s fault
    by_fields : (bytes left : List ℕ) → ((is_head : Bool) × (fault ≡ HeadTooLong is_head)) → s ≡ bytes ++ left → HasTooManyFields F bytes → Cause s fault
    by_end : fault ≡ EndedEarly → IsUndecided F s → length s < head_limit → Cause s fault
    by_body : fault ≡ EndedEarly → IsPartOfBody F s → Cause s fault

  -- the remaining bytes of known bytes
  pub left_of : (s : List ℕ) (new : Option (List ℕ)) (bytes : List ℕ) → Consumes (Some s) new bytes → (left : List ℕ) × (new ≡ Some left) × (s ≡ bytes ++ left)
  left_of s None bytes h = absurd h
  left_of s (Some left) bytes h = (left, refl, h)

  refused_head : (s bytes left : List ℕ) (fault : ReadFault) → s ≡ bytes ++ left → IsRefusedHead F bytes fault → Cause s fault
  refused_head s bytes left fault split h = by_head bytes left h.0 split h.1 h.2

  ended : (s bytes left : List ℕ) → s ≡ bytes ++ left → IsUnfinished F bytes × (left ≡ []) → Cause s EndedEarly
  ended s bytes left split h =
      let all : bytes ≡ s = sym (append-nil bytes) ∙ ap (λ (t : List ℕ). bytes ++ t) (sym h.1) ∙ sym split in
      elim h.0 [
        | inl part ↦ by_end refl (subst (IsUndecided F) all part.0) (subst (λ (t : List ℕ). length t < head_limit) all part.1)
        | inr part ↦ by_body refl (subst (IsPartOfBody F) all part)
      ]

  cause_at : (s bytes left : List ℕ) (fault : ReadFault) → s ≡ bytes ++ left → Refuses F bytes (Some left) fault → Cause s fault
  cause_at s bytes left (Malformed is_head) split h =
      elim h [
        | inl bad ↦ by_bytes bytes left (is_head, refl) split bad.0.never bad.0.size
        | inr head ↦ refused_head s bytes left (Malformed is_head) split head
      ]
  cause_at s bytes left (HostMissingOrRepeated is_head) split h = refused_head s bytes left (HostMissingOrRepeated is_head) split h
  cause_at s bytes left (LengthMissing is_head) split h = refused_head s bytes left (LengthMissing is_head) split h
  cause_at s bytes left (BodyTooLong is_head) split h = refused_head s bytes left (BodyTooLong is_head) split h
  cause_at s bytes left (HeadTooLong is_head) split h =
      elim h.0 [
        | inl limit ↦ by_limit bytes left (is_head, refl) split limit
        | inr fields ↦ by_fields bytes left (is_head, refl) split fields
      ]
  cause_at s bytes left (TransferCoding is_head) split h = refused_head s bytes left (TransferCoding is_head) split h
  cause_at s bytes left (Expectation is_head) split h = refused_head s bytes left (Expectation is_head) split h
  cause_at s bytes left EndedEarly split h = ended s bytes left split h
  cause_at s bytes left ReadFailed split h = by_stream tt
  cause_at s bytes left OutOfMemory split h = by_stream tt
  cause_at s bytes left TurnsExhausted split h = by_stream tt

  pub cause : (s : List ℕ) (new : Option (List ℕ)) (fault : ReadFault) → TakesRefused F (Some s) new fault → Cause s fault
  cause s new fault h =
      let known = left_of s new h.0 h.1 in
      cause_at s h.0 known.0 fault known.2 (subst (λ (n : Option (List ℕ)). Refuses F h.0 n fault) known.1 h.2)

  -- ---- heads at the front

  -- a head at the front of all the bytes
  reads_all : (s front after : List ℕ) (tree : F.Tree) → s ≡ front ++ after → F.Reads front tree [] → F.Reads s tree after
  reads_all s front after tree split h = subst (λ (t : List ℕ). F.Reads t tree after) (sym split) (reads_before F laws front after tree h)

  -- it is in each front that isn't shorter
  reads_in : (front after bytes left : List ℕ) (tree : F.Tree) → front ++ after ≡ bytes ++ left → length front ≤ length bytes → F.Reads front tree []
      → (x : List ℕ) × F.Reads bytes tree x
  reads_in front after bytes left tree split le h =
      let p = front_of front after bytes left split le in
      (p.0, reads_all bytes front p.0 tree p.1 h)

  -- a part of a head has none
  no_head_in_part : (bytes more : List ℕ) (tree : F.Tree) → F.Reads (bytes ++ more) tree [] → 0 < length more → HasNone F bytes
  no_head_in_part bytes more tree whole some k rest h =
      let same = laws.unique (bytes ++ more) k tree (rest ++ more) [] (laws.append bytes k rest more h) whole in
      let none : length (rest ++ more) ≡ 0 = ap length same.1 in
      omega (arith, length-append rest more)

  -- bytes that never have one, at the front of others
  never_more : (bytes x : List ℕ) → NeverHas F bytes → NeverHas F (bytes ++ x)
  never_more bytes x never more tree rest h = never (x ++ more) tree rest (subst (λ (t : List ℕ). F.Reads t tree rest) (append_assoc bytes x more) h)

  never_now : (s bytes left : List ℕ) → s ≡ bytes ++ left → NeverHas F bytes → HasNone F s
  never_now s bytes left split never tree rest h = never left tree rest (subst (λ (t : List ℕ). F.Reads t tree rest) split h)

  ok_is_no_err : {A : Type 0} {fault : ReadFault} {n : A} → (r : Result A ReadFault) → r ≡ Ok n → r ≡ Err fault → ⊥
  ok_is_no_err r a b = cc

  one_fault : {A : Type 0} {a b : ReadFault} → (r : Result A ReadFault) → r ≡ Err a → r ≡ Err b → a ≡ b
  one_fault r x y = cc

  -- ---- an accepted or refused head at the front

  -- what a refusal says if there is a head at the front
  data WithHead (head : Head) (after : List ℕ) (fault : ReadFault) : Type 0 where
    of_stream : IsStreamFault fault → WithHead head after fault
    of_head : F.judge head ≡ Err fault → WithHead head after fault
    of_body : (n : ℕ) → fault ≡ EndedEarly → F.judge head ≡ Ok n → length after < n → WithHead head after fault

  with_head : (s front after : List ℕ) (head : Head) (fault : ReadFault) → s ≡ front ++ after → IsHead F front head → Cause s fault → WithHead head after fault
  with_head s front after head fault split is (by_stream h) = of_stream h
  with_head s front after head fault split is (by_head front2 after2 head2 split2 is2 judged) =
      let same = heads_same F laws front after front2 after2 head head2 (sym split ∙ split2) is is2 in
      of_head (ap F.judge same.2 ∙ judged)
  with_head s front after head fault split is (by_bytes bytes left e split2 never size) =
      absurd (never_now s bytes left split2 never is.tree after (reads_all s front after is.tree split is.reads))
  with_head s front after head fault split is (by_limit bytes left e split2 limit) =
      let length_is = limit.length_is in
      let size = is.size in
      let p = reads_in front after bytes left is.tree (sym split ∙ split2) (omega arith) is.reads in
      absurd (limit.undecided.none is.tree p.0 p.1)
  with_head s front after head fault split is (by_fields bytes left e split2 fields) =
      let few = is.fields in
      let many = fields.overflows left is.tree after (subst (λ (t : List ℕ). F.Reads t is.tree after) split2 (reads_all s front after is.tree split is.reads)) in
      absurd (omega arith)
  with_head s front after head fault split is (by_end e undecided short) =
      absurd (undecided.none is.tree after (reads_all s front after is.tree split is.reads))
  with_head s front after head fault split is (by_body e part) =
      let same = heads_same F laws front after part.front part.part head part.head (sym split ∙ part.split) is part.is_head in
      of_body part.stated e (ap F.judge same.2 ∙ part.accepted) (let short = part.short in subst (λ (t : List ℕ). length t < part.stated) (sym same.1) short)

  answers_head : (head : Head) (after : List ℕ) (wanted fault : ReadFault) → F.judge head ≡ Err wanted → WithHead head after fault → (fault ≡ wanted) ⊎ IsStreamFault fault
  answers_head head after wanted fault judged (of_stream h) = inr h
  answers_head head after wanted fault judged (of_head other) = inl (one_fault (F.judge head) other judged)
  answers_head head after wanted fault judged (of_body n e accepted short) = absurd (ok_is_no_err (F.judge head) accepted judged)

  finds_message : (s front after : List ℕ) (m : Message) (fault : ReadFault) → IsAcceptable F m → F.body m.head ≤ length after → WithHead m.head after fault → IsStreamFault fault
  finds_message s front after m fault accepted enough (of_stream h) = h
  finds_message s front after m fault accepted enough (of_head judged) = absurd (ok_is_no_err (F.judge m.head) accepted.1 judged)
  finds_message s front after m fault accepted enough (of_body n e judged short) =
      let stated = laws.accepted m.head n judged in
      absurd (omega arith)

  -- ---- what the clauses on long and malformed heads need

  too_many : (s : List ℕ) (tree : F.Tree) (rest front after : List ℕ) (head : Head) → F.Reads s tree rest → field_limit < length (F.lines tree)
      → s ≡ front ++ after → IsHead F front head → ⊥
  too_many s tree rest front after head reads many split is =
      let same = laws.unique s tree is.tree rest after reads (reads_all s front after is.tree split is.reads) in
      let few = is.fields in
      let counted : length (F.lines tree) ≡ length (F.lines is.tree) = ap (λ (t : F.Tree). length (F.lines t)) same.0 in
      omega arith

  -- what never has a head and may yet become one ends in a target
  in_target : (s : List ℕ) → NeverHas F s → MayBecome F s → F.IsLate s
  in_target s never may = elim may [ inl more ↦ absurd (never more.0 more.1 [] more.2) | inr target ↦ target ]

  limit_in_target : (bytes rest front left : List ℕ) → length bytes ≤ head_limit → NeverHas F bytes → bytes ++ rest ≡ front ++ left
      → IsHeadAtLimit F front → F.IsLate (take head_limit (bytes ++ rest))
  limit_in_target bytes rest front left size never split limit =
      let long = limit.length_is in
      let p = front_of bytes rest front left split (omega arith) in
      let whole : take head_limit (bytes ++ rest) ≡ front = ap (take head_limit) split ∙ take_at front left head_limit long in
      let target = in_target front (subst (NeverHas F) (sym p.1) (never_more bytes p.0 never)) limit.undecided.open_end in
      subst F.IsLate (sym whole) target

  exceeds_more : (front left s : List ℕ) → s ≡ front ++ left → Exceeds F field_limit front → Exceeds F field_limit s
  exceeds_more front left s split h =
      (h.0, h.1 ++ left, split ∙ ap (λ (t : List ℕ). t ++ left) h.2 ∙ append_assoc h.0 h.1 left, h.3, h.4, h.5)

  stream_for_malformed : (s : List ℕ) (fault : ReadFault) → IsStreamFault fault → AnswersMalformed F s (Err fault)
  stream_for_malformed s (Malformed is_head) h = tt
  stream_for_malformed s (HostMissingOrRepeated is_head) h = absurd h
  stream_for_malformed s (LengthMissing is_head) h = absurd h
  stream_for_malformed s (BodyTooLong is_head) h = absurd h
  stream_for_malformed s (HeadTooLong is_head) h = absurd h
  stream_for_malformed s (TransferCoding is_head) h = absurd h
  stream_for_malformed s (Expectation is_head) h = absurd h
  stream_for_malformed s EndedEarly h = absurd h
  stream_for_malformed s ReadFailed h = tt
  stream_for_malformed s OutOfMemory h = tt
  stream_for_malformed s TurnsExhausted h = tt

  -- ---- the clauses

  module _ (new : Option (List ℕ)) where
    message_at : (s : List ℕ) (r : Result Message ReadFault) → IfOk r (TakesMessage F (Some s) new) → IfErr r (TakesRefused F (Some s) new)
        → (bytes rest : List ℕ) (m : Message) → s ≡ bytes ++ rest → IsMessage F bytes m → IsAcceptable F m → Finds m rest new r
    message_at s (Ok found) took refused bytes rest m split is accepted =
        let known = left_of s new took.0 took.1 in
        let same = messages_same F laws took.0 known.0 bytes rest found m (sym known.2 ∙ split) took.2 is in
        (same.2, known.1 ∙ ap Some same.1)
    message_at s (Err fault) took refused bytes rest m split is accepted =
        let whole : s ≡ is.front ++ (m.body ++ rest) = split ∙ ap (λ (t : List ℕ). t ++ rest) is.split ∙ append_assoc is.front m.body rest in
        let enough : F.body m.head ≤ length (m.body ++ rest) = (let body = is.body in omega (arith, length-append m.body rest)) in
        finds_message s is.front (m.body ++ rest) m fault accepted enough (with_head s is.front (m.body ++ rest) m.head fault whole is.head (cause s new fault refused))

    refused_at : (s : List ℕ) (r : Result Message ReadFault) → IfOk r (TakesMessage F (Some s) new) → IfErr r (TakesRefused F (Some s) new)
        → (front rest : List ℕ) (head : Head) (fault : ReadFault) → s ≡ front ++ rest → IsHead F front head → F.judge head ≡ Err fault → Answers fault r
    refused_at s (Ok found) took refused front rest head fault split is judged =
        let known = left_of s new took.0 took.1 in
        let m = took.2 in
        let whole : s ≡ m.front ++ (found.body ++ known.0) = known.2 ∙ ap (λ (t : List ℕ). t ++ known.0) m.split ∙ append_assoc m.front found.body known.0 in
        let same = heads_same F laws m.front (found.body ++ known.0) front rest found.head head (sym whole ∙ split) m.head is in
        ok_is_no_err (F.judge head) (ap F.judge (sym same.2) ∙ took.3.1) judged
    refused_at s (Err answered) took refused front rest head fault split is judged =
        answers_head head rest fault answered judged (with_head s front rest head answered split is (cause s new answered refused))

    -- a part of a head is all there is
    part_of_head_at : (s : List ℕ) (r : Result Message ReadFault) → IfOk r (TakesMessage F (Some s) new) → IfErr r (TakesRefused F (Some s) new)
        → IsPartOfHead F s → Answers EndedEarly r
    part_of_head_at s (Ok found) took refused part =
        let known = left_of s new took.0 took.1 in
        let m = took.2 in
        let whole : s ≡ m.front ++ (found.body ++ known.0) = known.2 ∙ ap (λ (t : List ℕ). t ++ known.0) m.split ∙ append_assoc m.front found.body known.0 in
        no_head_in_part s part.more part.is_head.tree part.is_head.reads part.short m.head.tree (found.body ++ known.0) (reads_all s m.front (found.body ++ known.0) m.head.tree whole m.head.reads)
    part_of_head_at s (Err fault) took refused part =
        elim (cause s new fault refused) [
          | by_stream h ↦ inr h
          | by_head front after head split is judged ↦
              absurd (no_head_in_part s part.more part.is_head.tree part.is_head.reads part.short is.tree after (reads_all s front after is.tree split is.reads))
          | by_bytes bytes left e split never size ↦
              absurd (never_more bytes left never part.more part.is_head.tree [] (subst (λ (t : List ℕ). F.Reads (t ++ part.more) part.is_head.tree []) split part.is_head.reads))
          | by_limit bytes left e split limit ↦
              let long = limit.length_is in
              let size = part.is_head.size in
              let some = part.short in
              let sum : length s ≡ length bytes + length left = ap length split ∙ length-append bytes left in
              absurd (omega (arith, length-append s part.more))
          | by_fields bytes left e split fields ↦
              let few = part.is_head.fields in
              let many = fields.overflows (left ++ part.more) part.is_head.tree [] (subst (λ (t : List ℕ). F.Reads t part.is_head.tree []) (ap (λ (t : List ℕ). t ++ part.more) split ∙ append_assoc bytes left part.more) part.is_head.reads) in
              absurd (omega arith)
          | by_end e undecided short ↦ inl e
          | by_body e body ↦ inl e
        ]

    -- an accepted head and a part of its body are all there is
    part_of_body_at : (s : List ℕ) (r : Result Message ReadFault) → IfOk r (TakesMessage F (Some s) new) → IfErr r (TakesRefused F (Some s) new)
        → IsPartOfBody F s → Answers EndedEarly r
    part_of_body_at s (Ok found) took refused part =
        let known = left_of s new took.0 took.1 in
        let m = took.2 in
        let whole : s ≡ m.front ++ (found.body ++ known.0) = known.2 ∙ ap (λ (t : List ℕ). t ++ known.0) m.split ∙ append_assoc m.front found.body known.0 in
        let same = heads_same F laws m.front (found.body ++ known.0) part.front part.part found.head part.head (sym whole ∙ part.split) m.head part.is_head in
        let stated : part.stated ≡ F.body found.head = laws.accepted part.head part.stated part.accepted ∙ ap F.body (sym same.2) in
        let body = m.body in
        let short = part.short in
        let sum : length part.part ≡ length found.body + length known.0 = ap length (sym same.1) ∙ length-append found.body known.0 in
        omega arith
    part_of_body_at s (Err fault) took refused part =
        elim (with_head s part.front part.part part.head fault part.split part.is_head (cause s new fault refused)) [
          | of_stream h ↦ inr h
          | of_head judged ↦ absurd (ok_is_no_err (F.judge part.head) part.accepted judged)
          | of_body n e judged short ↦ inl e
        ]

    -- no head of few field lines is whole within the limit
    long_part_at : (s bytes rest : List ℕ) (r : Result Message ReadFault) → s ≡ bytes ++ rest → IfOk r (TakesMessage F (Some s) new) → IfErr r (TakesRefused F (Some s) new)
        → IsLongPart F bytes → AnswersLong r
    long_part_at s bytes rest (Ok found) split took refused part =
        let known = left_of s new took.0 took.1 in
        let m = took.2 in
        let whole : s ≡ m.front ++ (found.body ++ known.0) = known.2 ∙ ap (λ (t : List ℕ). t ++ known.0) m.split ∙ append_assoc m.front found.body known.0 in
        let size = m.head.size in
        let long = part.length_is in
        let p = reads_in m.front (found.body ++ known.0) bytes rest m.head.tree (sym whole ∙ split) (omega arith) m.head.reads in
        (false, no_head_in_part bytes part.more part.tree part.reads part.short m.head.tree p.0 p.1)
    long_part_at s bytes rest (Err fault) split took refused part =
        let long = part.length_is in
        elim (cause s new fault refused) [
          | by_stream h ↦ (false, inr h)
          | by_head front after head split2 is judged ↦
              let size = is.size in
              let p = reads_in front after bytes rest is.tree (sym split2 ∙ split) (omega arith) is.reads in
              absurd (no_head_in_part bytes part.more part.tree part.reads part.short is.tree p.0 p.1)
          | by_bytes front left e split2 never size ↦
              let p = front_of front left bytes rest (sym split2 ∙ split) (omega arith) in
              absurd (never_more front p.0 never part.more part.tree [] (subst (λ (t : List ℕ). F.Reads (t ++ part.more) part.tree []) p.1 part.reads))
          | by_limit front left e split2 limit ↦ (e.0, inl e.1)
          | by_fields front left e split2 fields ↦ (e.0, inl e.1)
          | by_end e undecided short ↦
              let sum : length s ≡ length bytes + length rest = ap length split ∙ length-append bytes rest in
              absurd (omega arith)
          | by_body e body ↦
              let size = body.is_head.size in
              let p = reads_in body.front body.part bytes rest body.is_head.tree (sym body.split ∙ split) (omega arith) body.is_head.reads in
              absurd (no_head_in_part bytes part.more part.tree part.reads part.short body.is_head.tree p.0 p.1)
        ]

    -- a whole head has too many field lines
    long_section_at : (s : List ℕ) (tree : F.Tree) (rest : List ℕ) (r : Result Message ReadFault) → F.Reads s tree rest → field_limit < length (F.lines tree)
        → IfOk r (TakesMessage F (Some s) new) → IfErr r (TakesRefused F (Some s) new) → AnswersLong r
    long_section_at s tree rest (Ok found) reads many took refused =
        let known = left_of s new took.0 took.1 in
        let m = took.2 in
        let whole : s ≡ m.front ++ (found.body ++ known.0) = known.2 ∙ ap (λ (t : List ℕ). t ++ known.0) m.split ∙ append_assoc m.front found.body known.0 in
        (false, too_many s tree rest m.front (found.body ++ known.0) found.head reads many whole m.head)
    long_section_at s tree rest (Err fault) reads many took refused =
        elim (cause s new fault refused) [
          | by_stream h ↦ (false, inr h)
          | by_head front after head split is judged ↦ absurd (too_many s tree rest front after head reads many split is)
          | by_bytes bytes left e split never size ↦ absurd (never_now s bytes left split never tree rest reads)
          | by_limit bytes left e split limit ↦ (e.0, inl e.1)
          | by_fields bytes left e split fields ↦ (e.0, inl e.1)
          | by_end e undecided short ↦ absurd (undecided.none tree rest reads)
          | by_body e body ↦ absurd (too_many s tree rest body.front body.part body.head reads many body.split body.is_head)
        ]

    -- no bytes make it a head
    malformed_at : (bytes rest : List ℕ) (r : Result Message ReadFault) → length bytes ≤ head_limit → NeverHas F bytes
        → IfOk r (TakesMessage F (Some (bytes ++ rest)) new) → IfErr r (TakesRefused F (Some (bytes ++ rest)) new) → AnswersMalformed F (bytes ++ rest) r
    malformed_at bytes rest (Ok found) size never took refused =
        let s = bytes ++ rest in
        let known = left_of s new took.0 took.1 in
        let m = took.2 in
        let whole : s ≡ m.front ++ (found.body ++ known.0) = known.2 ∙ ap (λ (t : List ℕ). t ++ known.0) m.split ∙ append_assoc m.front found.body known.0 in
        never rest m.head.tree (found.body ++ known.0) (reads_all s m.front (found.body ++ known.0) m.head.tree whole m.head.reads)
    malformed_at bytes rest (Err fault) size never took refused =
        let s = bytes ++ rest in
        elim (cause s new fault refused) [
          | by_stream h ↦ stream_for_malformed s fault h
          | by_head front after head split is judged ↦ absurd (never rest is.tree after (reads_all s front after is.tree split is.reads))
          | by_bytes front left e split never2 size2 ↦ subst (λ (f : ReadFault). AnswersMalformed F s (Err f)) (sym e.1) tt
          | by_limit front left e split limit ↦
              subst (λ (f : ReadFault). AnswersMalformed F s (Err f)) (sym e.1) (inl (limit_in_target bytes rest front left size never split limit))
          | by_fields front left e split fields ↦
              subst (λ (f : ReadFault). AnswersMalformed F s (Err f)) (sym e.1) (inr (exceeds_more front left s split fields.exceeds))
          | by_end e undecided short ↦
              subst (λ (f : ReadFault). AnswersMalformed F s (Err f)) (sym e) (in_target s (never_more bytes rest never) undecided.open_end)
          | by_body e body ↦ absurd (never rest body.is_head.tree body.part (reads_all s body.front body.part body.is_head.tree body.split body.is_head.reads))
        ]

  -- ---- for any reader

  finds_with : (old new : Option (List ℕ)) (s : List ℕ) (r : Result Message ReadFault) → old ≡ Some s
      → IfOk r (TakesMessage F old new) → IfErr r (TakesRefused F old new) → IfOk r (TakesMessage F (Some s) new) × IfErr r (TakesRefused F (Some s) new)
  finds_with old new s r e took refused =
      (subst (λ (o : Option (List ℕ)). IfOk r (TakesMessage F o new)) e took, subst (λ (o : Option (List ℕ)). IfErr r (TakesRefused F o new)) e refused)

  module _ (old new : Option (List ℕ)) (r : Result Message ReadFault) (took : IfOk r (TakesMessage F old new)) (refused : IfErr r (TakesRefused F old new)) where
    pub finds_message_at : FindsMessage F old new r
    finds_message_at bytes rest m e is accepted =
        let h = finds_with old new (bytes ++ rest) r e took refused in
        message_at new (bytes ++ rest) r h.0 h.1 bytes rest m refl is accepted

    pub finds_refused_head : FindsRefusedHead F old r
    finds_refused_head front rest head fault e is judged =
        let h = finds_with old new (front ++ rest) r e took refused in
        refused_at new (front ++ rest) r h.0 h.1 front rest head fault refl is judged

    pub finds_end : FindsEnd F old r
    finds_end bytes e part =
        let h = finds_with old new bytes r e took refused in
        elim part [ inl head ↦ part_of_head_at new bytes r h.0 h.1 head | inr body ↦ part_of_body_at new bytes r h.0 h.1 body ]

    pub finds_long : FindsLong F old r
    finds_long bytes rest e long =
        let h = finds_with old new (bytes ++ rest) r e took refused in
        elim long [
          | inl part ↦ long_part_at new (bytes ++ rest) bytes rest r refl h.0 h.1 part
          | inr section ↦ long_section_at new (bytes ++ rest) section.0 rest r (reads_before F laws bytes rest section.0 section.1) section.2 h.0 h.1
        ]

    pub finds_malformed : FindsMalformed F old r
    finds_malformed bytes rest e size never =
        let h = finds_with old new (bytes ++ rest) r e took refused in
        malformed_at new bytes rest r size never h.0 h.1
