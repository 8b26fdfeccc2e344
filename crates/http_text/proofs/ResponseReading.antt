-- What was read of a response: its head, and a body in chunks behind it.
use Rattle.std.proofs.Common.{◌≡◌, ℕ, ◌⊎◌, Bool, true, false, List, [], ◌++◌, length, refl, ap, sym, ◌∙◌, subst, arith, append_assoc, length-append, Option, Some, Result, Ok, Err, inl, inr}
use Rattle.std.specs.Prelude.{IfOk, IfErr}
use Rattle.std.proofs.lemmas.List.{append-nil}
use Rattle.http_text.specs.declared.fault.ReadFault.{ReadFault}
use Rattle.http_text.specs.declared.fault.ReadFault.TheVariants.{Malformed, BodyTooLong, EndedEarly}
use Rattle.http_text.specs.Message.{Message}
use Rattle.http_text.specs.Judging.{has_chunks}
use Rattle.http_text.specs.Forms.{response_form, IsMessage, IsAcceptable, IsBehind, IsOneResponse}
use Rattle.http_text.specs.Heads.{TakesMessage, TakesRefused, IsStreamFault, Finds, Answers}
use Rattle.http_text.specs.Chunks.{ReadsChunked, ReadsWithin, IsChunkedBody, NeverEnds, IsPartWithin, TakesChunked, CutsChunked, RefusesBody}
use Rattle.http_text.specs.Responses.{HasBehind, RefusesOne, TakesOne, TakesRefusedOne, AnswersMalformedBody}
use Rattle.http_text.proofs.ChunkLemmas.{one_body, chunked_before, body_is_read, body_is_cut, body_is_refused}
use Rattle.http_text.proofs.FindLemmas.{left_of, finds_message_at}
use Rattle.http_text.proofs.FormLaws.{response_laws}
use Rattle.http_text.proofs.JudgeLemmas.{response_chunks_length}
use Rattle.http_text.proofs.KnownLemmas.{Consumes-then}
use Rattle.http_text.proofs.ListLemmas.{empty_list, same_split}
use Rattle.http_text.proofs.MessageLemmas.{messages_same}

-- ---- what was taken

-- a message whose head announces no chunks is a response
pub stated_is_one : (bytes : List ℕ) (m : Message) → has_chunks m.head ≡ false → IsMessage response_form bytes m → IsAcceptable response_form m → IsOneResponse bytes m
stated_is_one bytes m none is accepted = record {
  front = bytes;
  behind = [];
  stated = m;
  split = sym (append-nil bytes);
  is_message = is;
  accepted = accepted;
  body = subst (λ b. IsBehind b m [] m) (sym none) (refl, refl);
}

-- a head that announces no chunks
pub takes_bare : (old new : Option (List ℕ)) (m : Message) → has_chunks m.head ≡ false → TakesMessage response_form old new m → TakesOne old new m
takes_bare old new m none took = (took.0, took.1, stated_is_one took.0 m none took.2 took.3)

-- it states no length
no_body : (front : List ℕ) (m : Message) → has_chunks m.head ≡ true → IsMessage response_form front m → IsAcceptable response_form m → m.body ≡ []
no_body front m chunks is accepted =
    empty_list m.body (is.body ∙ sym (response_laws.accepted m.head accepted.0 accepted.1) ∙ response_chunks_length m.head accepted.0 chunks accepted.1)

module _ (old now new : Option (List ℕ)) (m : Message) (chunks : has_chunks m.head ≡ true) (took : TakesMessage response_form old now m) where
  -- a head, and a body in chunks
  pub takes_chunked : (after : Message) → TakesChunked now new m after → TakesOne old new after
  takes_chunked after body =
      let content : after.body ≡ body.2 = ap (λ (k : Message). k.body) body.4 ∙ ap (λ (t : List ℕ). t ++ body.2) (no_body took.0 m chunks took.2 took.3) in
      let behind : IsBehind true m body.0 after = (ap (λ (k : Message). k.head) body.4, subst (λ (t : List ℕ). ReadsWithin body.0 t []) (sym content) body.3) in (
        took.0 ++ body.0,
        Consumes-then old now new took.0 body.0 took.1 body.1,
        record {
          front = took.0;
          behind = body.0;
          stated = m;
          split = refl;
          is_message = took.2;
          accepted = took.3;
          body = subst (λ b. IsBehind b m body.0 after) (sym chunks) behind;
        },
      )

  -- a head, and a body in chunks that is refused
  pub refused_behind : (fault : ReadFault) → CutsChunked now new fault → TakesRefusedOne old new fault
  refused_behind fault cut = (
    took.0 ++ cut.0,
    Consumes-then old now new took.0 cut.0 took.1 cut.1,
    inr (cut.0, record { front = took.0; stated = m; split = refl; is_message = took.2; accepted = took.3; chunks = chunks }, cut.2),
  )

-- a head that is refused
pub refused_first : (old new : Option (List ℕ)) (fault : ReadFault) → TakesRefused response_form old new fault → TakesRefusedOne old new fault
refused_first old new fault took = (took.0, took.1, inl took.2)

-- ---- bytes begin with one response at most

-- what follows one head is one thing
same_behind : (b : Bool) (stated : Message) (behind left other rest : List ℕ) (m n : Message) → behind ++ left ≡ other ++ rest → IsBehind b stated behind m → IsBehind b stated other n
    → (m ≡ n) × (left ≡ rest)
same_behind false stated behind left other rest m n e x y =
    (x.1 ∙ sym y.1, ap (λ t. t ++ left) (sym x.0) ∙ e ∙ ap (λ t. t ++ rest) y.0)
same_behind true stated behind left other rest m n e x y =
    let one = chunked_before behind m.body left x.1 in
    let two = subst (λ t. ReadsWithin t n.body rest) (sym e) (chunked_before other n.body rest y.1) in
    let same = one_body (behind ++ left) m.body n.body left rest one.reads two.reads in
    ((λ i. record { head = (x.0 ∙ sym y.0) i; body = same.0 i }), same.1)

pub ones_same : (a b c d : List ℕ) (m n : Message) → a ++ b ≡ c ++ d → IsOneResponse a m → IsOneResponse c n → (a ≡ c) × (b ≡ d) × (m ≡ n)
ones_same a b c d m n e x y =
    let whole : x.front ++ (x.behind ++ b) ≡ y.front ++ (y.behind ++ d) =
    sym (append_assoc x.front x.behind b) ∙ ap (λ t. t ++ b) (sym x.split) ∙ e ∙ ap (λ t. t ++ d) y.split ∙ append_assoc y.front y.behind d in
    let heads = messages_same response_form response_laws x.front (x.behind ++ b) y.front (y.behind ++ d) x.stated y.stated whole x.is_message y.is_message in
    let behind = same_behind (has_chunks y.stated.head) y.stated x.behind b y.behind d m n heads.1 (subst (λ (k : Message). IsBehind (has_chunks k.head) k x.behind m) heads.2 x.body) y.body in
    let long : length a ≡ length c = omega (arith, ap length e, ap length behind.1, length-append a b, length-append c d) in
    ((same_split a b c d e long).0, behind.1, behind.0)

-- ---- what is at the front is found

-- a head was read, and these bytes are left
head_read : (s bytes left front behind : List ℕ) (stated : Message) → s ≡ bytes ++ left → bytes ≡ front ++ behind → IsMessage response_form front stated → IsAcceptable response_form stated
    → TakesMessage response_form (Some s) (Some (behind ++ left)) stated
head_read s bytes left front behind stated split parts is accepted = (front, split ∙ ap (λ t. t ++ left) parts ∙ append_assoc front behind left, is, accepted)

-- two heads at one front, and what follows them
module _ (s bytes left behind other rest more : List ℕ) (split : s ≡ bytes ++ left) (has : HasBehind bytes behind) (whole : s ≡ other ++ rest) (front : List ℕ) (stated : Message)
    (parts : other ≡ front ++ more) (is : IsMessage response_form front stated) where
  same_head : (has.stated ≡ stated) × (behind ++ left ≡ more ++ rest)
  same_head =
      let e : has.front ++ (behind ++ left) ≡ front ++ (more ++ rest) =
      sym (append_assoc has.front behind left) ∙ ap (λ t. t ++ left) (sym has.split) ∙ sym split ∙ whole ∙ ap (λ t. t ++ rest) parts ∙ append_assoc front more rest in
      let same = messages_same response_form response_laws has.front (behind ++ left) front (more ++ rest) has.stated stated e has.is_message is in
      (same.2, same.1)

module _ (new : Option (List ℕ)) where
  -- a response is at the front
  pub response_at : (s : List ℕ) (r : Result Message ReadFault) → IfOk r (TakesOne (Some s) new) → IfErr r (TakesRefusedOne (Some s) new)
      → (bytes rest : List ℕ) (m : Message) → s ≡ bytes ++ rest → IsOneResponse bytes m → Finds m rest new r
  response_at s (Ok found) took refused bytes rest m whole is =
      let known = left_of response_form response_laws s new took.0 took.1 in
      let same = ones_same took.0 known.0 bytes rest found m (sym known.2 ∙ whole) took.2 is in
      (same.2, known.1 ∙ ap Some same.1)
  response_at s (Err fault) took refused bytes rest m whole is = by_cause refused.2
    where
      known : (left : List ℕ) × (new ≡ Some left) × (s ≡ refused.0 ++ left)
      known = left_of response_form response_laws s new refused.0 refused.1

      by_cause : RefusesOne refused.0 new fault → IsStreamFault fault
      by_cause (inl h) =
          finds_message_at response_form response_laws (Some s) new (Err fault) tt (refused.0, refused.1, h) is.front (is.behind ++ rest) is.stated
          (ap Some (whole ∙ ap (λ t. t ++ rest) is.split ∙ append_assoc is.front is.behind rest)) is.is_message is.accepted
      by_cause (inr h) =
          let same = same_head s refused.0 known.0 h.0 bytes rest is.behind known.2 h.1 whole is.front is.stated is.split is.is_message in
          let chunks : has_chunks is.stated.head ≡ true = ap (λ (k : Message). has_chunks k.head) (sym same.0) ∙ h.1.chunks in
          let body = subst (λ b. IsBehind b is.stated is.behind m) chunks is.body in
          body_is_read (h.0 ++ known.0) h.0 known.0 is.behind rest m.body fault refl same.1 body.1 (subst (λ o. RefusesBody h.0 o fault) known.1 h.2)

  -- a head at the front is refused, or is a part, or is too long
  module _ (X : Result Message ReadFault → Type 0) (s : List ℕ) (none : (m : Message) → X (Ok m) → ⊥)
      (heads : (new : Option (List ℕ)) (r : Result Message ReadFault) → IfOk r (TakesMessage response_form (Some s) new) → IfErr r (TakesRefused response_form (Some s) new) → X r) where
    pub by_head : (r : Result Message ReadFault) → IfOk r (TakesOne (Some s) new) → IfErr r (TakesRefusedOne (Some s) new) → X r
    by_head (Ok m) took refused =
        let known = left_of response_form response_laws s new took.0 took.1 in
        let is = took.2 in
        absurd (none is.stated (heads (Some (is.behind ++ known.0)) (Ok is.stated) (head_read s took.0 known.0 is.front is.behind is.stated known.2 is.split is.is_message is.accepted) tt))
    by_head (Err fault) took refused = by_cause refused.2
      where
        known : (left : List ℕ) × (new ≡ Some left) × (s ≡ refused.0 ++ left)
        known = left_of response_form response_laws s new refused.0 refused.1

        by_cause : RefusesOne refused.0 new fault → X (Err fault)
        by_cause (inl h) = heads new (Err fault) tt (refused.0, refused.1, h)
        by_cause (inr h) =
            let has = h.1 in
            absurd (none has.stated (heads (Some (h.0 ++ known.0)) (Ok has.stated) (head_read s refused.0 known.0 has.front h.0 has.stated known.2 has.split has.is_message has.accepted) tt))

  -- chunks are at the front
  module _ (s bytes behind rest : List ℕ) (whole : s ≡ bytes ++ rest) (has : HasBehind bytes behind) where
    by_chunks : (X : ReadFault → Type 0) → ((fault : ReadFault) → IsStreamFault fault → X fault)
        → ((part left : List ℕ) (fault : ReadFault) → behind ++ rest ≡ part ++ left → RefusesBody part (Some left) fault → X fault)
        → (fault : ReadFault) → TakesRefusedOne (Some s) new fault → X fault
    by_chunks X stream refuses fault refused = by_cause refused.2
      where
        known : (left : List ℕ) × (new ≡ Some left) × (s ≡ refused.0 ++ left)
        known = left_of response_form response_laws s new refused.0 refused.1

        by_cause : RefusesOne refused.0 new fault → X fault
        by_cause (inl h) =
            stream fault (finds_message_at response_form response_laws (Some s) new (Err fault) tt (refused.0, refused.1, h) has.front (behind ++ rest) has.stated
            (ap Some (whole ∙ ap (λ t. t ++ rest) has.split ∙ append_assoc has.front behind rest)) has.is_message has.accepted)
        by_cause (inr h) =
            let same = same_head s refused.0 known.0 h.0 bytes rest behind known.2 h.1 whole has.front has.stated has.split has.is_message in
            refuses h.0 known.0 fault (sym same.1) (subst (λ o. RefusesBody h.0 o fault) known.1 h.2)

    -- a whole response has a whole body in chunks
    chunks_whole : (m : Message) → TakesOne (Some s) new m → (body left : List ℕ) × (behind ++ rest ≡ body ++ left) × IsChunkedBody body m.body
    chunks_whole m took =
        let known = left_of response_form response_laws s new took.0 took.1 in
        let is = took.2 in
        let same = same_head s bytes rest behind took.0 known.0 is.behind whole has known.2 is.front is.stated is.split is.is_message in
        let chunks : has_chunks is.stated.head ≡ true = ap (λ (k : Message). has_chunks k.head) (sym same.0) ∙ has.chunks in
        (is.behind, known.0, same.1, (subst (λ b. IsBehind b is.stated is.behind m) chunks is.body).1)

  -- a part of a body in chunks is all there is
  pub part_at : (s behind : List ℕ) (r : Result Message ReadFault) → HasBehind s behind → IsPartWithin behind → IfOk r (TakesOne (Some s) new) → IfErr r (TakesRefusedOne (Some s) new)
      → Answers EndedEarly r
  part_at s behind (Ok m) has part took refused =
      let body = chunks_whole s s behind [] (sym (append-nil s)) has m took in
      let reads = chunked_before body.0 m.body body.1 body.3 in
      part.none m.body body.1 (subst (λ t. ReadsChunked t m.body body.1) (sym body.2 ∙ append-nil behind) reads.reads)
  part_at s behind (Err fault) has part took refused =
      by_chunks s s behind [] (sym (append-nil s)) has (λ f. (f ≡ EndedEarly) ⊎ IsStreamFault f) (λ f h. inr h)
      (λ bytes left f e h. body_is_cut behind bytes left f (sym (append-nil behind) ∙ e) part h) fault refused

  -- malformed chunks are at the front
  pub malformed_at : (s bytes behind rest : List ℕ) (r : Result Message ReadFault) → s ≡ bytes ++ rest → HasBehind bytes behind → NeverEnds behind
      → IfOk r (TakesOne (Some s) new) → IfErr r (TakesRefusedOne (Some s) new) → AnswersMalformedBody r
  malformed_at s bytes behind rest (Ok m) whole has never took refused =
      let body = chunks_whole s bytes behind rest whole has m took in
      let reads = chunked_before body.0 m.body body.1 body.3 in
      never rest m.body body.1 (subst (λ t. ReadsChunked t m.body body.1) (sym body.2) reads.reads)
  malformed_at s bytes behind rest (Err fault) whole has never took refused =
      by_chunks s bytes behind rest whole has (λ f. (f ≡ Malformed false) ⊎ ((f ≡ BodyTooLong false) ⊎ IsStreamFault f)) (λ f h. inr (inr h))
      (λ part left f e h. body_is_refused (behind ++ rest) part left behind rest f e refl never h) fault refused
