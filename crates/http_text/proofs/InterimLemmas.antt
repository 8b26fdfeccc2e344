-- What was read behind interim responses.
use Rattle.std.proofs.Common.{◌≡◌, ℕ, zero, suc, ◌≤◌, ◌⊎◌, true, false, List, [], ◌∷◌, ◌++◌, length, refl, ap, sym, ◌∙◌, subst, arith, append_assoc, Option, Some, Result, Ok, Err, inl, inr}
use Rattle.std.specs.Prelude.{IfOk, IfErr}
use Rattle.std.specs.Io.KnownBytes.{Consumes}
use Rattle.std.proofs.lemmas.List.{append-nil}
use Rattle.http_text.specs.declared.fault.ReadFault.{ReadFault}
use Rattle.http_text.specs.declared.fault.ReadFault.TheVariants.{Malformed, HostMissingOrRepeated, LengthMissing, BodyTooLong, HeadTooLong, TransferCoding, Expectation, EndedEarly, ReadFailed, OutOfMemory, TurnsExhausted}
use Rattle.http_text.specs.Message.{Message, head_limit}
use Rattle.http_text.specs.Judging.{has_chunks, is_interim}
use Rattle.http_text.specs.Forms.{response_form, IsMessage, IsAcceptable, IsOneResponse, IsInterim, AfterInterims, interim_limit, IsFinalResponse, IsResponseMessage}
use Rattle.http_text.specs.Heads.{IsStreamFault, Finds, Answers, AnswersLong, AnswersMalformed, IsRefusedHead, IsLongPart, HasLongSection, NeverHas}
use Rattle.http_text.specs.Chunks.{NeverEnds}
use Rattle.http_text.specs.Responses.{HasBehind, TakesOne, TakesRefusedOne, IsPartOfOne, RefusesResponse, TakesWithin, TakesRefusedWithin, TakesResponse, TakesRefusedResponse, FindsResponse, FindsRefusedResponse, FindsResponseEnd, FindsLongResponse, AnswersMalformedHead, FindsMalformedResponse, AnswersMalformedBody, FindsMalformedBody, FindsInterims, ResponsesAreApart}
use Rattle.http_text.proofs.FindLemmas.{left_of, finds_refused_head, finds_end, finds_long, finds_malformed}
use Rattle.http_text.proofs.FormLaws.{response_laws}
use Rattle.http_text.proofs.KnownLemmas.{Consumes-then}
use Rattle.http_text.proofs.ResponseReading.{stated_is_one, ones_same, response_at, by_head, part_at, malformed_at}

-- ---- responses

-- a message that isn't interim and announces no chunks is a response
pub stated_is_response : (bytes : List ℕ) (m : Message) → has_chunks m.head ≡ false → is_interim m.head ≡ false → IsMessage response_form bytes m → IsAcceptable response_form m
    → IsResponseMessage bytes m
stated_is_response bytes m none last is accepted = inl (stated_is_one bytes m none is accepted, last)

not_both : (a b : Message) → a ≡ b → is_interim a.head ≡ true → is_interim b.head ≡ false → ⊥
not_both a b same interim last = absurd (cc)

-- a response is no interim response
final_is_last : (a b c d : List ℕ) (m : Message) → a ++ b ≡ c ++ d → IsInterim a → IsOneResponse c m → is_interim m.head ≡ false → ⊥
final_is_last a b c d m e i is last = not_both i.message m (ones_same a b c d i.message m e i.is is).2 i.interim last

interims_same : (a b c d : List ℕ) → a ++ b ≡ c ++ d → IsInterim a → IsInterim c → b ≡ d
interims_same a b c d e x y = (ones_same a b c d x.message y.message e x.is y.is).1

-- what follows the first interim response
behind_first : (s bytes left front rest : List ℕ) → s ≡ bytes ++ left → bytes ≡ front ++ rest → s ≡ front ++ (rest ++ left)
behind_first s bytes left front rest split parts = split ∙ ap (λ t. t ++ left) parts ∙ append_assoc front rest left

-- two responses at the front of one list are one
same_within : (room : ℕ) (s a b c d : List ℕ) (m n : Message) → s ≡ a ++ b → s ≡ c ++ d → AfterInterims room (IsFinalResponse m) a → AfterInterims room (IsFinalResponse n) c
    → (b ≡ d) × (m ≡ n)
same_within zero s a b c d m n e f x y = let same = ones_same a b c d m n (sym e ∙ f) x.0 y.0 in (same.1, same.2)
same_within (suc room) s a b c d m n e f (inl x) (inl y) = let same = ones_same a b c d m n (sym e ∙ f) x.0 y.0 in (same.1, same.2)
same_within (suc room) s a b c d m n e f (inl x) (inr y) =
    absurd (final_is_last y.0 (y.1 ++ d) a b m (sym (behind_first s c d y.0 y.1 f y.3) ∙ e) y.2 x.0 x.1)
same_within (suc room) s a b c d m n e f (inr x) (inl y) =
    absurd (final_is_last x.0 (x.1 ++ b) c d n (sym (behind_first s a b x.0 x.1 e x.3) ∙ f) x.2 y.0 y.1)
same_within (suc room) s a b c d m n e f (inr x) (inr y) =
    let rests = interims_same x.0 (x.1 ++ b) y.0 (y.1 ++ d) (sym (behind_first s a b x.0 x.1 e x.3) ∙ behind_first s c d y.0 y.1 f y.3) x.2 y.2 in
    same_within room (x.1 ++ b) x.1 b y.1 d m n refl rests x.4 y.4

pub responses_same : (a b c d : List ℕ) (m n : Message) → a ++ b ≡ c ++ d → IsResponseMessage a m → IsResponseMessage c n → (b ≡ d) × (m ≡ n)
responses_same a b c d m n e x y = same_within interim_limit (a ++ b) a b c d m n refl e x y

pub responses_apart : ResponsesAreApart
responses_apart bytes more m n x y =
    let same = responses_same bytes more (bytes ++ more) [] m n (sym (append-nil (bytes ++ more))) x y in
    (same.1, same.0)

first_empty : (xs ys : List ℕ) → xs ++ ys ≡ [] → xs ≡ []
first_empty [] ys e = refl
first_empty (x ∷ xs) ys e = absurd (cc e)

not_empty : (bytes : List ℕ) (m : Message) → bytes ≡ [] → IsOneResponse bytes m → ⊥
not_empty bytes m none is =
    let message = is.is_message in
    let front : message.front ≡ [] = first_empty message.front is.stated.body (sym message.split ∙ first_empty is.front is.behind (sym is.split ∙ none)) in
    response_laws.undecided.none message.head.tree [] (subst (λ (b : List ℕ). response_form.Reads b message.head.tree []) front message.head.reads)

-- no bytes are no response
pub no_response : (bytes : List ℕ) (m : Message) → bytes ≡ [] → IsResponseMessage bytes m → ⊥
no_response bytes m none (inl x) = not_empty bytes m none x.0
no_response bytes m none (inr x) = not_empty x.0 x.2.message (first_empty x.0 x.1 (sym x.3 ∙ none)) x.2.is

-- ---- what was taken

-- a response that isn't interim
pub takes_final : (room : ℕ) (old new : Option (List ℕ)) (m : Message) → is_interim m.head ≡ false → TakesOne old new m → TakesWithin room old new m
takes_final zero old new m last took = (took.0, took.1, (took.2, last))
takes_final (suc room) old new m last took = (took.0, took.1, inl (took.2, last))

pub refuses_first : (room : ℕ) (old new : Option (List ℕ)) (fault : ReadFault) → TakesRefusedOne old new fault → TakesRefusedWithin room old new fault
refuses_first zero old new fault took = (took.0, took.1, inl took.2)
refuses_first (suc room) old new fault took = (took.0, took.1, inl (inl took.2))

-- an interim response for which there is no room
pub refuses_interim : (room : ℕ) (old new : Option (List ℕ)) (m : Message) → room ≡ 0 → is_interim m.head ≡ true → TakesOne old new m → TakesRefusedWithin room old new (Malformed false)
refuses_interim zero old new m none interim took = (took.0, took.1, inr (none, record { message = m; is = took.2; interim = interim }, refl))
refuses_interim (suc room) old new m none interim took = absurd (omega (arith, none))

module _ (room less : ℕ) (is : room ≡ suc less) (old now new : Option (List ℕ)) (m : Message) (interim : is_interim m.head ≡ true) (took : TakesOne old now m) where
  -- an interim response, and a response behind it
  takes_behind : (last : Message) → TakesWithin less now new last → TakesWithin room old new last
  takes_behind last then =
      subst (λ n. TakesWithin n old new last) (sym is)
      (took.0 ++ then.0, Consumes-then old now new took.0 then.0 took.1 then.1, inr (took.0, then.0, record { message = m; is = took.2; interim = interim }, refl, then.2))

  pub all_taken_behind : (r : Result Message ReadFault) → IfOk r (TakesWithin less now new) → IfOk r (TakesWithin room old new)
  all_taken_behind (Ok last) then = takes_behind last then
  all_taken_behind (Err fault) then = tt

  refuses_behind : (fault : ReadFault) → TakesRefusedWithin less now new fault → TakesRefusedWithin room old new fault
  refuses_behind fault then =
      subst (λ n. TakesRefusedWithin n old new fault) (sym is)
      (took.0 ++ then.0, Consumes-then old now new took.0 then.0 took.1 then.1, inr (took.0, then.0, record { message = m; is = took.2; interim = interim }, refl, then.2))

  pub all_refused_behind : (r : Result Message ReadFault) → IfErr r (TakesRefusedWithin less now new) → IfErr r (TakesRefusedWithin room old new)
  all_refused_behind (Ok last) then = tt
  all_refused_behind (Err fault) then = refuses_behind fault then

-- ---- what is at the front is found

-- a response that isn't interim was read
abbrev TakesFinal : List ℕ → Option (List ℕ) → Message → Type 0
TakesFinal s new m = TakesOne (Some s) new m × (is_interim m.head ≡ false)

takes_one : (s : List ℕ) (new : Option (List ℕ)) (r : Result Message ReadFault) → IfOk r (TakesFinal s new) → IfOk r (TakesOne (Some s) new)
takes_one s new (Ok m) x = x.0
takes_one s new (Err fault) x = tt

-- bytes of another kind behind the same interim responses
other_kind : (P Q : ℕ → List ℕ → Type 0) → ((room : ℕ) (last : List ℕ) → P room last → Q room last) → (room : ℕ) (bytes : List ℕ) → AfterInterims room P bytes → AfterInterims room Q bytes
other_kind P Q f zero bytes h = f zero bytes h
other_kind P Q f (suc room) bytes (inl h) = inl (f (suc room) bytes h)
other_kind P Q f (suc room) bytes (inr h) = inr (h.0, h.1, h.2, h.3, other_kind P Q f room h.1 h.4)

-- they are at the end of all the bytes
abbrev AtEnd : List ℕ → (ℕ → List ℕ → Type 0) → ℕ → List ℕ → Type 0
AtEnd bytes P room last = P room last × ((front : List ℕ) × (bytes ≡ front ++ last))

at_end : (P : ℕ → List ℕ → Type 0) (room : ℕ) (bytes : List ℕ) → AfterInterims room P bytes → AfterInterims room (AtEnd bytes P) bytes
at_end P zero bytes h = (h, ([], refl))
at_end P (suc room) bytes (inl h) = inl (h, ([], refl))
at_end P (suc room) bytes (inr h) =
    inr (
      h.0,
      h.1,
      h.2,
      h.3,
      other_kind (AtEnd h.1 P) (AtEnd bytes P)
          (λ room last x. (x.0, (h.0 ++ x.1.0, h.3 ∙ ap (λ t. h.0 ++ t) x.1.1 ∙ sym (append_assoc h.0 x.1.0 last)))) room h.1 (at_end P room h.1 h.4),
    )

module _ (P : ℕ → List ℕ → Type 0) (Y : Result Message ReadFault → Type 0) (new : Option (List ℕ))
    -- a fault of the stream is a result
    (stream : (fault : ReadFault) → IsStreamFault fault → Y (Err fault))
    -- bytes of this kind, of which the last are left
    (end : List ℕ)
    -- what one response gives
    (final : (room : ℕ) (s last : List ℕ) (r : Result Message ReadFault) → s ≡ last ++ end → P room last → IfOk r (TakesFinal s new) → IfErr r (TakesRefusedOne (Some s) new) → Y r)
    -- they are no interim response, or there is no room for one
    (passes : (room : ℕ) (s last front rest : List ℕ) → s ≡ last ++ end → P (suc room) last → s ≡ front ++ rest → IsInterim front → ⊥)
    (ninth : (s last front rest : List ℕ) → s ≡ last ++ end → P zero last → s ≡ front ++ rest → IsInterim front → Y (Err (Malformed false))) where
  settles_ok : (room : ℕ) (s bytes left all : List ℕ) (m : Message) → new ≡ Some left → s ≡ bytes ++ left → AfterInterims room (IsFinalResponse m) bytes → s ≡ all ++ end → AfterInterims room P all → Y (Ok m)
  settles_ok zero s bytes left all m known e x f p = final zero s all (Ok m) f p ((bytes, subst (λ o. Consumes (Some s) o bytes) (sym known) e, x.0), x.1) tt
  settles_ok (suc room) s bytes left all m known e (inl x) f (inl p) = final (suc room) s all (Ok m) f p ((bytes, subst (λ o. Consumes (Some s) o bytes) (sym known) e, x.0), x.1) tt
  settles_ok (suc room) s bytes left all m known e (inl x) f (inr p) =
      absurd (final_is_last p.0 (p.1 ++ end) bytes left m (sym (behind_first s all end p.0 p.1 f p.3) ∙ e) p.2 x.0 x.1)
  settles_ok (suc room) s bytes left all m known e (inr x) f (inl p) = absurd (passes room s all x.0 (x.1 ++ left) f p (behind_first s bytes left x.0 x.1 e x.3) x.2)
  settles_ok (suc room) s bytes left all m known e (inr x) f (inr p) =
      let rests = interims_same x.0 (x.1 ++ left) p.0 (p.1 ++ end) (sym (behind_first s bytes left x.0 x.1 e x.3) ∙ behind_first s all end p.0 p.1 f p.3) x.2 p.2 in
      settles_ok room (x.1 ++ left) x.1 left p.1 m known refl x.4 rests p.4

  settles_err : (room : ℕ) (s bytes left all : List ℕ) (fault : ReadFault) → new ≡ Some left → s ≡ bytes ++ left → AfterInterims room (RefusesResponse new fault) bytes → s ≡ all ++ end → AfterInterims room P all → Y (Err fault)
  settles_err zero s bytes left all fault known e (inl x) f p = final zero s all (Err fault) f p tt (bytes, subst (λ o. Consumes (Some s) o bytes) (sym known) e, x)
  settles_err zero s bytes left all fault known e (inr x) f p = subst (λ k. Y (Err k)) (sym x.2) (ninth s all bytes left f p e x.1)
  settles_err (suc room) s bytes left all fault known e (inl (inl x)) f (inl p) = final (suc room) s all (Err fault) f p tt (bytes, subst (λ o. Consumes (Some s) o bytes) (sym known) e, x)
  settles_err (suc room) s bytes left all fault known e (inl (inl x)) f (inr p) =
      stream fault (response_at new s (Err fault) tt (bytes, subst (λ o. Consumes (Some s) o bytes) (sym known) e, x) p.0 (p.1 ++ end) p.2.message (behind_first s all end p.0 p.1 f p.3) p.2.is)
  settles_err (suc room) s bytes left all fault known e (inl (inr x)) f p = absurd (omega (arith, x.0))
  settles_err (suc room) s bytes left all fault known e (inr x) f (inl p) = absurd (passes room s all x.0 (x.1 ++ left) f p (behind_first s bytes left x.0 x.1 e x.3) x.2)
  settles_err (suc room) s bytes left all fault known e (inr x) f (inr p) =
      let rests = interims_same x.0 (x.1 ++ left) p.0 (p.1 ++ end) (sym (behind_first s bytes left x.0 x.1 e x.3) ∙ behind_first s all end p.0 p.1 f p.3) x.2 p.2 in
      settles_err room (x.1 ++ left) x.1 left p.1 fault known refl x.4 rests p.4

  settles : (s all : List ℕ) (r : Result Message ReadFault) → IfOk r (TakesResponse (Some s) new) → IfErr r (TakesRefusedResponse (Some s) new) → s ≡ all ++ end → AfterInterims interim_limit P all → Y r
  settles s all (Ok m) took refused f p =
      let known = left_of response_form response_laws s new took.0 took.1 in
      settles_ok interim_limit s took.0 known.0 all m known.1 known.2 took.2 f p
  settles s all (Err fault) took refused f p =
      let known = left_of response_form response_laws s new refused.0 refused.1 in
      settles_err interim_limit s refused.0 known.0 all fault known.1 known.2 refused.2 f p

-- an interim response was read of these bytes
one_read : (s front rest : List ℕ) (i : IsInterim front) → s ≡ front ++ rest → TakesOne (Some s) (Some rest) i.message
one_read s front rest i e = (front, e, i.is)

stream_answers : (wanted fault : ReadFault) → IsStreamFault fault → Answers wanted (Err fault)
stream_answers wanted fault h = inr h

stream_malformed : (all : List ℕ) (fault : ReadFault) → IsStreamFault fault → AnswersMalformedHead all (Err fault)
stream_malformed all (Malformed is_head) h = tt
stream_malformed all (HostMissingOrRepeated is_head) h = absurd h
stream_malformed all (LengthMissing is_head) h = absurd h
stream_malformed all (BodyTooLong is_head) h = absurd h
stream_malformed all (HeadTooLong is_head) h = absurd h
stream_malformed all (TransferCoding is_head) h = absurd h
stream_malformed all (Expectation is_head) h = absurd h
stream_malformed all EndedEarly h = absurd h
stream_malformed all ReadFailed h = tt
stream_malformed all OutOfMemory h = tt
stream_malformed all TurnsExhausted h = tt

module _ (old new : Option (List ℕ)) (r : Result Message ReadFault) (took : IfOk r (TakesResponse old new)) (refused : IfErr r (TakesRefusedResponse old new)) where
  took_at : (s : List ℕ) → old ≡ Some s → IfOk r (TakesResponse (Some s) new)
  took_at s e = subst (λ (o : Option (List ℕ)). IfOk r (TakesResponse o new)) e took

  refused_at : (s : List ℕ) → old ≡ Some s → IfErr r (TakesRefusedResponse (Some s) new)
  refused_at s e = subst (λ (o : Option (List ℕ)). IfErr r (TakesRefusedResponse o new)) e refused

  pub finds_response : FindsResponse old new r
  finds_response bytes rest m e is =
      settles (IsFinalResponse m) (Finds m rest new) new (λ f h. h) rest
      (λ room s last k split p x y. response_at new s k (takes_one s new k x) y last rest m split p.0)
      (λ room s last front after split p other i. final_is_last front after last rest m (sym other ∙ split) i p.0 p.1)
      (λ s last front after split p other i. absurd (final_is_last front after last rest m (sym other ∙ split) i p.0 p.1))
      (bytes ++ rest) bytes r (took_at _ e) (refused_at _ e) refl is

  -- a claim about one response, whose result is no message
  module _ (P : List ℕ → Type 0) (Y : Result Message ReadFault → Type 0) (stream : (fault : ReadFault) → IsStreamFault fault → Y (Err fault)) (none : (m : Message) → Y (Ok m) → ⊥) (end : List ℕ)
      (one : (s last : List ℕ) (k : Option (List ℕ)) (q : Result Message ReadFault) → s ≡ last ++ end → P last → IfOk q (TakesOne (Some s) k) → IfErr q (TakesRefusedOne (Some s) k) → Y q) where
    passed : (s last front rest : List ℕ) → s ≡ last ++ end → P last → s ≡ front ++ rest → IsInterim front → ⊥
    passed s last front rest split p other i = none i.message (one s last (Some rest) (Ok i.message) split p (one_read s front rest i other) tt)

    claims : (bytes : List ℕ) → old ≡ Some (bytes ++ end) → AfterInterims interim_limit (λ room last. P last) bytes → Y r
    claims bytes e p =
        settles (λ room last. P last) Y new stream end
        (λ room s last q split h x y. one s last new q split h (takes_one s new q x) y)
        (λ room s last front rest split h other i. passed s last front rest split h other i)
        (λ s last front rest split h other i. absurd (passed s last front rest split h other i))
        (bytes ++ end) bytes r (took_at _ e) (refused_at _ e) refl p

  pub finds_refused_response : FindsRefusedResponse old r
  finds_refused_response fault h =
      claims (λ bytes. IsRefusedHead response_form bytes fault) (Answers fault) (stream_answers fault) (λ m x. x) h.1
      (λ s last k q split p x y.
      by_head k (Answers fault) s (λ m z. z)
      (λ mid j a b. finds_refused_head response_form response_laws (Some s) mid j a b last h.1 p.0 fault (ap Some split) p.1 p.2) q x y)
      h.0 h.2 h.3

  pub finds_response_end : FindsResponseEnd old r
  finds_response_end bytes e part =
      claims IsPartOfOne (Answers EndedEarly) (stream_answers EndedEarly) (λ m x. x) []
      (λ s last k q split p x y. one s last k q (split ∙ append-nil last) p x y)
      bytes (e ∙ ap Some (sym (append-nil bytes))) part
    where
      one : (s last : List ℕ) (k : Option (List ℕ)) (q : Result Message ReadFault) → s ≡ last → IsPartOfOne last → IfOk q (TakesOne (Some s) k) → IfErr q (TakesRefusedOne (Some s) k) → Answers EndedEarly q
      one s last k q is (inl head) x y = by_head k (Answers EndedEarly) s (λ m z. z) (λ mid j a b. finds_end response_form response_laws (Some s) mid j a b last (ap Some is) (inl head)) q x y
      one s last k q is (inr (inl body)) x y = by_head k (Answers EndedEarly) s (λ m z. z) (λ mid j a b. finds_end response_form response_laws (Some s) mid j a b last (ap Some is) (inr body)) q x y
      one s last k q is (inr (inr p)) x y = part_at k s p.0 q (subst (λ t. HasBehind t p.0) (sym is) p.1) p.2 x y

  pub finds_long_response : FindsLongResponse old r
  finds_long_response h =
      claims (λ bytes. IsLongPart response_form bytes ⊎ HasLongSection response_form bytes) AnswersLong (λ f x. (false, inr x)) (λ m x. x.1) h.1
      (λ s last k q split p x y.
      by_head k AnswersLong s (λ m z. z.1) (λ mid j a b. finds_long response_form response_laws (Some s) mid j a b last h.1 (ap Some split) p) q x y)
      h.0 h.2 h.3

  pub finds_malformed_body : FindsMalformedBody old r
  finds_malformed_body h =
      claims (λ bytes. (behind : List ℕ) × HasBehind bytes behind × NeverEnds behind) AnswersMalformedBody (λ f x. inr (inr x)) (λ m x. x) h.1
      (λ s last k q split p x y. malformed_at k s last p.0 h.1 q split p.1 p.2 x y)
      h.0 h.2 h.3

  pub finds_interims : FindsInterims old r
  finds_interims h =
      settles (λ room bytes. (room ≡ 0) × IsInterim bytes) (Answers (Malformed false)) new (stream_answers (Malformed false)) h.1
      (λ room s last q split p x y. no_final s last q split p.1 x y)
      (λ room s last front rest split p other i. absurd (omega (arith, p.0)))
      (λ s last front rest split p other i. inl refl)
      (h.0 ++ h.1) h.0 r (took_at _ h.2) (refused_at _ h.2) refl h.3
    where
      no_final : (s last : List ℕ) (q : Result Message ReadFault) → s ≡ last ++ h.1 → IsInterim last → IfOk q (TakesFinal s new) → IfErr q (TakesRefusedOne (Some s) new) → Answers (Malformed false) q
      no_final s last (Ok m) split i x y =
          let known = left_of response_form response_laws s new x.0.0 x.0.1 in
          final_is_last last h.1 x.0.0 known.0 m (sym split ∙ known.2) i x.0.2 x.1
      no_final s last (Err fault) split i x y = inr (response_at new s (Err fault) tt y last h.1 i.message split i.is)

  pub finds_malformed_response : FindsMalformedResponse old r
  finds_malformed_response bytes rest e h =
      claims (λ last. (length last ≤ head_limit) × NeverHas response_form last × ((front : List ℕ) × (bytes ≡ front ++ last))) (AnswersMalformedHead (bytes ++ rest)) (stream_malformed (bytes ++ rest)) (λ m x. x) rest
      (λ s last k q split p x y.
      within s last split p.2 q
      (by_head k (AnswersMalformed response_form s) s (λ m z. z)
      (λ mid j a b. subst (λ t. AnswersMalformed response_form t j) (sym split) (finds_malformed response_form response_laws (Some s) mid j a b last rest (ap Some split) p.0 p.1)) q x y))
      bytes e
      (other_kind (AtEnd bytes (λ room last. (length last ≤ head_limit) × NeverHas response_form last)) (λ room last. (length last ≤ head_limit) × NeverHas response_form last × ((front : List ℕ) × (bytes ≡ front ++ last)))
      (λ room last x. (x.0.0, x.0.1, x.1)) interim_limit bytes (at_end (λ room last. (length last ≤ head_limit) × NeverHas response_form last) interim_limit bytes h))
    where
      within : (s last : List ℕ) → s ≡ last ++ rest → ((front : List ℕ) × (bytes ≡ front ++ last)) → (q : Result Message ReadFault) → AnswersMalformed response_form s q → AnswersMalformedHead (bytes ++ rest) q
      within s last split at (Ok m) a = a
      within s last split at (Err (Malformed is_head)) a = tt
      within s last split at (Err (HostMissingOrRepeated is_head)) a = a
      within s last split at (Err (LengthMissing is_head)) a = a
      within s last split at (Err (BodyTooLong is_head)) a = a
      within s last split at (Err (HeadTooLong is_head)) (inl a) = absurd a
      within s last split at (Err (HeadTooLong is_head)) (inr a) =
          (at.0, s, ap (λ t. t ++ rest) at.1 ∙ append_assoc at.0 last rest ∙ ap (λ t. at.0 ++ t) (sym split), a)
      within s last split at (Err (TransferCoding is_head)) a = a
      within s last split at (Err (Expectation is_head)) a = a
      within s last split at (Err EndedEarly) a = a
      within s last split at (Err ReadFailed) a = tt
      within s last split at (Err OutOfMemory) a = tt
      within s last split at (Err TurnsExhausted) a = tt

-- the response that was taken is all the bytes
pub all_taken : (bytes : List ℕ) (old new : Option (List ℕ)) (m : Message) → old ≡ Some bytes → new ≡ Some [] → TakesResponse old new m → IsResponseMessage bytes m
all_taken bytes old new m all none took =
    let known = subst (λ o. Consumes o new took.0) all took.1 in
    let at : bytes ≡ took.0 ++ [] = subst (λ o. Consumes (Some bytes) o took.0) none known in
    subst (λ t. IsResponseMessage t m) (sym (at ∙ append-nil took.0)) took.2
