-- What http1's decoder says of a body in chunks, of its parts, and of what follows its chunks.
use Rattle.std.proofs.Common.{◌≡◌, ℕ, ◌+◌, ◌<◌, ◌≤◌, ◌⊎◌, true, false, List, [], ◌∷◌, ◌++◌, length, refl, ap, sym, ◌∙◌, subst, inl, inr, arith, append_assoc, length-append, Option, Some}
use Rattle.std.proofs.lemmas.Bool.Decides.{leb_tells}
use Rattle.std.proofs.lemmas.List.{append-nil}
use Rattle.http1.specs.declared.chunked.ChunkError.{ChunkError}
use Rattle.http1.specs.declared.chunked.State.TheVariants as states
use Rattle.http1.specs.declared.chunked.ChunkedDecoder.{ChunkedDecoder}
use Rattle.http1.specs.ChunkedBody.{ReadsChunks, print_chunks}
use Rattle.http1.specs.ChunkedDecoder.{start, step, Use, skips, yields, stops, use_of, Run, run_result, prepend, run_on, run, IsDone, HasNotFailed}
use Rattle.http1.proofs.ChunksComplete.{run_chunks}
use Rattle.http1.proofs.ChunksLive.{chunks_can_finish}
use Rattle.http1.proofs.ChunksSound.{chunks_from_run}
use Rattle.http1.proofs.RunLemmas.{run-nil, run-cons, run-append, run_after, run_stops, run_stays}
use Rattle.http_text.specs.declared.fault.ReadFault.{ReadFault}
use Rattle.http_text.specs.declared.fault.ReadFault.TheVariants.{Malformed, HostMissingOrRepeated, LengthMissing, BodyTooLong, HeadTooLong, TransferCoding, Expectation, EndedEarly, ReadFailed, OutOfMemory, TurnsExhausted}
use Rattle.http_text.specs.Heads.{IsStreamFault}
use Rattle.http_text.specs.Message.{response_body_limit}
use Rattle.http_text.specs.Chunks.{print_trailers, ReadsTrailers, ReadsChunked, ReadsWithin, IsChunkedBody, HasNoBody, NeverEnds, NeverFits, IsPartOfChunks, IsPartWithin, IsPartBefore, IsMalformedBody, IsLongBody, content_in, framing_in, RefusesBody, framing_limit}
use Rattle.http_text.specs.ChunkSteps.{AreChunksRead, IsPartOfTrailers, IsTrailerPartBefore, RefusesTrailers}
use Rattle.http_text.proofs.ListLemmas.{front_of, same_split}
use Rattle.http_text.proofs.TrailerLemmas.{one_rest}

-- ---- a run reads no more than its input

on_length : (u : Use) (d : ChunkedDecoder) (b : ℕ) (bs : List ℕ) (after : Run) → length after.body + length after.rest ≤ length bs
    → length (run_on u d b bs after).body + length (run_on u d b bs after).rest ≤ length (b ∷ bs)
on_length skips d b bs after h = omega (arith, h)
on_length yields d b bs after h = omega (arith, h)
on_length stops d b bs after h = omega arith

run_length : (d : ChunkedDecoder) (bytes : List ℕ) → length (run d bytes).body + length (run d bytes).rest ≤ length bytes
run_length d [] = rw (run-nil d) (omega arith)
run_length d (b ∷ bs) =
    rw (run-cons (use_of d.state) d b bs refl) (on_length (use_of d.state) d b bs (run (step d b) bs) (run_length (step d b) bs))

done_stops : (d : ChunkedDecoder) → IsDone d → use_of d.state ≡ stops
done_stops d done = ap use_of done

-- ---- some bytes, all of which the decoder reads

module _ (bytes content : List ℕ) (d : ChunkedDecoder) (ran : run (start framing_limit) bytes ≡ run_result d content []) where
  -- the run over more bytes
  run_more : (more : List ℕ) → run (start framing_limit) (bytes ++ more) ≡ prepend content (run d more)
  run_more more = run_after (start framing_limit) d bytes content more ran

  pub reads_on : (more c rest : List ℕ) → ReadsChunked (bytes ++ more) c rest
      → IsDone (run d more).ends × (c ≡ content ++ (run d more).body) × ReadsTrailers (run d more).rest rest
  reads_on more c rest r =
      let whole = sym (run_chunks framing_limit (bytes ++ more) r.chunks r.after r.reads) ∙ run_more more in (
        ap (λ k. k.ends.state) (sym whole),
        r.decoded ∙ ap (λ k. k.body) whole,
        subst (λ t. ReadsTrailers t rest) (ap (λ k. k.rest) whole) r.trailers,
      )

  pub reads_back : (more rest : List ℕ) → IsDone (run d more).ends → ReadsTrailers (run d more).rest rest
      → ReadsChunked (bytes ++ more) (content ++ (run d more).body) rest
  reads_back more rest done trailers =
      let whole = run_more more in
      let found = chunks_from_run framing_limit (bytes ++ more) (ap (λ k. k.ends.state) whole ∙ done) in
      record {
        chunks = found.0;
        after = (run d more).rest;
        reads = subst (λ t. ReadsChunks framing_limit (bytes ++ more) found.0 t) (ap (λ k. k.rest) whole) found.1;
        decoded = sym (ap (λ k. k.body) whole) ∙ found.2;
        trailers = trailers;
      }

  none_yet : (IsDone d → ⊥) → HasNoBody bytes
  none_yet going c rest r =
      let on = reads_on [] c rest (subst (λ t. ReadsChunked t c rest) (sym (append-nil bytes)) r) in
      going (sym (ap (λ k. k.ends.state) (run-nil d)) ∙ on.0)

  can_end : HasNotFailed d → (more : List ℕ) × (c : List ℕ) × ReadsChunked (bytes ++ more) c []
  can_end good =
      let f = chunks_can_finish d good in
      let crlf = 13 ∷ 10 ∷ [] in
      let more = f.0 ++ crlf in
      let over = run-append d f.0 crlf f.2 ∙ ap (prepend (run d f.0).body) (run_stops (run d f.0).ends crlf (done_stops (run d f.0).ends f.1)) in
      let done : IsDone (run d more).ends = ap (λ k. k.ends.state) over ∙ f.1 in
      let trailers : ReadsTrailers (run d more).rest [] = subst (λ t. ReadsTrailers t []) (sym (ap (λ k. k.rest) over)) ([], tt, refl) in
      (more, content ++ (run d more).body, reads_back more [] done trailers)

  pub part : HasNotFailed d → (IsDone d → ⊥) → IsPartOfChunks bytes
  part good going = let e = can_end good in record { none = none_yet going; more = e.0; content = e.1; whole = e.2 }

  -- no body ended before the last byte
  pub part_before : HasNotFailed d → IsPartBefore bytes
  part_before good front last e =
      let m = can_end good in
      let joined : bytes ++ m.0 ≡ front ++ last ∷ m.0 = ap (λ t. t ++ m.0) e ∙ append_assoc front (last ∷ []) m.0 in
      record {
        none = λ c rest r.
            let longer : ReadsChunks framing_limit bytes r.chunks (r.after ++ last ∷ []) =
            (r.reads.0, e ∙ ap (λ t. t ++ last ∷ []) r.reads.1 ∙ append_assoc (print_chunks r.chunks) r.after (last ∷ [])) in
            let none = ap (λ k. length k.rest) (sym (run_chunks framing_limit bytes r.chunks (r.after ++ last ∷ []) longer) ∙ ran) in
            omega (arith, none, length-append r.after (last ∷ []));
        more = last ∷ m.0;
        content = m.1;
        whole = subst (λ t. ReadsChunked t m.1 []) joined m.2;
      }

  content_is : content_in bytes ≡ content
  content_is = ap (λ k. k.body) ran

  never_fits_content : response_body_limit < length content → NeverFits bytes
  never_fits_content long more c rest r =
      let on = reads_on more c rest r.reads in
      omega (arith, long, r.size, ap length on.1, length-append content (run d more).body)

  never_fits_framing : length content + framing_limit < length bytes → NeverFits bytes
  never_fits_framing long more c rest r =
      let on = reads_on more c rest r.reads in
      let after = ap length on.2.2 in
      omega (
        arith,
        long,
        r.framing,
        ap length on.1,
        length-append content (run d more).body,
        length-append bytes more,
        run_length d more,
        after,
        length-append (print_trailers on.2.0) rest,
      )

  -- a limit was passed
  pub long_content : HasNotFailed d → length content ≡ response_body_limit + 1 → IsLongBody bytes
  long_content good size = record {
    never = never_fits_content (omega (arith, size));
    before = part_before good;
    exceeds = inl (ap length content_is ∙ size);
  }

  pub long_framing : HasNotFailed d → length bytes ≡ length content + framing_limit + 1 → IsLongBody bytes
  long_framing good size = record {
    never = never_fits_framing (omega (arith, size));
    before = part_before good;
    exceeds = inr (omega (arith, size, ap length content_is));
  }

  -- ---- one byte more, which is refused

  module _ (b : ℕ) (e : ChunkError) (failed : (run d (b ∷ [])).ends.state ≡ states.Failed e) where
    never_ends : NeverEnds (bytes ++ b ∷ [])
    never_ends more c rest r =
        let on = reads_on (b ∷ more) c rest (subst (λ t. ReadsChunked t c rest) (append_assoc bytes (b ∷ []) more) r) in
        let stays = run_stays d (b ∷ []) more (ap use_of failed) in
        let both : states.Done ≡ states.Failed e = sym on.0 ∙ ap (λ k. k.state) stays ∙ failed in
        cc

    pub malformed : HasNotFailed d → (IsDone d → ⊥) → IsMalformedBody (bytes ++ b ∷ [])
    malformed good going = record {
      never = never_ends;
      before = λ front last is.
          let same = same_split bytes (b ∷ []) front (last ∷ []) is (omega (arith, ap length is, length-append bytes (b ∷ []), length-append front (last ∷ []))) in
          subst IsPartOfChunks same.0 (part good going);
    }

-- ---- the chunks are read, and trailers follow

module _ (bytes content : List ℕ) (room : ℕ) (chunks : AreChunksRead bytes content room) where
  stopped : (more : List ℕ) → run chunks.decoder more ≡ run_result chunks.decoder [] more
  stopped more = run_stops chunks.decoder more (done_stops chunks.decoder chunks.done)

  trailers_on : (more c rest : List ℕ) → ReadsChunked (bytes ++ more) c rest → (c ≡ content) × ReadsTrailers more rest
  trailers_on more c rest r =
      let on = reads_on bytes content chunks.decoder chunks.reads more c rest r in (
        on.1 ∙ ap (λ k. content ++ k.body) (stopped more) ∙ append-nil content,
        subst (λ t. ReadsTrailers t rest) (ap (λ k. k.rest) (stopped more)) on.2,
      )

  trailers_back : (more rest : List ℕ) → ReadsTrailers more rest → ReadsChunked (bytes ++ more) content rest
  trailers_back more rest t =
      let done : IsDone (run chunks.decoder more).ends = ap (λ k. k.ends.state) (stopped more) ∙ chunks.done in
      let all = reads_back bytes content chunks.decoder chunks.reads more rest done (subst (λ u. ReadsTrailers u rest) (sym (ap (λ k. k.rest) (stopped more))) t) in
      subst (λ c. ReadsChunked (bytes ++ more) c rest) (ap (λ k. content ++ k.body) (stopped more) ∙ append-nil content) all

  part_over : (tail : List ℕ) → IsPartOfTrailers tail → IsPartOfChunks (bytes ++ tail)
  part_over tail p = record {
    none = λ c rest r. p.none rest (trailers_on tail c rest r).1;
    more = p.more;
    content = content;
    whole = subst (λ t. ReadsChunked t content []) (sym (append_assoc bytes tail p.more)) (trailers_back (tail ++ p.more) [] p.whole);
  }

  before_over : (tail : List ℕ) → IsTrailerPartBefore tail → IsPartBefore (bytes ++ tail)
  before_over tail p front last is =
      let whole : (bytes ++ p.0) ++ p.1 ∷ [] ≡ front ++ last ∷ [] = append_assoc bytes p.0 (p.1 ∷ []) ∙ ap (λ t. bytes ++ t) (sym p.2) ∙ is in
      let same = same_split (bytes ++ p.0) (p.1 ∷ []) front (last ∷ []) whole
      (omega (arith, ap length whole, length-append (bytes ++ p.0) (p.1 ∷ []), length-append front (last ∷ []))) in
      subst IsPartOfChunks same.0 (part_over p.0 p.3)

  never_over : (tail : List ℕ) → length tail ≡ room + 1 → IsTrailerPartBefore tail → NeverFits (bytes ++ tail)
  never_over tail long p more c rest r =
      let t = p.0 in
      let on = trailers_on (tail ++ more) c rest (subst (λ u. ReadsChunked u c rest) (append_assoc bytes tail more) r.reads) in
      let text = print_trailers on.1.0 in
      let split : text ++ rest ≡ t ++ p.1 ∷ more = sym on.1.2 ∙ ap (λ u. u ++ more) p.2 ∙ append_assoc t (p.1 ∷ []) more in
      let tail_size : length tail ≡ length t + 1 = ap length p.2 ∙ length-append t (p.1 ∷ []) in
      elim (leb_tells (length text) (length t)) [
        | inl short ↦
            let q = front_of text rest t (p.1 ∷ more) split short.1 in
            absurd (p.3.none q.0 (on.1.0, on.1.1, q.1))
        | inr far ↦
            let more_than = far.1 in
            omega (
              arith,
              long,
              tail_size,
              more_than,
              r.framing,
              ap length on.0,
              ap length on.1.2,
              length-append tail more,
              length-append text rest,
              length-append (bytes ++ tail) more,
              length-append bytes tail,
              chunks.framing,
            )
      ]

  exceeds_over : (tail : List ℕ) → length tail ≡ room + 1 → framing_in (bytes ++ tail) ≡ framing_limit + 1
  exceeds_over tail long =
      let body : content_in (bytes ++ tail) ≡ content =
      ap (λ k. k.body) (run_after (start framing_limit) chunks.decoder bytes content tail chunks.reads) ∙ ap (λ k. content ++ k.body) (stopped tail) ∙ append-nil content in
      omega (arith, ap length body, long, length-append bytes tail, chunks.framing)

  pub refused_over : (tail : List ℕ) (left : Option (List ℕ)) (fault : ReadFault) → RefusesTrailers room tail left fault → RefusesBody (bytes ++ tail) left fault
  refused_over tail left (Malformed true) h = absurd h
  refused_over tail left (Malformed false) h = record {
    never = λ more c rest r. h.0 more rest (trailers_on (tail ++ more) c rest (subst (λ u. ReadsChunked u c rest) (append_assoc bytes tail more) r)).1;
    before = before_over tail h.1;
  }
  refused_over tail left (HostMissingOrRepeated is_head) h = absurd h
  refused_over tail left (LengthMissing is_head) h = absurd h
  refused_over tail left (BodyTooLong true) h = absurd h
  refused_over tail left (BodyTooLong false) h = record {
    never = never_over tail h.0 h.1;
    before = before_over tail h.1;
    exceeds = inr (exceeds_over tail h.0);
  }
  refused_over tail left (HeadTooLong is_head) h = absurd h
  refused_over tail left (TransferCoding is_head) h = absurd h
  refused_over tail left (Expectation is_head) h = absurd h
  refused_over tail left EndedEarly h = (part_over tail h.0, h.1)
  refused_over tail left ReadFailed h = part_over tail h
  refused_over tail left OutOfMemory h = tt
  refused_over tail left TurnsExhausted h = part_over tail h

  pub whole_over : (tail : List ℕ) → ReadsTrailers tail [] → length tail ≤ room → IsChunkedBody (bytes ++ tail) content
  whole_over tail t short = record {
    reads = trailers_back tail [] t;
    size = chunks.size;
    framing = omega (arith, short, length-append bytes tail, chunks.framing);
  }

-- ---- a body at the front of other bytes

-- bytes begin with one body in chunks at most
pub one_body : (input c d r q : List ℕ) → ReadsChunked input c r → ReadsChunked input d q → (c ≡ d) × (r ≡ q)
one_body input c d r q x y =
    let same = sym (run_chunks framing_limit input x.chunks x.after x.reads) ∙ run_chunks framing_limit input y.chunks y.after y.reads in (
      x.decoded ∙ ap (λ k. k.body) same ∙ sym y.decoded,
      one_rest y.after r q (subst (λ t. ReadsTrailers t r) (ap (λ k. k.rest) same) x.trailers) y.trailers,
    )

pub chunked_before : (bytes content rest : List ℕ) → IsChunkedBody bytes content → ReadsWithin (bytes ++ rest) content rest
chunked_before bytes content rest is =
    let r = is.reads in
    let t = r.trailers in
    record {
      reads = record {
        chunks = r.chunks;
        after = r.after ++ rest;
        reads = (r.reads.0, ap (λ u. u ++ rest) r.reads.1 ∙ append_assoc (print_chunks r.chunks) r.after rest);
        decoded = r.decoded;
        trailers = (t.0, t.1, ap (λ u. u ++ rest) (t.2 ∙ append-nil (print_trailers t.0)));
      };
      size = is.size;
      framing = omega (arith, is.framing, length-append bytes rest);
    }

-- if there is a body at the front, what was taken isn't refused
pub body_is_read : (s bytes left body rest content : List ℕ) (fault : ReadFault) → s ≡ bytes ++ left → s ≡ body ++ rest → IsChunkedBody body content → RefusesBody bytes (Some left) fault → IsStreamFault fault
body_is_read s bytes left body rest content fault split whole is refused = by_fault fault refused
  where
    at : (bytes : List ℕ) → s ≡ bytes → ReadsWithin bytes content rest
    at bytes e = subst (λ t. ReadsWithin t content rest) (sym whole ∙ e) (chunked_before body content rest is)

    by_fault : (fault : ReadFault) → RefusesBody bytes (Some left) fault → IsStreamFault fault
    by_fault (Malformed true) h = h
    by_fault (Malformed false) h = h.never left content rest (at (bytes ++ left) split).reads
    by_fault (HostMissingOrRepeated is_head) h = h
    by_fault (LengthMissing is_head) h = h
    by_fault (BodyTooLong true) h = h
    by_fault (BodyTooLong false) h = h.never left content rest (at (bytes ++ left) split)
    by_fault (HeadTooLong is_head) h = h
    by_fault (TransferCoding is_head) h = h
    by_fault (Expectation is_head) h = h
    by_fault EndedEarly h = h.0.none content rest (at bytes (split ∙ ap (λ t. bytes ++ t) h.1 ∙ append-nil bytes)).reads
    by_fault ReadFailed h = tt
    by_fault OutOfMemory h = tt
    by_fault TurnsExhausted h = tt

-- if a part of a body is all there is, it is read to its end
pub body_is_cut : (s bytes left : List ℕ) (fault : ReadFault) → s ≡ bytes ++ left → IsPartWithin s → RefusesBody bytes (Some left) fault → (fault ≡ EndedEarly) ⊎ IsStreamFault fault
body_is_cut s bytes left fault split part refused = by_fault fault refused
  where
    at : ReadsWithin (bytes ++ (left ++ part.more)) part.content []
    at = subst (λ t. ReadsWithin t part.content []) (ap (λ t. t ++ part.more) split ∙ append_assoc bytes left part.more) part.whole

    by_fault : (fault : ReadFault) → RefusesBody bytes (Some left) fault → (fault ≡ EndedEarly) ⊎ IsStreamFault fault
    by_fault (Malformed true) h = absurd h
    by_fault (Malformed false) h = absurd (h.never (left ++ part.more) part.content [] at.reads)
    by_fault (HostMissingOrRepeated is_head) h = absurd h
    by_fault (LengthMissing is_head) h = absurd h
    by_fault (BodyTooLong true) h = absurd h
    by_fault (BodyTooLong false) h = absurd (h.never (left ++ part.more) part.content [] at)
    by_fault (HeadTooLong is_head) h = absurd h
    by_fault (TransferCoding is_head) h = absurd h
    by_fault (Expectation is_head) h = absurd h
    by_fault EndedEarly h = inl refl
    by_fault ReadFailed h = inr tt
    by_fault OutOfMemory h = inr tt
    by_fault TurnsExhausted h = inr tt

-- if no bytes complete it, it is refused
pub body_is_refused : (s bytes left never rest : List ℕ) (fault : ReadFault) → s ≡ bytes ++ left → s ≡ never ++ rest → NeverEnds never → RefusesBody bytes (Some left) fault
    → (fault ≡ Malformed false) ⊎ ((fault ≡ BodyTooLong false) ⊎ IsStreamFault fault)
body_is_refused s bytes left never rest (Malformed true) split whole bad h = absurd h
body_is_refused s bytes left never rest (Malformed false) split whole bad h = inl refl
body_is_refused s bytes left never rest (HostMissingOrRepeated is_head) split whole bad h = absurd h
body_is_refused s bytes left never rest (LengthMissing is_head) split whole bad h = absurd h
body_is_refused s bytes left never rest (BodyTooLong true) split whole bad h = absurd h
body_is_refused s bytes left never rest (BodyTooLong false) split whole bad h = inr (inl refl)
body_is_refused s bytes left never rest (HeadTooLong is_head) split whole bad h = absurd h
body_is_refused s bytes left never rest (TransferCoding is_head) split whole bad h = absurd h
body_is_refused s bytes left never rest (Expectation is_head) split whole bad h = absurd h
body_is_refused s bytes left never rest EndedEarly split whole bad h =
    let part = h.0 in
    let all : bytes ≡ never ++ rest = sym (append-nil bytes) ∙ ap (λ t. bytes ++ t) (sym h.1) ∙ sym split ∙ whole in
    let text = ap (λ t. t ++ part.more) all ∙ append_assoc never rest part.more in
    absurd (bad (rest ++ part.more) part.content [] (subst (λ t. ReadsChunked t part.content []) text part.whole))
body_is_refused s bytes left never rest ReadFailed split whole bad h = inr (inr tt)
body_is_refused s bytes left never rest OutOfMemory split whole bad h = inr (inr tt)
body_is_refused s bytes left never rest TurnsExhausted split whole bad h = inr (inr tt)
