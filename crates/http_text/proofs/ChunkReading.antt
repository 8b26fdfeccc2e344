-- How far the chunks of a body were read, and what the next bytes that were read ahead give.
use Rattle.std.proofs.Common.{◌≡◌, ℕ, false, ◌+◌, ◌-◌, ◌<◌, ◌≤◌, ◌⊎◌, List, [], ◌∷◌, ◌++◌, zero, suc, length, take, drop, refl, ap, sym, ◌∙◌, inl, inr, arith, append_assoc, length-append, length-drop, Option, Result, Ok, Err}
use Rattle.std.specs.Prelude.{slice_range, IfErr, OnOk}
use Rattle.std.specs.Io.KnownBytes.{Consumes, Keeps}
use Rattle.std.proofs.lemmas.List.{take-take, length-take-le}
use Rattle.httparse.specs.declared.spans.Span.{Span}
use Rattle.http1.specs.declared.chunked.ChunkError.{ChunkError}
use Rattle.http1.specs.declared.chunked.ChunkedDecoder.{ChunkedDecoder}
use Rattle.http1.specs.ChunkedDecoder.{start, run, run_result, prepend, HasNotFailed, IsDone, Advances, FailsAt}
use Rattle.http1.proofs.RunLemmas.{run-nil, run_after}
use Rattle.http_text.specs.declared.fault.ReadFault.{ReadFault}
use Rattle.http_text.specs.declared.fault.ReadFault.TheVariants.{Malformed, HostMissingOrRepeated, LengthMissing, BodyTooLong, HeadTooLong, TransferCoding, Expectation, EndedEarly, ReadFailed, OutOfMemory, TurnsExhausted}
use Rattle.http_text.specs.Counts.{Reading}
use Rattle.http_text.specs.Message.{Message, response_body_limit}
use Rattle.http_text.specs.Chunks.{IsPartOfChunks, IsLongBody, TakesChunked, CutsChunked, framing_limit}
use Rattle.http_text.specs.ChunkSteps.{TakesChunks, TakesTrailers, CutsTrailers}
use Rattle.http_text.specs.Steps.{SpendsTurns, GivesNone}
use Rattle.http_text.proofs.ChunkLemmas.{refused_over, whole_over, part, long_content, long_framing, malformed}
use Rattle.http_text.proofs.KnownLemmas.{Consumes-kept, Consumes-then}

-- the decoder read all bytes that were taken, and their content is at the body's end
pub record HasChunks (old now : Reading) (before after : Message) (decoder : ChunkedDecoder) (framing room most : ℕ) (turns turns_left : ℕ) : Type 0 where
  pub bytes : List ℕ
  pub content : List ℕ
  pub taken : Consumes old.remaining now.remaining bytes
  pub ran : run (start framing_limit) bytes ≡ run_result decoder content []
  pub good : HasNotFailed decoder
  pub message : after ≡ record { head = before.head; body = before.body ++ content }
  pub size : room + length content ≡ response_body_limit
  pub counted : framing + length bytes ≡ framing_limit + length content
  pub framed : framing ≤ framing_limit
  pub some : 1 ≤ most
  pub counts : SpendsTurns old now turns turns_left
  pub clean : now.failures ≡ old.failures

-- no more bytes came
pub cut_none : (old now new : Option (List ℕ)) (bytes : List ℕ) (fault : ReadFault) → Consumes old now bytes → IsPartOfChunks bytes → GivesNone now new fault → CutsChunked old new fault
cut_none old now new bytes (Malformed is_head) taken part none = absurd none
cut_none old now new bytes (HostMissingOrRepeated is_head) taken part none = absurd none
cut_none old now new bytes (LengthMissing is_head) taken part none = absurd none
cut_none old now new bytes (BodyTooLong is_head) taken part none = absurd none
cut_none old now new bytes (HeadTooLong is_head) taken part none = absurd none
cut_none old now new bytes (TransferCoding is_head) taken part none = absurd none
cut_none old now new bytes (Expectation is_head) taken part none = absurd none
cut_none old now new bytes EndedEarly taken part none = (bytes, Consumes-kept old now new bytes taken none.0, (part, none.1))
cut_none old now new bytes ReadFailed taken part none = (bytes, Consumes-kept old now new bytes taken none, part)
cut_none old now new bytes OutOfMemory taken part none = absurd none
cut_none old now new bytes TurnsExhausted taken part none = (bytes, Consumes-kept old now new bytes taken none, part)

-- content was appended twice
pub appended : (before now after : Message) (content piece given : List ℕ) → now ≡ record { head = before.head; body = before.body ++ content }
    → after ≡ record { head = now.head; body = now.body ++ given } → given ≡ piece → after ≡ record { head = before.head; body = before.body ++ (content ++ piece) }
appended before now after content piece given first then same =
    then ∙ (λ i. record { head = (first i).head; body = (first i).body ++ same i })
    ∙ ap (λ (t : List ℕ). record { head = before.head; body = t }) (append_assoc before.body content piece)

slice_length : (xs : List ℕ) (a b : ℕ) → b ≤ length xs → length (slice_range xs a b) ≡ b - a
slice_length xs a b within = omega (arith, length-take-le (b - a) (drop a xs) (omega (arith, length-drop a xs, within)))

-- ---- the decoder reads some of the bytes that were read ahead

module _ (old now kept : Option (List ℕ)) (bytes content ahead input : List ℕ) (count : ℕ) (decoder next : ChunkedDecoder) (piece : Span)
    (taken : Consumes old now bytes) (keeps : Keeps now kept) (is : input ≡ take count ahead) (within : count ≤ length ahead)
    (ran : run (start framing_limit) bytes ≡ run_result decoder content []) (advances : Advances decoder input next piece) where
  abbrev read : List ℕ
  read = take piece.end ahead

  -- the bytes that it read, and the content among them
  abbrev all : List ℕ
  all = bytes ++ read

  abbrev more : List ℕ
  more = slice_range input piece.start piece.end

  input_length : length input ≡ count
  input_length = ap length is ∙ length-take-le count ahead within

  pub end_within : piece.end ≤ count
  end_within = omega (arith, advances.within, input_length)

  read_length : length read ≡ piece.end
  read_length = length-take-le piece.end ahead (omega (arith, end_within, within))

  pub all_length : length all ≡ length bytes + piece.end
  all_length = length-append bytes read ∙ ap (λ n. length bytes + n) read_length

  more_length : length more ≡ piece.end - piece.start
  more_length = slice_length input piece.start piece.end advances.within

  pub content_length : length (content ++ more) ≡ length content + (piece.end - piece.start)
  content_length = length-append content more ∙ ap (λ n. length content + n) more_length

  pub all_taken : (new : Option (List ℕ)) → Consumes kept new read → Consumes old new all
  all_taken new took = Consumes-then old kept new bytes read (Consumes-kept old now kept bytes taken keeps) took

  pub all_ran : run (start framing_limit) all ≡ run_result next (content ++ more) []
  all_ran =
      let front : take piece.end input ≡ read = ap (take piece.end) is ∙ take-take piece.end count ahead end_within in
      run_after (start framing_limit) decoder bytes content read ran
      ∙ ap (λ t. prepend content (run decoder t)) (sym front)
      ∙ ap (prepend content) advances.reads

  -- it read at least one byte
  pub some_read : 0 < count → (IsDone decoder → ⊥) → 0 < piece.end
  some_read some going = by_end piece.end refl
    where
      none_read : piece.end ≡ 0 → IsDone next → IsDone decoder
      none_read none done =
          let same = ap (λ r. r.ends.state) (sym (run-nil decoder) ∙ ap (λ n. run decoder (take n input)) (sym none) ∙ advances.reads) in
          same ∙ done

      by_end : (n : ℕ) → piece.end ≡ n → 0 < piece.end
      by_end zero none =
          elim (advances.waits_or_done (omega (arith, none, advances.ordered))) [
            | inl whole ↦ absurd (omega (arith, none, whole, input_length, some))
            | inr done ↦ absurd (going (none_read none done))
          ]
      by_end (suc n) is_more = omega (arith, is_more)

  -- more framing or content than there was room for
  pub too_long : (framing room : ℕ) → count ≤ framing + 1 → count ≤ room + 1 → room + length content ≡ response_body_limit → framing + length bytes ≡ framing_limit + length content
      → (framing < piece.start) ⊎ (room < piece.end - piece.start) → IsLongBody all
  too_long framing room few_framing few_content size counted (inl long) =
      long_framing all (content ++ more) next all_ran advances.not_failed (omega (arith, all_length, content_length, end_within, few_framing, long, counted, advances.ordered))
  too_long framing room few_framing few_content size counted (inr long) =
      long_content all (content ++ more) next all_ran advances.not_failed (omega (arith, content_length, end_within, few_content, long, size, advances.ordered))

-- the decoder refuses the next byte
pub refused_byte : (old now kept new : Option (List ℕ)) (bytes content ahead input : List ℕ) (count : ℕ) (decoder next : ChunkedDecoder) (e : ChunkError)
    → Consumes old now bytes → Keeps now kept → input ≡ take count ahead → count ≡ 1 → 0 < length ahead → Consumes kept new (take 1 ahead)
    → run (start framing_limit) bytes ≡ run_result decoder content [] → HasNotFailed decoder → (IsDone decoder → ⊥) → FailsAt decoder input next e
    → CutsChunked old new (Malformed false)
refused_byte old now kept new bytes content [] input count decoder next e taken keeps is one some took ran good going fails = absurd (omega (arith, some))
refused_byte old now kept new bytes content (b ∷ ahead) input count decoder next e taken keeps is one some took ran good going fails =
    let byte : input ≡ b ∷ [] = is ∙ ap (λ n. take n (b ∷ ahead)) one in
    let failed = ap (λ t. (run decoder t).ends.state) (sym byte) ∙ ap (λ (d : ChunkedDecoder). d.state) fails.ends ∙ fails.failed in (
      bytes ++ b ∷ [],
      Consumes-then old kept new bytes (b ∷ []) (Consumes-kept old now kept bytes taken keeps) took,
      malformed bytes content decoder ran b e failed good going,
    )

-- ---- the chunks and the trailers

pub body_over : (old now new : Option (List ℕ)) (before after : Message) (room : ℕ) (r : Result (Unit {0}) ReadFault) → TakesChunks old now before after room
    → OnOk r (TakesTrailers room now new) → OnOk r (TakesChunked old new before after)
body_over old now new before after room (Ok done) took trailers =
    (took.0 ++ trailers.0, Consumes-then old now new took.0 trailers.0 took.1 trailers.1, took.2, whole_over took.0 took.2 room took.3 trailers.0 trailers.2 trailers.3, took.4)
body_over old now new before after room (Err fault) took trailers = tt

pub cut_over : (old now new : Option (List ℕ)) (before after : Message) (room : ℕ) (r : Result (Unit {0}) ReadFault) → TakesChunks old now before after room
    → IfErr r (CutsTrailers room now new) → IfErr r (CutsChunked old new)
cut_over old now new before after room (Ok done) took cut = tt
cut_over old now new before after room (Err fault) took cut =
    (took.0 ++ cut.0, Consumes-then old now new took.0 cut.0 took.1 cut.1, refused_over took.0 took.2 room took.3 cut.0 new fault cut.2)
