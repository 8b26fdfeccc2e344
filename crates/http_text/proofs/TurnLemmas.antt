-- Turns spent, one step after the other.
use Rattle.std.proofs.Common.{◌≡◌, ℕ, ◌+◌, ◌-◌, ◌<◌, sym, ap, ◌∙◌, arith}
use Rattle.http_text.specs.declared.fault.ReadFault.{ReadFault}
use Rattle.http_text.specs.declared.fault.ReadFault.TheVariants.{Malformed, HostMissingOrRepeated, LengthMissing, BodyTooLong, HeadTooLong, TransferCoding, Expectation, EndedEarly, ReadFailed, OutOfMemory, TurnsExhausted}
use Rattle.http_text.specs.Counts.{Reading, count_up, turn_limit, HasReached, CountsTurns}
use Rattle.http_text.specs.Heads.{EndsReading}
use Rattle.http_text.specs.Steps.{SpendsTurns, EndsTurns}
use Rattle.http_text.proofs.CountLemmas.{count_up-then, count_up-zero, HasReached-count_up}

pub SpendsTurns-none : (now : Reading) (n : ℕ) → SpendsTurns now now n n
SpendsTurns-none now n = record {
  left = omega arith;
  calls = sym (count_up-zero now.calls) ∙ ap (count_up now.calls) (let none : 0 ≡ n - n = omega arith in none);
}

pub SpendsTurns-then : (old now new : Reading) (a b c : ℕ) → SpendsTurns old now a b → SpendsTurns now new b c → SpendsTurns old new a c
SpendsTurns-then old now new a b c h k =
    let first = h.left in
    let second = k.left in
    let turns : (a - b) + (b - c) ≡ a - c = omega arith in
    record {
      left = omega arith;
      calls = k.calls ∙ ap (λ n. count_up n (b - c)) h.calls ∙ count_up-then old.calls (a - b) (b - c) ∙ ap (count_up old.calls) turns;
    }

-- one turn
pub SpendsTurns-more : (old now new : Reading) (a b : ℕ) → SpendsTurns old now a b → 0 < b → new.calls ≡ count_up now.calls 1 → SpendsTurns old new a (b - 1)
SpendsTurns-more old now new a b h some one =
    let turns : b - (b - 1) ≡ 1 = omega arith in
    SpendsTurns-then old now new a b (b - 1) h (record { left = omega arith; calls = one ∙ ap (count_up now.calls) (sym turns) })

-- a step after others in which no read failed
pub EndsTurns-then : (old now new : Reading) (after : ℕ) (fault : ReadFault) → now.failures ≡ old.failures → EndsTurns now new after fault → EndsTurns old new after fault
EndsTurns-then old now new after (Malformed is_head) same h = h ∙ same
EndsTurns-then old now new after (HostMissingOrRepeated is_head) same h = h ∙ same
EndsTurns-then old now new after (LengthMissing is_head) same h = h ∙ same
EndsTurns-then old now new after (BodyTooLong is_head) same h = h ∙ same
EndsTurns-then old now new after (HeadTooLong is_head) same h = h ∙ same
EndsTurns-then old now new after (TransferCoding is_head) same h = h ∙ same
EndsTurns-then old now new after (Expectation is_head) same h = h ∙ same
EndsTurns-then old now new after EndedEarly same h = h ∙ same
EndsTurns-then old now new after ReadFailed same h = rw same at h
EndsTurns-then old now new after OutOfMemory same h = h ∙ same
EndsTurns-then old now new after TurnsExhausted same h = (h.0, h.1 ∙ same)

-- all turns that a message has
pub CountsTurns-spent : (old new : Reading) (after : ℕ) → SpendsTurns old new turn_limit after → CountsTurns old.calls new.calls
CountsTurns-spent old new after h = (turn_limit - after, omega arith, h.calls)

reached : (old new : Reading) (after : ℕ) → SpendsTurns old new turn_limit after → after ≡ 0 → HasReached turn_limit old.calls new.calls
reached old new after h none =
    let all : new.calls ≡ count_up old.calls turn_limit = h.calls ∙ ap (count_up old.calls) (let turns : turn_limit - after ≡ turn_limit = omega arith in turns) in
    rw all (HasReached-count_up turn_limit old.calls)

pub EndsReading-spent : (old new : Reading) (after : ℕ) (fault : ReadFault) → SpendsTurns old new turn_limit after → EndsTurns old new after fault → EndsReading old new fault
EndsReading-spent old new after (Malformed is_head) h k = k
EndsReading-spent old new after (HostMissingOrRepeated is_head) h k = k
EndsReading-spent old new after (LengthMissing is_head) h k = k
EndsReading-spent old new after (BodyTooLong is_head) h k = k
EndsReading-spent old new after (HeadTooLong is_head) h k = k
EndsReading-spent old new after (TransferCoding is_head) h k = k
EndsReading-spent old new after (Expectation is_head) h k = k
EndsReading-spent old new after EndedEarly h k = k
EndsReading-spent old new after ReadFailed h k = k
EndsReading-spent old new after OutOfMemory h k = k
EndsReading-spent old new after TurnsExhausted h k = (reached old new after h k.0, k.1)
