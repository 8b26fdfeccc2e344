-- The steps of reading a message.
use Rattle.std.specs.Prelude.{◌≡◌, ℕ, ◌+◌, ◌-◌, ◌<◌, ◌≤◌, ◌⊎◌, List, [], ◌++◌, length, take, Option}
use Rattle.std.specs.Io.KnownBytes.{Keeps, Consumes, IsAtEnd}
use Rattle.http_text.specs.declared.fault.ReadFault.{ReadFault}
use Rattle.http_text.specs.declared.fault.ReadFault.TheVariants.{Malformed, HostMissingOrRepeated, LengthMissing, BodyTooLong, HeadTooLong, TransferCoding, Expectation, EndedEarly, ReadFailed, OutOfMemory, TurnsExhausted}
use Rattle.http_text.specs.declared.parsing.Refusal.{Refusal}
use Rattle.http_text.specs.Counts.{Reading, count_up, HasRisen}
use Rattle.http_text.specs.Message.{Message, field_limit}
use Rattle.http_text.specs.Forms.{Form, IsHead}
use Rattle.http_text.specs.Heads.{NeverHas, Exceeds, Overflows, IsHeadAtLimit, IsUndecided}

-- from `before` turns left to `after`, each of them a call
pub record SpendsTurns (old new : Reading) (before after : ℕ) : Type 0 where
  pub left : after ≤ before
  pub calls : new.calls ≡ count_up old.calls (before - after)

-- how often as many bytes as a head may have are halved until one is left
abbrev pub most_halvings : ℕ
most_halvings = 14

-- From `old` parses of a head to `new`: one for each read at most, one for the bytes that an earlier read left, and as
-- many as halve the bytes that are refused
abbrev pub CountsParses : (old new before after : ℕ) → Type 0
CountsParses old new before after = new ≤ old + (before - after) + 1 + most_halvings

-- a failure was counted, or no turn is left; otherwise no read failed
abbrev pub EndsTurns : Reading → Reading → ℕ → ReadFault → Type 0
EndsTurns old new after ReadFailed = HasRisen old.failures new.failures
EndsTurns old new after TurnsExhausted = (after ≡ 0) × (new.failures ≡ old.failures)
EndsTurns old new after fault = new.failures ≡ old.failures

-- no bytes came: the reader is at its end, a read failed, or no turn was left
abbrev pub GivesNone : Option (List ℕ) → Option (List ℕ) → ReadFault → Type 0
GivesNone old new (Malformed is_head) = ⊥
GivesNone old new (HostMissingOrRepeated is_head) = ⊥
GivesNone old new (LengthMissing is_head) = ⊥
GivesNone old new (BodyTooLong is_head) = ⊥
GivesNone old new (HeadTooLong is_head) = ⊥
GivesNone old new (TransferCoding is_head) = ⊥
GivesNone old new (Expectation is_head) = ⊥
GivesNone old new EndedEarly = Keeps old new × IsAtEnd new
GivesNone old new ReadFailed = Keeps old new
GivesNone old new OutOfMemory = ⊥
GivesNone old new TurnsExhausted = Keeps old new

-- `count` bytes were taken and appended to the body
abbrev pub TakesBody : Option (List ℕ) → Option (List ℕ) → Message → Message → ℕ → Type 0
TakesBody old new before after count =
    (bytes : List ℕ) × Consumes old new bytes × (length bytes ≡ count)
    × (after ≡ record { head = before.head; body = before.body ++ bytes })

-- reading the body stopped early: fewer than `count` bytes were taken, unless memory ran out
abbrev pub CutsBody : Option (List ℕ) → Option (List ℕ) → ℕ → ReadFault → Type 0
CutsBody old new count OutOfMemory = (bytes : List ℕ) × Consumes old new bytes
CutsBody old new count EndedEarly = (bytes : List ℕ) × Consumes old new bytes × (length bytes < count) × IsAtEnd new
CutsBody old new count ReadFailed = (bytes : List ℕ) × Consumes old new bytes × (length bytes < count)
CutsBody old new count TurnsExhausted = (bytes : List ℕ) × Consumes old new bytes × (length bytes < count)
CutsBody old new count fault = ⊥

module _ (F : Form) where
  -- what a parse refuses, and whether its method is HEAD
  abbrev pub RefusesHead : List ℕ → ReadFault → Type 0
  RefusesHead bytes (Malformed is_head) = NeverHas F bytes × (is_head ≡ F.has_method_head bytes)
  RefusesHead bytes (HostMissingOrRepeated is_head) = ⊥
  RefusesHead bytes (LengthMissing is_head) = ⊥
  RefusesHead bytes (BodyTooLong is_head) = ⊥
  RefusesHead bytes (HeadTooLong is_head) =
      (IsHeadAtLimit F bytes ⊎ (Exceeds F field_limit bytes × Overflows F field_limit bytes))
      × (is_head ≡ F.has_method_head bytes)
  RefusesHead bytes (TransferCoding is_head) = ⊥
  RefusesHead bytes (Expectation is_head) = ⊥
  RefusesHead bytes EndedEarly = ⊥
  RefusesHead bytes ReadFailed = ⊥
  RefusesHead bytes OutOfMemory = ⊥
  RefusesHead bytes TurnsExhausted = ⊥

  -- the shortest front of the bytes that is refused, and its fault
  pub record IsFirstRefusal (bytes : List ℕ) (undecided : ℕ) (refusal : Refusal) : Type 0 where
    pub after : undecided < refusal.length
    pub within : refusal.length ≤ length bytes
    pub before : IsUndecided F (take (refusal.length - 1) bytes)
    pub refused : RefusesHead (take refusal.length bytes) refusal.fault

  -- exactly the bytes of a head were taken, and nothing of a body
  abbrev pub TakesHead : Option (List ℕ) → Option (List ℕ) → Message → Type 0
  TakesHead old new m = (bytes : List ℕ) × Consumes old new bytes × IsHead F bytes m.head × (m.body ≡ [])
