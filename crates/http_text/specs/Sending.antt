-- How many bytes were sent, and why no more.
use Rattle.std.specs.Prelude.{◌≡◌, ℕ, ◌<◌, ◌⊎◌, List, ◌++◌, length}
use Rattle.std.specs.Io.KnownBytes.{Appends}
use Rattle.http_text.specs.declared.fault.SendFault.{SendFault}
use Rattle.http_text.specs.declared.fault.SendFault.TheVariants.{WriteFailed, TurnsExhausted}
use Rattle.http_text.specs.Counts.{Writing, count_up, HasRisen, HasReached, turn_limit}

abbrev pub sent_count : SendFault → ℕ
sent_count (WriteFailed sent) = sent
sent_count (TurnsExhausted sent) = sent

-- why no more was sent: a part was left; or none was left, and the flush failed or had no turn
abbrev pub LeavesOut : Writing → Writing → List ℕ → SendFault → Type 0
LeavesOut old new left (WriteFailed sent) = (0 < length left) ⊎ (new.flushes ≡ count_up old.flushes 1)
LeavesOut old new left (TurnsExhausted sent) = new.flushes ≡ old.flushes

-- the writer holds more: a first part of the bytes, as long as the fault reports
pub record IsLost (old new : Writing) (bytes : List ℕ) (fault : SendFault) : Type 0 where
  pub front : List ℕ
  pub left : List ℕ
  pub split : bytes ≡ front ++ left
  pub appends : Appends old.contents new.contents front
  pub sent : sent_count fault ≡ length front
  pub why : LeavesOut old new left fault

-- a failure was counted, or no turn was left
abbrev pub EndsSending : Writing → Writing → SendFault → Type 0
EndsSending old new (WriteFailed sent) = HasRisen old.failures new.failures
EndsSending old new (TurnsExhausted sent) = HasReached turn_limit old.calls new.calls × (new.failures ≡ old.failures)
