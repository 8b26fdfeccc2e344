-- How far a body was read.
use Rattle.std.proofs.Common.{◌≡◌, ℕ, ◌+◌, List, ◌++◌, length}
use Rattle.std.specs.Io.KnownBytes.{Consumes}
use Rattle.http_text.specs.Counts.{Reading}
use Rattle.http_text.specs.Message.{Message}
use Rattle.http_text.specs.Steps.{SpendsTurns}

-- of `all` bytes, `left` remain, and the others are at the body's end
pub record HasRead (old now : Reading) (before after : Message) (all left : ℕ) (turns turns_left : ℕ) : Type 0 where
  pub bytes : List ℕ
  pub taken : Consumes old.remaining now.remaining bytes
  pub counted : length bytes + left ≡ all
  pub message : after ≡ record { head = before.head; body = before.body ++ bytes }
  pub counts : SpendsTurns old now turns turns_left
  pub clean : now.failures ≡ old.failures
