-- Bytes that are exactly one message.
use Rattle.std.specs.Prelude.{◌≡◌, ℕ, List, ◌++◌, length, Option, Some, None, Ok}
use Rattle.http_text.specs.Message.{Message}
use Rattle.http_text.specs.Forms.{Form, request_form, IsMessage, IsAcceptable}

module _ (F : Form) where
  -- the bytes are one message that isn't refused
  abbrev pub IsOne : List ℕ → Message → Type 0
  IsOne bytes m = IsMessage F bytes m × IsAcceptable F m

  -- the bytes are only a part of a message, a refused one, or more than one
  abbrev pub IsNone : List ℕ → Type 0
  IsNone bytes = (m : Message) → ¬ (IsOne bytes m)

  -- the head with these bytes as its body, if it states that length; otherwise none
  abbrev pub TakesWhole : Message → List ℕ → Option Message → Type 0
  TakesWhole before body None = ¬ (F.judge before.head ≡ Ok (length body))
  TakesWhole before body (Some m) = (F.judge before.head ≡ Ok (length body))
      × (m ≡ record { head = before.head; body = before.body ++ body })

-- requests

abbrev pub IsOneRequest : List ℕ → Message → Type 0
IsOneRequest = IsOne request_form

abbrev pub IsNoRequest : List ℕ → Type 0
IsNoRequest = IsNone request_form
