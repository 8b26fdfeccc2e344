-- What is known of a request while its bytes arrive.
use Rattle.std.specs.Prelude.{◌≡◌, ◌⊎◌, ◌+◌, ◌-◌, ◌*◌, ◌≤◌, ◌<◌, ℕ, List, ◌++◌, length, Ok, ⊤}
use Rattle.http_text.specs.Message.{Head, head_limit}
use Rattle.http_text.specs.Judging.{judge_head}
use Rattle.http_text.specs.Forms.{IsRequestHead, request_form}
use Rattle.http_text.specs.Heads.{HasNone, IsPartOfBody, IsUndecided, IsUnfinished}
use Rattle.connection.specs.declared.readiness.Extent.{Extent}
use Rattle.connection.specs.declared.readiness.Extent.TheVariants.{PartOfHead, Whole, Unknown}
use Rattle.connection.specs.declared.lines.HeadLines.TheVariants.{Blank, Ended}
use Rattle.connection.specs.Lines.{lines_after}

-- the bytes begin with a whole head that isn't refused; with its body the request has this length
pub record HasLength (bytes : List ℕ) (whole : ℕ) : Type 0 where
  pub front : List ℕ
  pub part : List ℕ
  pub head : Head
  pub stated : ℕ
  pub is_head : IsRequestHead front head
  pub split : bytes ≡ front ++ part
  pub accepted : judge_head head ≡ Ok stated
  pub whole_is : whole ≡ length front + stated

-- how far a request is that isn't decided yet
abbrev pub HasExtent : List ℕ → Extent → Type 0
HasExtent bytes PartOfHead = ¬ (IsPartOfBody request_form bytes)
HasExtent bytes (Whole whole) = HasLength bytes whole
HasExtent bytes Unknown = ⊤

-- the first `count` of the bytes don't decide what is answered
pub record AreUndecided (bytes : List ℕ) (count : ℕ) : Type 0 where
  pub front : List ℕ
  pub more : List ℕ
  pub split : bytes ≡ front ++ more
  pub count_is : length front ≡ count
  pub undecided : IsUndecided request_form front

-- A request that is put off: its first bytes were found undecided, at most an eighth of their number has come since,
-- and no head is whole
pub record IsPutOff (bytes : List ℕ) : Type 0 where
  pub count : ℕ
  pub undecided : AreUndecided bytes count
  pub few : (length bytes - count) * 8 ≤ count
  pub none : HasNone request_form bytes
  pub size : length bytes < head_limit

-- Bytes of which `read` were read last are read again: as many came as a head may have, or an eighth more, or an empty
-- line behind a first one
abbrev pub IsDue : List ℕ → (read : ℕ) → Type 0
IsDue bytes read = (head_limit ≤ length bytes) ⊎ (read < (length bytes - read) * 8) ⊎ (lines_after Blank bytes ≡ Ended)

-- a request that isn't decided yet, or is put off
abbrev pub Waits : List ℕ → Type 0
Waits bytes = IsUnfinished request_form bytes ⊎ IsPutOff bytes
