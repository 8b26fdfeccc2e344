-- A reader and a writer whose calls and failures are counted.
use Rattle.std.specs.Prelude.{ℕ, ◌<◌, ◌≤◌, ◌==◌, Bool, true, false, List, length, take, Option, Result, Ok, Err, if◌then◌else◌, ⊤}
use Rattle.std.specs.Io.KnownBytes.{Keeps, Appends, IsAtEnd}
use Rattle.std.specs.declared.io.ErrorKind.{ErrorKind}
use Rattle.std.specs.declared.io.ErrorKind.TheVariants.{Interrupted}
use Rattle.http_text.specs.Counts.{Reading}
use Rattle.http_text.specs.declared.input.ReadTurn.{ReadTurn}
use Rattle.http_text.specs.declared.input.ReadTurn.TheVariants as Read
use Rattle.http_text.specs.declared.output.WriteTurn.{WriteTurn}
use Rattle.http_text.specs.declared.output.WriteTurn.TheVariants as Write

-- what a read means: no bytes are the end, and an interrupted read is made again
abbrev pub read_turn : Result ℕ ErrorKind → ReadTurn
read_turn (Ok count) = if count == 0 then Read.End else Read.Bytes count
read_turn (Err Interrupted) = Read.Interrupted
read_turn (Err _) = Read.Failed

-- only a failed turn counts as a failure
abbrev pub read_failures : ReadTurn → ℕ
read_failures (Read.Bytes count) = 0
read_failures Read.End = 0
read_failures Read.Interrupted = 0
read_failures Read.Failed = 1

-- what a write means: taking no byte is a failure, and an interrupted write is made again
abbrev pub write_turn : Result ℕ ErrorKind → WriteTurn
write_turn (Ok count) = if count == 0 then Write.Failed else Write.Taken count
write_turn (Err Interrupted) = Write.Interrupted
write_turn (Err _) = Write.Failed

abbrev pub write_failures : WriteTurn → ℕ
write_failures (Write.Taken count) = 0
write_failures Write.Interrupted = 0
write_failures Write.Failed = 1

-- a flush that didn't succeed is a failure
abbrev pub flush_failures : Bool → ℕ
flush_failures true = 0
flush_failures false = 1

-- what is there after a turn that read ahead: some bytes, or none because the reader is at its end
abbrev pub Looks : Reading → ReadTurn → Type 0
Looks new (Read.Bytes count) = 0 < length new.ahead
Looks new Read.End = IsAtEnd new.remaining
Looks new Read.Interrupted = ⊤
Looks new Read.Failed = ⊤

-- a turn added exactly the bytes that it took
abbrev pub Writes : Option (List ℕ) → Option (List ℕ) → List ℕ → WriteTurn → Type 0
Writes old new bytes (Write.Taken count) = (0 < count) × (count ≤ length bytes) × Appends old new (take count bytes)
Writes old new bytes Write.Interrupted = Keeps old new
Writes old new bytes Write.Failed = Keeps old new
