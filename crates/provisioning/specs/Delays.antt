-- For how long a record waits, if the provider asks for it.
use Rattle.std.specs.Prelude.{ℕ, Bool, List, Option, Some, None, ◌&&◌, if◌then◌else◌, nat_lt, nat_le, length}
use Rattle.std.specs.Char.{is_ascii_digit}
use Rattle.std.specs.List.{list_all}
use Rattle.std.specs.Str.Parse.{digits_value}

-- 1 to 18 digits
abbrev pub is_number : List ℕ → Bool
is_number text = nat_le 1 (length text) && nat_le (length text) 18 && list_all is_ascii_digit text

abbrev pub number_in : List ℕ → Option ℕ
number_in text = if is_number text then Some (digits_value 10 text) else None

-- a number of seconds is a wait from 1 to 60
abbrev pub wait_of : Option ℕ → Option ℕ
wait_of (Some seconds) = if nat_lt 0 seconds && nat_le seconds 60 then Some seconds else None
wait_of None = None

-- the wait that a text writes
abbrev pub seconds_in : List ℕ → Option ℕ
seconds_in text = wait_of (number_in text)
