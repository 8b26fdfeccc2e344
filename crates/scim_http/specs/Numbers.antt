-- Whole numbers as a query writes them.
use Rattle.std.specs.Prelude.{ℕ, ℤ, pos, neg_ℤ, Bool, List, Option, Some, None, option_map, ◌&&◌, if◌then◌else◌, nat_lt, nat_le, length, drop}
use Rattle.std.specs.Char.{is_ascii_digit}
use Rattle.std.specs.List.{list_all}
use Rattle.std.specs.Str.Parse.{starts_with_minus, digits_value}

-- 1 to 18 digits
abbrev pub is_digits : List ℕ → Bool
is_digits text = nat_lt 0 (length text) && (nat_le (length text) 18 && list_all is_ascii_digit text)

abbrev pub without_minus : List ℕ → List ℕ
without_minus text = if starts_with_minus text then drop 1 text else text

-- the number that digits write
abbrev pub digits_in : List ℕ → Option ℕ
digits_in text = if is_digits text then Some (digits_value 10 text) else None

-- The number that a text writes: an optional `-` and 1 to 18 digits
abbrev pub number_in : List ℕ → Option ℤ
number_in text =
    if starts_with_minus text then option_map (λ n. neg_ℤ (pos n)) (digits_in (drop 1 text))
    else option_map pos (digits_in text)
