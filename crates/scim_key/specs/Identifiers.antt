-- The ids of resources.
use Rattle.std.specs.Prelude.{◌≡◌, ℕ, zero, suc, List, [], ◌∷◌, ◌++◌, Option, Some, None, ◌==◌, ◌+◌, ◌/◌, ◌%◌, ◌≤◌, length, nat_lt, if◌then◌else◌, codes}
use Rattle.std.specs.Int.{w32, to_be_bytes}
use Rattle.scim_key.specs.declared.identifiers.TheConstants.{ID_LIMIT, LAST_NUMBER}
use Rattle.scim_key.specs.declared.names.NameFault.{NameFault}
use Rattle.scim_key.specs.declared.names.NameFault.TheVariants.{Empty, TooLong}

-- The first fault of a text as an id, if it has one
unfoldable pub id_fault : List ℕ → Option NameFault
id_fault bs = if length bs == 0 then Some Empty else if nat_lt ID_LIMIT (length bs) then Some TooLong else None

abbrev pub IsId : List ℕ → Type 0
IsId bs = id_fault bs ≡ None

-- the most resources that a provider holds, and so the greatest number of an id
abbrev pub last_number : ℕ
last_number = LAST_NUMBER

-- one lower-case hexadecimal digit
abbrev pub hex_digit : ℕ → ℕ
hex_digit d = if nat_lt d 10 then 48 + d else 87 + d

-- the last `count` hexadecimal digits of a number, in lower case, with leading zeros
unfoldable pub lower_hex : ℕ → ℕ → List ℕ
lower_hex zero n = []
lower_hex (suc count) n = lower_hex count (n / 16) ++ hex_digit (n % 16) ∷ []

-- The id of the n-th resource ever created, of either type
unfoldable pub id_text : ℕ → List ℕ
id_text n = codes "5c1a0000-0000-8000-8000-" ++ lower_hex 12 n

-- the bytes of the UUID that this id spells; the last four are the number
abbrev pub id_bytes : ℕ → List ℕ
id_bytes n = 92 ∷ 26 ∷ 0 ∷ 0 ∷ 0 ∷ 0 ∷ 128 ∷ 0 ∷ 128 ∷ 0 ∷ 0 ∷ 0 ∷ to_be_bytes w32 n

-- resources of different numbers have different ids
abbrev pub IdsDiffer : Type 0
IdsDiffer = (m n : ℕ) → m ≤ last_number → n ≤ last_number → id_text m ≡ id_text n → m ≡ n
