-- The UUID of a number is spelled by the id of that number.
use Rattle.std.proofs.Common.{◌≡◌, ℕ, ◌/◌, ◌%◌, ◌<◌, ◌≤◌, List, Some, None, Result, Ok, IsOk, IfOk, ◌↔◌, drop, inl, lit<, refl, sym, ap, ◌∙◌, arith}
use Rattle.std.specs.Int.{w32, from_be_bytes}
use Rattle.std.specs.List.{AllByRecursion}
use Rattle.std.proofs.lemmas.List.Elements.{All-from_recursion}
use Rattle.std.proofs.lemmas.Nat.{from_be_bytes-to_be_bytes_4, mod_below}
use Rattle.uuid.proofs.RoundTrips.{parses_hyphenated, parse_gives}
use Rattle.std.proofs.lemmas.Bool.Decides.{nat_tests}
use Rattle.scim_key.specs.Identifiers.{hex_digit, lower_hex, id_text, id_bytes, id_fault, IdsDiffer}
use Rattle.uuid.specs.Text as uuid

-- both words for a hexadecimal digit
same_digit : (d : ℕ) → uuid.hex_digit uuid.lower d ≡ hex_digit d
same_digit d = grind (arith, nat_tests)

-- the halves of the lowest byte
low_half : (n : ℕ) → n % 256 % 16 ≡ n % 16
low_half n = omega arith

high_half : (n : ℕ) → n % 256 / 16 % 16 ≡ n / 16 % 16
high_half n = omega arith

-- one byte on is two digits on
two_digits : (n : ℕ) → n / 256 ≡ n / 16 / 16
two_digits n = omega arith

four_digits : (n : ℕ) → n / 65536 ≡ n / 16 / 16 / 16 / 16
four_digits n = omega arith

six_digits : (n : ℕ) → n / 16777216 ≡ n / 16 / 16 / 16 / 16 / 16 / 16
six_digits n = omega arith

-- a number up to a million has five digits
eight_on : (n : ℕ) → n ≤ 1_000_000 → n / 16 / 16 / 16 / 16 / 16 / 16 / 16 / 16 ≡ 0
eight_on n small = omega arith

pub spelled : (n : ℕ) → n ≤ 1_000_000 → uuid.hyphenated_text uuid.lower (id_bytes n) ≡ id_text n
unfolding uuid.by_index lower_hex id_text
spelled n small = rw (eight_on n small, two_digits n, four_digits n, six_digits n)
    (rw (low_half n, high_half n, low_half (n / 16 / 16), high_half (n / 16 / 16), low_half (n / 16 / 16 / 16 / 16), high_half (n / 16 / 16 / 16 / 16), low_half (n / 16 / 16 / 16 / 16 / 16 / 16), high_half (n / 16 / 16 / 16 / 16 / 16 / 16))
    (simp same_digit))

-- the id of a number is valid
pub id_is_lawful : (n : ℕ) → id_fault (id_text n) ≡ None
unfolding id_fault id_text lower_hex
id_is_lawful n = refl

bytes_small : (n : ℕ) → AllByRecursion (λ b. b < 256) (id_bytes n)
bytes_small n = (lit< tt, (lit< tt, (lit< tt, (lit< tt, (lit< tt, (lit< tt, (lit< tt, (lit< tt, (lit< tt, (lit< tt, (lit< tt, (lit< tt, (mod_below _ 256 (lit< tt), (mod_below _ 256 (lit< tt), (mod_below _ 256 (lit< tt), (mod_below _ 256 (lit< tt), tt))))))))))))))))

-- and parses to the UUID of that number
pub id_parses : (n : ℕ) → n ≤ 1_000_000 → Some (id_bytes n) ≡ uuid.parsed (id_text n)
id_parses n small = rw (← spelled n small) (parses_hyphenated uuid.lower (id_bytes n) (inl refl) refl (All-from_recursion (λ b. b < 256) (id_bytes n) (bytes_small n)))

-- from which the number is read back
pub number_back : (n : ℕ) → n ≤ 1_000_000 → from_be_bytes w32 (drop 12 (id_bytes n)) ≡ n
number_back n small = from_be_bytes-to_be_bytes_4 n (omega arith)

pub ids_differ : IdsDiffer
ids_differ m n small small' same =
    let e : Some (id_bytes m) ≡ Some (id_bytes n) = id_parses m small ∙ ap uuid.parsed same ∙ sym (id_parses n small') in
    let bytes : id_bytes m ≡ id_bytes n = cc in
    sym (number_back m small) ∙ ap (λ bs. from_be_bytes w32 (drop 12 bs)) bytes ∙ number_back n small'

-- what `candidate` finds in the text of an id
pub candidate_of : {E : Type 0} (r : Result (List ℕ) E) (text : List ℕ) (n : ℕ) → n ≤ 1_000_000
    → (IsOk r ↔ ((u : List ℕ) × (uuid.parsed text ≡ Some u))) → IfOk r (λ u. Some u ≡ uuid.parsed text) → text ≡ id_text n → r ≡ Ok (id_bytes n)
candidate_of r text n small ok bytes same = parse_gives r text (id_bytes n) ok bytes (id_parses n small ∙ ap uuid.parsed (sym same))
