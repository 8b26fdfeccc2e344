-- Where a text may be cut.
use Rattle.std.proofs.Common.{◌≡◌, ℕ, true, ◌+◌, ◌-◌, ◌<◌, ◌≤◌, ◌==◌, List, [], ◌∷◌, length, get_or, arith}
use Rattle.std.specs.Str.{IsUtf8, IsCharBoundary}
use Rattle.std.proofs.lemmas.Str.{IsCharBoundary-after_ascii}
use Rattle.std.specs.List.{prefix_len}
use Rattle.std.proofs.lemmas.List.Sums.{prefix_len-le-length, prefix_len_passes}
use Rattle.std.proofs.lemmas.Bool.Decides.{nat_tests}
use Rattle.scim_filter.specs.Tokens.{is_space, is_word_byte}

-- behind an ASCII character
pub behind_ascii : (bs : List ℕ) (n : ℕ) → IsUtf8 bs → 0 < n → n ≤ length bs → get_or bs (n - 1) 0 < 128 → IsCharBoundary bs n
behind_ascii bs n u some within ascii =
    let e : n - 1 + 1 ≡ n = omega arith in
    let l : n - 1 < length bs = omega arith in
    rw e at (IsCharBoundary-after_ascii bs (n - 1) u l ascii)

-- a space, or a letter or point, is an ASCII character
space_small : (b : ℕ) → is_space b ≡ true → b < 128
space_small b e = grind (arith, nat_tests)

word_byte_small : (b : ℕ) → is_word_byte b ≡ true → b < 128
word_byte_small b e = grind (arith, nat_tests)

pub space_last : (bs : List ℕ) (n : ℕ) → n ≡ prefix_len is_space bs → 0 < n → (n ≤ length bs) × (get_or bs (n - 1) 0 < 128)
space_last bs n e some =
    (omega (arith, prefix_len-le-length is_space bs), space_small (get_or bs (n - 1) 0) (prefix_len_passes is_space bs (n - 1) 0 (omega arith)))

pub word_byte_last : (bs : List ℕ) (n : ℕ) → n ≡ prefix_len is_word_byte bs → 0 < n → (n ≤ length bs) × (get_or bs (n - 1) 0 < 128)
word_byte_last bs n e some =
    (omega (arith, prefix_len-le-length is_word_byte bs), word_byte_small (get_or bs (n - 1) 0) (prefix_len_passes is_word_byte bs (n - 1) 0 (omega arith)))

pub space_some : (bs : List ℕ) → get_or bs 0 0 ≡ 32 → 0 < prefix_len is_space bs
space_some [] e = absurd (omega (arith, e))
space_some (b ∷ bs) e = let k : (b == 32) ≡ true = grind (arith, nat_tests) in rw k (omega arith)
