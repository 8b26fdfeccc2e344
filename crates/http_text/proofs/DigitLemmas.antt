-- How large a number of few digits is.
use Rattle.std.proofs.Common.{ℕ, ◌+◌, ◌*◌, ◌^◌, ◌<◌, ◌≤◌, arith, add-one}
use Rattle.std.proofs.Math.Nat.{pow-suc, pow-le-pow_right}

-- one digit more
pub small_more : (n d i : ℕ) → n < 10 ^ i → d < 10 → n * 10 + d < 10 ^ (i + 1)
small_more n d i h k = rw (add-one, pow-suc) (omega arith)

-- up to 18 digits
pub small_in_all : (n d i : ℕ) → i < 18 → n < 10 ^ i → d < 10 → n * 10 + d < 10 ^ 18
small_in_all n d i few h k =
    let base : 0 < 10 = omega arith in
    let places : i + 1 ≤ 18 = omega arith in
    let below = pow-le-pow_right {n = 10} base {i = i + 1} {j = 18} places in
    let small = small_more n d i h k in
    omega arith
