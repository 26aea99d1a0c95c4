-- The width of an index is the least that holds n - 1; 64 less the leading zeros of n - 1 is that width. Assumes nothing.
use Rattle.std.proofs.Common.{◌≡◌, ℕ, suc, ◌-◌, ◌^◌, ◌<◌, ◌≤◌, lt_of_lt_of_le, le_antisymm, lt_of_not-le, not-le_of_lt, arith, pow_mono}
use lib.Count.{count_leading_zeros, leading_top}
use lib.Ieee.{size}
use lib.Ieee.Digits.{size-lt, size-le}
use Rattle.profile.specs.Fields.{index_width}
use Rattle.profile.specs.Valid.{LeastWidth}

pub least_width : (n : ℕ) → LeastWidth (n - 1) (index_width n)
least_width n = record { holds = size-lt (n - 1); least = size-le (n - 1) }

-- a number with a leading digit at place j has j + 1 digits
size_at : (a j : ℕ) → 2 ^ j ≤ a → a < 2 ^ suc j → size a ≡ suc j
size_at a j low high =
    le_antisymm (size-le a (suc j) high)
    (lt_of_not-le (λ (h : size a ≤ j). not-le_of_lt (lt_of_lt_of_le (size-lt a) (pow_mono {i = size a} {j = j} h)) low))

pub leading_below : (n : ℕ) → 2 ≤ n → n < 2 ^ 64 → count_leading_zeros 64 (n - 1) < 64
leading_below n two h = omega (arith, (leading_top 64 (n - 1) (omega arith) (omega arith)).1)

pub leading_width : (n : ℕ) → 2 ≤ n → n < 2 ^ 64 → 64 - count_leading_zeros 64 (n - 1) ≡ index_width n
leading_width n two h =
    let s = leading_top 64 (n - 1) (omega arith) (omega arith) in
    let e : size (n - 1) ≡ suc s.0 = size_at (n - 1) s.0 s.2 s.3 in
    omega (arith, e, s.1)

pub width_range : (n : ℕ) → 2 ≤ n → n ≤ 2 ^ 20 → (1 ≤ index_width n) × (index_width n ≤ 20)
width_range n two h = (
  lt_of_not-le (λ (z : index_width n ≤ 0). not-le_of_lt (lt_of_lt_of_le (size-lt (n - 1)) (pow_mono {i = size (n - 1)} {j = 0} z)) (omega arith)),
  size-le (n - 1) 20 (omega arith),
)

-- no digits hold the indices of a codebook of at most one codeword
pub small_width : (n : ℕ) → n < 2 → 0 ≡ index_width n
small_width n h = le_antisymm (omega arith) (size-le (n - 1) 0 (omega arith))
