-- How many digits a number has, and the digits of a fraction's whole part that a format keeps. Assumes nothing.
use Rattle.std.proofs.Common.{◌≡◌, ℕ, suc, ◌+◌, ◌-◌, ◌*◌, ◌/◌, ◌^◌, ◌<◌, ◌≤◌, sym, ap, ◌∙◌, subst, le_trans, le_of_eq, lt_of_lt_of_le, le_antisymm, lt_of_not-le, le-div_iff_mul-le, not-le_of_lt, arith, pow_pos, pow_mono, pow-add}
use native.Mathlib.Nat.{div-div-eq-div-mul, two-pow-succ}
use lib.Ieee.{size}
use lib.Ieee.Digits.{size-lt, size-le, size_reaches}
use lib.Ieee.Fits.{kept-lt}
use lib.Ieee.Order.{drop}

pub size_is : (n j : ℕ) → 2 ^ j ≤ n → n < 2 ^ suc j → size n ≡ suc j
size_is n j h k = le_antisymm (size-le n (suc j) k) (lt_of_not-le (λ (g : size n ≤ j). not-le_of_lt (lt_of_lt_of_le (size-lt n) (pow_mono g)) h))

pub half : (p : ℕ) → 0 < p → 2 ^ p ≡ 2 ^ (p - 1) + 2 ^ (p - 1)
half p P = ap (λ (x : ℕ). 2 ^ x) (pick p P) ∙ two-pow-succ (p - 1)
  where
    pick : (p : ℕ) → 0 < p → p ≡ suc (p - 1)
    pick p P = omega arith

-- at most p digits of the whole part are kept, and all p where digits are dropped
pub whole_lt : (p n den : ℕ) → n / (den * 2 ^ drop p n den) < 2 ^ p
whole_lt p n den = subst (λ (x : ℕ). x < 2 ^ p) (div-div-eq-div-mul n den (2 ^ drop p n den)) (kept-lt p (n / den))

all_in_use : (z p : ℕ) → 0 < p → 0 < z - p → p - 1 + (z - p) < z
all_in_use z p P h = omega arith

pub whole_ge : (p n den : ℕ) → 0 < p → 0 < drop p n den → 2 ^ (p - 1) ≤ n / (den * 2 ^ drop p n den)
whole_ge p n den P K =
    let k = drop p n den in
    let a : 2 ^ (p - 1) * 2 ^ k ≤ n / den = le_trans (le_of_eq (sym (pow-add 2 (p - 1) k))) (size_reaches (n / den) (p - 1 + k) (all_in_use (size (n / den)) p P K)) in
    subst (λ (x : ℕ). 2 ^ (p - 1) ≤ x) (div-div-eq-div-mul n den (2 ^ k)) ((le-div_iff_mul-le (pow_pos k)).1 a)
