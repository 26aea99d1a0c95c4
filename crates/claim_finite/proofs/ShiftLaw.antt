-- A residual's norm, where it is above the least, is at least half of each of its differences; so a codeword is moved
-- by at most 1 / 64 (in truth by about 2 / 1,000,000). Assumes nothing.
use mathlib.Core.Path.{◌≡◌, refl, sym, ap, ◌∙◌, subst}
use mathlib.Core.Logic.{inl, inr}
use Prim.Native.Nat.{ℕ, zero, suc, ◌+◌, ◌-◌, ◌*◌, ◌^◌, ◌≤◌, ◌<◌}
use native.Mathlib.Nat.{le_trans, le_of_eq, lt_of_le_of_lt, mul-one, one-mul, mul_comm, mul_assoc, mul_right_comm, mul-le-mul_right, mul-pos, zero-lt-suc}
use native.Mathlib.Omega.{arith}
use mathlib.Core.Bool.{Bool, true, false, not, ◌||◌, true≢false}
use lib.Dec.{T, ltb, lit<, lit≤, nltb→le}
use lib.Pow.{pow-add, pow_pos, pow-lt}
use lib.Ieee.{Float, nan, inf, fin, binary64, up, down, round, sub, div, lt, eq, le}
use lib.Ieee.Exact.{HasValue}
use lib.Ieee.Scale.{finite, round_same}
use Rattle.ieee.specs.Bounds.{AtMost, AtLeast, NotNegative, HoldsFraction}
use Rattle.ieee.proofs.Bound.{fraction_value, at_most_mono, mul_below, div_below}
use Rattle.lloyd_search.specs.Finite.{FiniteDistance}
use Rattle.lloyd_cells.specs.Repair.{epsilon, least_norm, residual_norm, shift}
use Rattle.ieee.proofs.Least.{at_most_or_least}
use Rattle.claim_finite.proofs.NormLaw.{norm_at_least}

-- ---- 2 ^ p / 2 ^ q is a value of binary64
power : (p q : ℕ) → p ≤ 1000 → q ≤ 1000 → HoldsFraction binary64 (2 ^ p) (2 ^ q)
power p q P Q = record {
  q = 1;
  j = 1074 - q + p;
  small = lit< tt;
  under = lt_of_le_of_lt (le_of_eq (one-mul (2 ^ (1074 - q + p)))) (pow-lt {i = 1074 - q + p} {j = 2098} (omega arith));
  is = sym (pow-add 2 p 1074) ∙ ap (λ (z : ℕ). 2 ^ z) back ∙ pow-add 2 (1074 - q + p) q ∙ ap (λ (z : ℕ). z * 2 ^ q) (sym (one-mul (2 ^ (1074 - q + p))));
}
  where
    back : p + 1074 ≡ 1074 - q + p + q
    back = omega arith

power_squared : (p q : ℕ) → p ≤ 500 → q ≤ 500 → HoldsFraction binary64 (2 ^ p * 2 ^ p) (2 ^ q * 2 ^ q)
power_squared p q P Q = subst (λ (z : ℕ). HoldsFraction binary64 z (2 ^ q * 2 ^ q)) (pow-add 2 p p) (subst (HoldsFraction binary64 (2 ^ (p + p))) (pow-add 2 q q) (power (p + p) (q + q) (omega arith) (omega arith)))

-- ---- at most twice b / c, over at least b / c
twice_value : (b c : ℕ) → 0 < b → 0 < c → HasValue (round binary64 false (2 * b * c) (c * b)) false 2 1
twice_value b c B C =
    let same : round binary64 false 2 1 ≡ round binary64 false (2 * b * c) (c * b) = round_same binary64 false 2 1 (2 * b * c) (c * b) (zero-lt-suc 0) (mul-pos C B) (ap (λ (z : ℕ). 2 * z) (mul_comm c b) ∙ sym (mul_assoc 2 b c) ∙ sym (mul-one (2 * b * c))) in
    subst (λ (x : Float). HasValue x false 2 1) same (fraction_value binary64 2 1 (zero-lt-suc 0) (power 1 0 (lit≤ tt) (lit≤ tt)))

twice_over : (x y : Float) (b c : ℕ) → 0 < b → 0 < c → AtMost x (2 * b) c → AtLeast y b c → AtMost (div binary64 x y) 2 1
twice_over x y b c B C h k = div_below binary64 x y (2 * b) c b c 2 1 C B (twice_value b c B C) h k

-- ---- a norm above the least is at least 2 ^ -52
pub above_least : (x : Float) → T (finite x) → NotNegative x → T (not (le x least_norm)) → AtLeast x 1 (2 ^ 52)
unfolding le lt eq
above_least nan f p h = absurd f
above_least (inf s) f p h = absurd f
above_least (fin true m e) f p h = absurd (true≢false p)
above_least (fin false m e) f p h = nltb→le (m * up e * 2 ^ 52) (1 * down e) (first (ltb (m * up e * 2 ^ 52) (1 * down e)) _ h)
  where
    first : (a b : Bool) → T (not (a || b)) → T (not a)
    first true b k = k
    first false b k = tt

-- a bound A as a fraction of d
at_most_times : (x : Float) (A d : ℕ) → AtMost x A 1 → AtMost x (A * d) d
at_most_times nan A d h = h
at_most_times (inf s) A d h = h
at_most_times (fin s m e) A d h = le_trans (le_of_eq (ap (λ (z : ℕ). z * d) (sym (mul-one (m * up e))))) (le_trans (mul-le-mul_right d h) (le_of_eq (mul_right_comm A (down e) d)))

-- ---- epsilon times a quotient of at most 2
epsilon_upto : AtMost epsilon 1 128
epsilon_upto = lit≤ tt

move_value : HasValue (round binary64 false (1 * 2) (128 * 1)) false 1 64
unfolding round
move_value = (refl, refl)

pub shift_upto : (far word norm : Float) → AtMost (div binary64 (sub binary64 far word) norm) 2 1 → AtMost (shift far word norm) 1 64
shift_upto far word norm h = mul_below binary64 epsilon (div binary64 (sub binary64 far word) norm) 1 128 2 1 1 64 (zero-lt-suc 127) (zero-lt-suc 0) move_value epsilon_upto h

-- ---- the quotient
module _ (k : ℕ) (far word : ℕ → Float) (fine : FiniteDistance k far word) (norm : AtLeast (residual_norm k far word) 1 (2 ^ 52)) (j : ℕ) (l : j < k) where
  abbrev difference : Float
  difference = sub binary64 (far j) (word j)

  -- of a difference of at most 2 ^ i / 2 ^ 52: below 2 ^ -52 by the norm; else by the largest power of two in it
  direction_from : (i : ℕ) → i ≤ 200 → AtMost difference (2 ^ i) (2 ^ 52) → AtMost (div binary64 difference (residual_norm k far word)) 2 1
  direction_from zero g h = twice_over difference (residual_norm k far word) 1 (2 ^ 52) (zero-lt-suc 0) (pow_pos 52) (at_most_mono difference 1 2 (2 ^ 52) h (lit≤ tt)) norm
  direction_from (suc i) g h = elim (at_most_or_least difference (2 ^ i) (2 ^ 52) (fine.differences j l)) [
    | inl m ↦ direction_from i (omega arith) m
    | inr m ↦
        twice_over difference (residual_norm k far word) (2 ^ i) (2 ^ 52) (pow_pos i) (pow_pos 52) (subst (λ (z : ℕ). AtMost difference z (2 ^ 52)) (double i) h)
        (norm_at_least k far word fine j (2 ^ i) (2 ^ 52) l (pow_pos 52) (power i 52 (omega arith) (lit≤ tt)) (power_squared i 52 (omega arith) (lit≤ tt)) m)
  ]
    where
      double : (i : ℕ) → 2 ^ suc i ≡ 2 * 2 ^ i
      double i = let p = pow-add 2 i 1 in omega arith

  -- of a difference of at most 2 ^ b, the quotient is at most 2
  pub direction_upto : (b : ℕ) → b ≤ 100 → AtMost difference (2 ^ b) 1 → AtMost (div binary64 difference (residual_norm k far word)) 2 1
  direction_upto b g h = direction_from (b + 52) (omega arith) (subst (λ (z : ℕ). AtMost difference z (2 ^ 52)) (sym (pow-add 2 b 52)) (at_most_times difference (2 ^ b) (2 ^ 52) h))
