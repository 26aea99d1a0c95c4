-- Which numbers binary16 has a pattern for that is neither zero's nor infinity's: those above 2 ^ -25 and below 65,520.
-- Assumes nothing.
use mathlib.Core.Path.{◌≡◌, refl, ap}
use Prim.Native.Nat.{ℕ, ◌+◌, ◌*◌, ◌^◌, ◌≤◌, ◌<◌}
use native.Mathlib.Nat.{le_of_suc-le-suc, lt_of_not-le, mul-zero, mul-one}
use native.Mathlib.Omega.{arith}
use Rattle.narrow.specs.Format.{inf_of, units_of, Rounded}
use Rattle.narrow.proofs.Middle.{before_middle, middle_down, past_middle, middle_up}

-- ---- in units of 2 ^ -24: zero and the smallest value; the largest, and what infinity counts as
module _ (den : ℕ) where
  none : den * units_of 11 0 ≡ 0
  unfolding units_of
  none = mul-zero den

  one : den * units_of 11 1 ≡ den
  unfolding units_of
  one = mul-one den

  most : units_of 11 31743 ≡ 1098974756864
  unfolding units_of
  most = refl

  infinity : units_of 11 31744 ≡ 1099511627776
  unfolding units_of
  infinity = refl

module _ (num den r : ℕ) (D : 0 < den) (rounds : Rounded 11 15 num den r) where
  -- at 2 ^ -25, the middle between zero and the smallest value, zero is the even one
  pub coded_above : 0 < r → den < num * 2 ^ 25
  coded_above h =
      let l = past_middle 11 15 num den D 0 r rounds (omega arith) h in
      let t = middle_up 11 15 num den D 0 r rounds (omega arith) h in
      let a = none den in
      let b = one den in
      lt_of_not-le (λ (g : num * 2 ^ 25 ≤ den). let e = t (omega arith) in omega arith)

  pub above_coded : den < num * 2 ^ 25 → 0 < r
  above_coded h = lt_of_not-le (λ (g : r ≤ 0).
      let l = before_middle 11 15 num den D 0 r rounds (omega arith) g in
      let a = none den in
      let b = one den in
      omega arith)

  sum : den * units_of 11 31743 + den * units_of 11 31744 ≡ den * 2198486384640
  sum = omega (arith, ap (λ (z : ℕ). den * z) (most den), ap (λ (z : ℕ). den * z) (infinity den))

  -- at 65,520, the middle between the largest value and infinity, infinity is the even one
  pub coded_below : r < inf_of 11 15 → num < 65520 * den
  coded_below h =
      let k : r ≤ 31743 = le_of_suc-le-suc h in
      let l = before_middle 11 15 num den D 31743 r rounds (omega arith) k in
      let t = middle_down 11 15 num den D 31743 r rounds (omega arith) k in
      let s = sum in
      lt_of_not-le (λ (g : 65520 * den ≤ num). let e = t (omega arith) in omega arith)

  pub below_coded : num < 65520 * den → r < inf_of 11 15
  below_coded h = lt_of_not-le (λ (g : inf_of 11 15 ≤ r).
      let l = past_middle 11 15 num den D 31743 r rounds (omega arith) g in
      let s = sum in
      omega arith)
