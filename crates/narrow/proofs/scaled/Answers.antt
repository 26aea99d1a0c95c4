-- `narrow::scaled` meets its contract: the product is exact, and the number that it is has one float in binary32.
-- Assumes nothing.
use Rattle.std.proofs.Common.{◌≡◌, ℕ, ◌+◌, ◌*◌, ◌%◌, ◌^◌, ◌<◌, Bool, false, not, T, pos, sym, refl, ap, ◌∙◌, subst, le_refl, lt_of_lt_of_le, arith, lit<, lit≤, pow_pos, pow_mono, pow-add, shl_lt, le-ltb}
use lib.Ieee.{binary32, of_int, of_bits, odd, mul, round, nan_bits}
use lib.Ieee.Back.{round_whole}
use lib.Ieee.Bits.{nan_bits_above}
use lib.Ieee.Exact.{HasValue, odd_sign, round_exact}
use lib.Ieee.Fits.{round-fits, odd-fits}
use Rattle.narrow.specs.Format.{units_of}
use Rattle.narrow.proofs.Exactly.{same_value, odd_shift, mul_value}
use Rattle.narrow.proofs.ToNearest.{units_at}
use Rattle.narrow.proofs.Unpacked.{of_bits_value}
use Rattle.narrow.proofs.scaled.Goals as goal

abbrev power : ℕ → ℕ
power k = (k + 103) * 8388608

module _ (q k : ℕ) (Q : q < 2048) (K : k < 30) where
  whole_value : HasValue (of_int binary32 (pos q)) false q 1
  unfolding of_int
  whole_value = round_whole binary32 false q (omega arith)

  no_nan_pattern : nan_bits binary32 (power k) ≡ false
  no_nan_pattern = nan_bits_above binary32 (power k) ∙ le-ltb 2139095040 (power k % 2147483648) (omega arith)

  power_value : HasValue (of_bits binary32 (power k)) false (2 ^ (k + 125)) (2 ^ 149)
  power_value =
      let at : power k ≡ (k + 102) * 8388608 + 8388608 = omega arith in
      let l : power k < 2139095040 = omega arith in
      let u : units_of 24 (power k) ≡ 2 ^ (k + 125) = ap (units_of 24) at ∙ units_at 24 (k + 102) 8388608 (lit≤ tt) (λ _. le_refl 8388608) ∙ sym (pow-add 2 23 (k + 102)) ∙ ap (λ (x : ℕ). 2 ^ x) (omega arith) in
      subst (λ (w : ℕ). HasValue (of_bits binary32 (power k)) false w (2 ^ 149)) u (of_bits_value binary32 (power k) l)

  product : mul binary32 (of_int binary32 (pos q)) (of_bits binary32 (power k)) ≡ odd 11 false q k 24
  product =
      let j = k + 125 in
      let w = q * 2 ^ j in
      let small : w < 2 ^ 277 = lt_of_lt_of_le (shl_lt 11 j Q) (pow_mono {i = 11 + j} {j = 277} (omega arith)) in
      mul_value binary32 (of_int binary32 (pos q)) (of_bits binary32 (power k)) q 1 (2 ^ j) (2 ^ 149) (lit< tt) (pow_pos 149) whole_value power_value
      ∙ same_value binary32 (round binary32 false w (2 ^ 149)) (odd 11 false q j 149) false w
      (round-fits binary32 false w (2 ^ 149)) (odd-fits binary32 11 false q j Q (omega arith) small)
      (round_exact binary32 false w (2 ^ 149) q j (pow_pos 149) (omega arith) small refl) (odd_sign 11 false q j 149)
      ∙ odd_shift 11 false q k 24 125

pub float_from_bits-result : goal.float_from_bits-result
float_from_bits-result c = subst (λ (b : Bool). T (not b)) (sym (no_nan_pattern c.args.q c.args.k (omega arith) (omega arith))) tt

pub returns : goal.returns
returns c = product c.args.q c.args.k (omega arith) (omega arith)
