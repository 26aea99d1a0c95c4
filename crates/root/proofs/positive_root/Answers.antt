-- `root::positive_root` meets its contract: the value of the pattern b, by its 53 digits. Assumes nothing.
use mathlib.Core.Path.{◌≡◌, sym, ap, ◌∙◌}
use Prim.Native.Nat.{ℕ, ◌+◌, ◌-◌, ◌*◌, ◌/◌, ◌%◌, ◌^◌, ◌<◌}
use native.Mathlib.Nat.{mul_assoc, mul_right_comm, mul-pos, mod-eq_of_lt}
use native.Mathlib.Omega.{arith}
use lib.Pow.{pow-add, pow_pos}
use lib.Ieee.{binary64, of_bits, to_bits}
use lib.Ieee.Positive.{num, den, den_pos, value→cross, positive_of_value}
use Rattle.root.specs.Sqrt.{sqrt_of, root_of}
use Rattle.narrow.specs.Format.{units_of}
use Rattle.root.proofs.Rounded.{root_of_same, positive_root}
use Rattle.narrow.proofs.ToNearest.{units_low, units_high}
use Rattle.narrow.proofs.Unpacked.{of_bits_value}
use Rattle.root.proofs.positive_root.Goals as goal

-- the root of b's value, which is sig * 2 ^ h / 2 ^ 52 units
found : (b sig h : ℕ) → b < 0x7ff0000000000000 → 0 < units_of 53 b → units_of 53 b * 2 ^ 52 ≡ sig * 2 ^ h → to_bits binary64 (root_of binary64 (sig * 2 ^ h) (2 ^ 1126)) ≡ to_bits binary64 (sqrt_of binary64 (of_bits binary64 b))
found b sig h l W e =
    let x = of_bits binary64 b in
    let v = of_bits_value binary64 b l in
    let c : num x * 2 ^ 1126 ≡ sig * 2 ^ h * den x =
    sym (mul_assoc (num x) (2 ^ 1074) (2 ^ 52)) ∙ ap (λ (z : ℕ). z * 2 ^ 52) (value→cross x (units_of 53 b) (2 ^ 1074) v) ∙ mul_right_comm (units_of 53 b) (den x) (2 ^ 52) ∙ ap (λ (z : ℕ). z * den x) e in
    ap (to_bits binary64) (sym (root_of_same binary64 (num x) (den x) (sig * 2 ^ h) (2 ^ 1126) (den_pos x) (pow_pos 1126) c) ∙ sym (positive_root binary64 x (positive_of_value x (units_of 53 b) (2 ^ 1074) v W)))

shifted : (s x : ℕ) → 0 < x → s * 2 ^ (x - 1) * 2 ^ 52 ≡ s * 2 ^ (x + 51)
shifted s x h = mul_assoc s (2 ^ (x - 1)) (2 ^ 52) ∙ ap (λ (y : ℕ). s * y) (sym (pow-add 2 (x - 1) 52) ∙ ap (λ (y : ℕ). 2 ^ y) (same x h))
  where
    same : (x : ℕ) → 0 < x → x - 1 + 52 ≡ x + 51
    same x h = omega arith

pub returns-in-0 : goal.returns-in-0
returns-in-0 c =
    let b = c.args.b in
    let d = c.of_subnormal.result in
    let u : units_of 53 b ≡ b % 0x10000000000000 = units_low 53 b (omega arith) ∙ sym (mod-eq_of_lt {n = b} {m = 0x10000000000000} (omega arith)) in
    c.root_pattern.ensures ∙ found b d.sig d.h c.requires.1 (omega arith) (ap (λ (n : ℕ). n * 2 ^ 52) u ∙ sym c.of_subnormal.ensures.same)

pub returns-in_default : goal.returns-in_default
returns-in_default c =
    let b = c.args.b in
    let x = b / 0x10000000000000 in
    let s = 0x10000000000000 + b % 0x10000000000000 in
    let u : units_of 53 b ≡ s * 2 ^ (x - 1) = units_high 53 b (omega arith) in
    let S : 0 < s = omega arith in
    let P = mul-pos S (pow_pos (x - 1)) in
    c.root_pattern-in_default.ensures ∙ found b s (x + 51) c.requires.1 (omega arith) (ap (λ (n : ℕ). n * 2 ^ 52) u ∙ shifted s x (omega arith))
