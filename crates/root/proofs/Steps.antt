-- One digit of a root from two digits of the number, as integer_root's loop takes them. Assumes nothing.
use mathlib.Core.Path.{◌≡◌, sym, ap, ◌∙◌}
use Prim.Native.Nat.{ℕ, ◌+◌, ◌-◌, ◌*◌, ◌/◌, ◌%◌, ◌^◌, ◌≤◌, ◌<◌}
use native.Mathlib.Nat.{mul_assoc, mul_comm, pow-suc, lt_of_lt_of_le, two-pow-succ}
use native.Mathlib.Numerals.{add-one}
use native.Mathlib.Omega.{arith}
use lib.Pow.{pow_mono}
use Rattle.root.specs.Sqrt.{isqrt}
use Rattle.root.proofs.Isqrt.{sq_mul, next_square, isqrt_is}

-- After i steps r is the root of the digits that are passed, m is the rest,
-- and a is what is left of the digits, from the place of 2 ^ 52 down.
pub record State (sig a r m i : ℕ) : Type 0 where
  pub left : a < 0x40000000000000
  pub rest : m ≤ 2 * r
  pub small : r < 2 ^ i
  pub sum : (r * r + m) * 0x40000000000000 + a ≡ sig * 4 ^ i

twice : (r : ℕ) → r * 2 * (r * 2) ≡ 4 * (r * r)
twice r = sq_mul r 2 ∙ mul_comm (r * r) 4

twice_one : (r : ℕ) → (r * 2 + 1) * (r * 2 + 1) ≡ 4 * (r * r) + 4 * r + 1
twice_one r = ap (λ (x : ℕ). x * x) (add-one (r * 2)) ∙ omega (arith, next_square (r * 2), twice r)

module _ (sig a r m i : ℕ) (h : State sig a r m i) where
  next : sig * 4 ^ (i + 1) ≡ 4 * (sig * 4 ^ i)
  next = ap (λ (x : ℕ). sig * 4 ^ x) (add-one i) ∙ ap (λ (x : ℕ). sig * x) (pow-suc 4 i) ∙ sym (mul_assoc sig (4 ^ i) 4) ∙ mul_comm (sig * 4 ^ i) 4

  grown : 2 ^ (i + 1) ≡ 2 ^ i + 2 ^ i
  grown = ap (λ (x : ℕ). 2 ^ x) (add-one i) ∙ two-pow-succ i

  pub bounded : i ≤ 54 → r < 0x40000000000000
  bounded l = lt_of_lt_of_le h.small (pow_mono {i = i} {j = 54} l)

  -- the digit is 1
  pub one_more : r * 4 + 1 ≤ m * 4 + a / 0x10000000000000 → State sig (a % 0x10000000000000 * 4) (r * 2 + 1) (m * 4 + a / 0x10000000000000 - (r * 4 + 1)) (i + 1)
  one_more l =
      let x = h.left in let y = h.rest in let z = h.small in let s = h.sum in
      let n = next in let g = grown in let t = twice_one r in record {
        left = omega arith;
        rest = omega arith;
        small = omega arith;
        sum = omega arith;
      }

  -- the digit is 0
  pub no_more : m * 4 + a / 0x10000000000000 < r * 4 + 1 → State sig (a % 0x10000000000000 * 4) (r * 2) (m * 4 + a / 0x10000000000000) (i + 1)
  no_more l =
      let x = h.left in let y = h.rest in let z = h.small in let s = h.sum in
      let n = next in let g = grown in let t = twice r in record {
        left = omega arith;
        rest = omega arith;
        small = omega arith;
        sum = omega arith;
      }

-- after 54 steps no digit is left
pub all_steps : (sig a r m : ℕ) → State sig a r m 54 → r ≡ isqrt (sig * 0x40000000000000)
all_steps sig a r m h =
    let x = h.left in let y = h.rest in let s = h.sum in
    isqrt_is (sig * 0x40000000000000) r (omega arith, omega (arith, next_square r))
