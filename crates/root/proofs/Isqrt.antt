-- The integer square root: r * r ≤ n < (r + 1) * (r + 1), and only one r is so. Assumes nothing.
use mathlib.Core.Path.{◌≡◌, refl, sym, ap, ◌∙◌, subst}
use Prim.Native.Nat.{ℕ, zero, suc, ◌+◌, ◌*◌, ◌/◌, ◌^◌, ◌≤◌, ◌<◌, zero-le}
use native.Mathlib.Nat.{le_trans, le_of_eq, le_antisymm, lt_of_lt_of_le, lt_of_not-le, not-le_of_lt, le_of_suc-le-suc, mul_comm, mul-le-mul, lt_of_mul-lt-mul_right, le_of_mul-le-mul_right, mul-pos, mul-mul-mul_comm, div-add-mod', mod-lt, suc-mul, pow-suc}
use native.Mathlib.Omega.{arith}
use mathlib.Core.Bool.{Bool, true, false, not, cond}
use lib.Dec.{T, leb, leb→le, nleb→lt}
use lib.Pow.{pow-add, pow_mono}
use lib.Ieee.{size}
use lib.Ieee.Digits.{size-lt}
use Rattle.root.specs.Sqrt.{isqrt_by, isqrt}

-- ---- squares
pub sq_mono : (a b : ℕ) → a ≤ b → a * a ≤ b * b
sq_mono a b h = mul-le-mul h h

-- (a + 1) * (a + 1), written out
pub next_square : (a : ℕ) → suc a * suc a ≡ a * a + a + a + 1
next_square a = omega (arith, suc-mul a (suc a), mul_comm a (suc a), suc-mul a a)

pub sq_lt : (a b : ℕ) → a < b → a * a < b * b
sq_lt a b h = lt_of_lt_of_le (omega (arith, next_square a)) (sq_mono (suc a) b h)

-- a product's square
pub sq_mul : (a b : ℕ) → a * b * (a * b) ≡ a * a * (b * b)
sq_mul a b = mul-mul-mul_comm a b a b

-- r is the integer square root of n
abbrev pub Between : ℕ → ℕ → Type 0
Between n r = (r * r ≤ n) × (n < suc r * suc r)

pub not_above : (n a b : ℕ) → a * a ≤ n → n < suc b * suc b → a ≤ b
not_above n a b h k = le_of_suc-le-suc (lt_of_not-le (λ (g : suc b ≤ a). not-le_of_lt k (le_trans (sq_mono (suc b) a g) h)))

pub unique : (n a b : ℕ) → Between n a → Between n b → a ≡ b
unique n a b h k = le_antisymm (not_above n a b h.0 k.1) (not_above n b a k.0 h.1)

-- ---- one digit more
module _ (n a : ℕ) (h : Between (n / 4) a) where
  low : 2 * a * (2 * a) ≤ n
  low = let x = sq_mul 2 a in let y = h.0 in omega arith

  high : n < (2 * a + 2) * (2 * a + 2)
  high =
      let x : (2 * a + 2) * (2 * a + 2) ≡ 4 * (suc a * suc a) = ap (λ (z : ℕ). z * z) (twice a) ∙ sq_mul 2 (suc a) in
      let y = h.1 in
      omega arith
    where
      twice : (a : ℕ) → 2 * a + 2 ≡ 2 * suc a
      twice a = omega arith

  digit : (b : Bool) → (T b → (2 * a + 1) * (2 * a + 1) ≤ n) → (T (not b) → n < (2 * a + 1) * (2 * a + 1)) → Between n (2 * a + cond b 1 0)
  digit true p q = (p tt, subst (λ (z : ℕ). n < z * z) (more a) high)
    where
      more : (a : ℕ) → 2 * a + 2 ≡ suc (2 * a + 1)
      more a = omega arith
  digit false p q = (subst (λ (z : ℕ). z * z ≤ n) (same a) low, subst (λ (z : ℕ). n < z * z) (more a) (q tt))
    where
      same : (a : ℕ) → 2 * a ≡ 2 * a + 0
      same a = omega arith

      more : (a : ℕ) → 2 * a + 1 ≡ suc (2 * a + 0)
      more a = omega arith

by_at : (i n : ℕ) → n < 4 ^ i → Between n (isqrt_by i n)
unfolding isqrt_by
by_at zero n h = (zero-le, h)
by_at (suc i) n h =
    let a = isqrt_by i (n / 4) in
    let r = 2 * a + 1 in
    let few : n / 4 < 4 ^ i = let e = pow-suc 4 i in omega arith in
    digit n a (by_at i (n / 4) few) (leb (r * r) n) (leb→le (r * r) n) (nleb→lt (r * r) n)

-- the law
pub isqrt_at : (n : ℕ) → Between n (isqrt n)
unfolding isqrt
isqrt_at n = by_at (size n / 2 + 1) n (lt_of_lt_of_le (size-lt n) (le_trans (pow_mono (half (size n))) (le_of_eq (pairs (size n / 2 + 1)))))
  where
    half : (z : ℕ) → z ≤ z / 2 + 1 + (z / 2 + 1)
    half z = omega arith

    pairs : (k : ℕ) → 2 ^ (k + k) ≡ 4 ^ k
    pairs zero = refl
    pairs (suc k) = ap (λ (z : ℕ). 2 ^ z) (two_more k) ∙ pow-add 2 (k + k) 2 ∙ ap (λ (z : ℕ). z * 4) (pairs k) ∙ sym (pow-suc 4 k)
      where
        two_more : (k : ℕ) → suc k + suc k ≡ k + k + 2
        two_more k = omega arith

-- what lies between is the root
pub isqrt_is : (n r : ℕ) → Between n r → r ≡ isqrt n
isqrt_is n r h = unique n r (isqrt n) h (isqrt_at n)

-- the root of n * G * G, over G, is that of n
pub shrink : (n G s : ℕ) → 0 < G → Between (n * (G * G)) s → Between n (s / G)
shrink n G s P h =
    let r = s / G in
    let e = div-add-mod' s G in
    let l = mod-lt s P in
    let lo : r * r * (G * G) ≤ n * (G * G) = le_trans (le_of_eq (sym (sq_mul r G))) (le_trans (sq_mono (r * G) s (omega arith)) h.0) in
    let top : suc s ≤ suc r * G = omega (arith, suc-mul r G) in
    let hi : n * (G * G) < suc r * suc r * (G * G) = lt_of_lt_of_le h.1 (le_trans (sq_mono (suc s) (suc r * G) top) (le_of_eq (sq_mul (suc r) G))) in
    (le_of_mul-le-mul_right lo (mul-pos P P), lt_of_mul-lt-mul_right (G * G) hi)
