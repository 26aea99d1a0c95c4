-- What a root keeps: no sign (and so no NaN), the format, and every bound
-- that is the square of a value of the format. Assumes nothing.
use mathlib.Core.Path.{◌≡◌, sym, ap, ◌∙◌, subst}
use mathlib.Core.Logic.{inl, inr}
use Prim.Native.Nat.{ℕ, zero, suc, ◌+◌, ◌*◌, ◌/◌, ◌%◌, ◌^◌, ◌≤◌, ◌<◌, zero-le}
use native.Mathlib.Nat.{le_trans, le_of_eq, le_of_lt, lt_of_lt_of_le, lt_of_not-le, not-le_of_lt, le_of_suc-le-suc, eq-zero-or-pos, mul-one, one-mul, zero-mul, mul_assoc, mul_left_comm, mul_right_comm, mul-le-mul_right, mul-pos, le_of_mul-le-mul_right, lt_of_mul-lt-mul_right, le-div_iff_mul-le, zero-lt-suc, two-mul}
use native.Mathlib.Omega.{arith}
use mathlib.Core.Bool.{not, Bool, true, false, ◌&&◌, cond, true≢false}
use lib.Dec.{T, leb, ltb, eqb, ltb→lt, lit<}
use lib.Arith.{lt_of_le-ne}
use lib.Pow.{pow-add, pow_pos}
use lib.Ieee.{is_nan, Float, nan, inf, fin, Format, binary64, low, up, down, round, le, fits}
use lib.Ieee.Fits.{eq→eqb, and_r, down_pos, round-fits, nan-fits}
use lib.Ieee.Exact.{HasValue}
use lib.Ieee.Order.{round_mono}
use lib.Ieee.Scale.{finite}
use Rattle.ieee.specs.Bounds.{AtMost, AtLeast, Upto, NotNegative, HoldsFraction}
use Rattle.ieee.proofs.Bound.{or_le, round_not_negative, round_at_most, fraction_value, holds_fraction, at_most_finite}
use Rattle.root.specs.Sqrt.{isqrt, root_of, sqrt_of}
use Rattle.root.proofs.Isqrt.{sq_mono, sq_lt, sq_mul, not_above, isqrt_at}

-- ---- the sign, and the format
pub sqrt_not_negative : (f : Format) (x : Float) → NotNegative x → NotNegative (sqrt_of f x)
unfolding sqrt_of root_of
sqrt_not_negative f nan h = h
sqrt_not_negative f (inf true) h = absurd (true≢false h)
sqrt_not_negative f (inf false) h = h
sqrt_not_negative f (fin s zero e) h = h
sqrt_not_negative f (fin true (suc m) e) h = absurd (true≢false h)
sqrt_not_negative f (fin false (suc m) e) h = round_not_negative f _ _

pub sqrt_no_nan : (f : Format) (x : Float) → NotNegative x → T (not (is_nan (sqrt_of f x)))
unfolding is_nan
sqrt_no_nan f x h = no_nan (sqrt_of f x) (sqrt_not_negative f x h)
  where
    no_nan : (y : Float) → NotNegative y → T (not (is_nan y))
    no_nan nan n = n
    no_nan (inf s) n = tt
    no_nan (fin s m e) n = tt

pub sqrt_fits : (f : Format) (x : Float) → T (fits f x) → T (fits f (sqrt_of f x))
unfolding sqrt_of root_of
sqrt_fits f nan h = h
sqrt_fits f (inf true) h = nan-fits f
sqrt_fits f (inf false) h = h
sqrt_fits f (fin s zero e) h = h
sqrt_fits f (fin true (suc m) e) h = nan-fits f
sqrt_fits f (fin false (suc m) e) h = round-fits f false _ _

-- ---- twice the root of n / d, cut, and 1 more where the cut loses something, against twice B
sq_le_back : (a b : ℕ) → a * a ≤ b * b → a ≤ b
sq_le_back a b h = le_of_suc-le-suc (lt_of_not-le (λ (g : suc b ≤ a). not-le_of_lt (sq_lt b a g) h))

sq_lt_back : (a b : ℕ) → a * a < b * b → a < b
sq_lt_back a b h = lt_of_not-le (λ (g : b ≤ a). not-le_of_lt h (sq_mono b a g))

module _ (n d B : ℕ) (D : 0 < d) where
  abbrev s : ℕ
  s = isqrt (n / d)

  abbrev cut : ℕ
  cut = 2 * s + cond (eqb (s * s * d) n) 0 1

  below : s * s * d ≤ n
  below = (le-div_iff_mul-le D).0 (isqrt_at (n / d)).0

  cut_at_most : n ≤ B * B * d → cut ≤ 2 * B
  cut_at_most h = go (eqb (s * s * d) n) (λ (e : s * s * d ≡ n). eq→eqb e)
    where
      go : (b : Bool) → (s * s * d ≡ n → T b) → 2 * s + cond b 0 1 ≤ 2 * B
      go true q = let l = sq_le_back s B (le_of_mul-le-mul_right (le_trans below h) D) in omega arith
      go false q = let l = sq_lt_back s B (lt_of_mul-lt-mul_right d (lt_of_lt_of_le (lt_of_le-ne below q) h)) in omega arith

  cut_at_least : B * B * d ≤ n → 2 * B ≤ cut
  cut_at_least h = let l = not_above (n / d) B s ((le-div_iff_mul-le D).1 h) (isqrt_at (n / d)).1 in omega arith

-- ---- the root of num / den against a / c, which is B of the format's smallest values
module _ (num den a c B L : ℕ) (C : 0 < c) (e : a * L ≡ B * c) where
  -- both sides, in those units
  left : num * (L * L) * (c * c) ≡ num * (c * c) * (L * L)
  left = mul_right_comm num (L * L) (c * c)

  right : B * B * den * (c * c) ≡ a * a * den * (L * L)
  right = mul_right_comm (B * B) den (c * c) ∙ ap (λ (z : ℕ). z * den) (sym (sq_mul B c) ∙ ap (λ (z : ℕ). z * z) (sym e) ∙ sq_mul a L) ∙ mul_right_comm (a * a) (L * L) den

  units_at_most : num * (c * c) ≤ a * a * den → num * (L * L) ≤ B * B * den
  units_at_most h = le_of_mul-le-mul_right (le_trans (le_of_eq left) (le_trans (mul-le-mul_right (L * L) h) (le_of_eq (sym right)))) (mul-pos C C)

  units_at_least : a * a * den ≤ num * (c * c) → B * B * den ≤ num * (L * L)
  units_at_least h = le_of_mul-le-mul_right (le_trans (le_of_eq right) (le_trans (mul-le-mul_right (L * L) h) (le_of_eq (sym left)))) (mul-pos C C)

  -- twice B, over twice L, is a / c
  twice : 2 * B * c ≡ a * (2 * L)
  twice = mul_assoc 2 B c ∙ ap (λ (z : ℕ). 2 * z) (sym e) ∙ mul_left_comm 2 a L

pub root_at_most : (f : Format) (num den a c : ℕ) → 0 < den → 0 < c → HoldsFraction f a c → num * (c * c) ≤ a * a * den → AtMost (root_of f num den) a c
unfolding root_of
root_at_most f num den a c D C v h =
    let L = 2 ^ low f in
    let B = v.q * 2 ^ v.j in
    round_at_most f false (cut (num * (L * L)) den B D) (2 * L) a c v.q v.j (mul-pos (zero-lt-suc 1) (pow_pos (low f))) C v.small v.under v.is
    (le_trans (mul-le-mul_right c (cut_at_most (num * (L * L)) den B D (units_at_most num den a c B L C v.is h))) (le_of_eq (twice num den a c B L C v.is)))

-- at least a finite value that is not negative
over : (x y : Float) (a c : ℕ) → HasValue y false a c → NotNegative x → T (finite x) → T (le y x) → AtLeast x a c
unfolding le
over x nan a c v p t h = absurd v
over x (inf s) a c v p t h = absurd v
over nan (fin s n d) a c v p t h = p
over (inf s) (fin t n d) a c v p u h = absurd u
over (fin true m e) (fin t n d) a c v p u h = absurd (true≢false p)
over (fin false m e) (fin true n d) a c v p u h = absurd (true≢false v.0)
over (fin false m e) (fin false n d) a c v p u h =
    -- a / c = n up d / down d ≤ m up e / down e
    le_of_mul-le-mul_right
    (le_trans (le_of_eq (mul_right_comm a (down e) (down d) ∙ ap (λ (z : ℕ). z * down e) (sym v.1) ∙ mul_right_comm (n * up d) c (down e)))
    (le_trans (mul-le-mul_right c (or_le (n * up d * down e) (m * up e * down d) h)) (le_of_eq (mul_right_comm (m * up e) (down d) c))))
    (down_pos d)

pub root_at_least : (f : Format) (num den a c : ℕ) → 0 < den → 0 < c → HoldsFraction f a c → a * a * den ≤ num * (c * c) → T (finite (root_of f num den)) → AtLeast (root_of f num den) a c
unfolding root_of
root_at_least f num den a c D C v h t =
    let L = 2 ^ low f in
    let B = v.q * 2 ^ v.j in
    let r = cut (num * (L * L)) den B D in
    over (round f false r (2 * L)) (round f false a c) a c (fraction_value f a c C v) (round_not_negative f r (2 * L)) t
    (round_mono f a c r (2 * L) C (mul-pos (zero-lt-suc 1) (pow_pos (low f)))
    (le_trans (le_of_eq (sym (twice num den a c B L C v.is))) (mul-le-mul_right c (cut_at_least (num * (L * L)) den B D (units_at_least num den a c B L C v.is h)))))

-- ---- the laws for a float: where x is at most the square of a value of the format, its root is at most that value, and so for at least
pub sqrt_at_most : (f : Format) (x : Float) (a c : ℕ) → 0 < c → HoldsFraction f a c → NotNegative x → AtMost x (a * a) (c * c) → AtMost (sqrt_of f x) a c
unfolding sqrt_of
sqrt_at_most f nan a c C v n h = n
sqrt_at_most f (inf s) a c C v n h = absurd h
sqrt_at_most f (fin s zero e) a c C v n h = le_trans (le_of_eq (ap (λ (z : ℕ). z * c) (zero-mul (up e)) ∙ zero-mul c)) zero-le
sqrt_at_most f (fin true (suc m) e) a c C v n h = absurd (true≢false n)
sqrt_at_most f (fin false (suc m) e) a c C v n h = root_at_most f (suc m * up e) (down e) a c (down_pos e) C v h

-- 2 ^ j is a value of the format
power : (j : ℕ) → j ≤ 971 → HoldsFraction binary64 (2 ^ j) 1
power j h = holds_fraction binary64 (2 ^ j) (record { q = 1; j = j; small = lit< tt; reach = omega arith; is = sym (one-mul (2 ^ j)) })

squared : (j : ℕ) → 2 ^ (2 * j) ≡ 2 ^ j * 2 ^ j
squared j = ap (λ (z : ℕ). 2 ^ z) (two-mul j) ∙ pow-add 2 j j

-- at most 2 ^ (2 * j), so at most 2 ^ j
pub sqrt_upto : (x : Float) (j : ℕ) → j ≤ 512 → NotNegative x → Upto x (2 ^ (2 * j)) → Upto (sqrt_of binary64 x) (2 ^ j)
sqrt_upto x j l n h = sqrt_at_most binary64 x (2 ^ j) 1 (zero-lt-suc 0) (power j (omega arith)) n (subst (λ (z : ℕ). AtMost x z 1) (squared j) h)

fits_upto : (x : Float) → T (fits binary64 x) → T (finite x) → Upto x (2 ^ 1024)
unfolding fits
fits_upto nan f t = absurd t
fits_upto (inf s) f t = absurd t
fits_upto (fin s zero e) f t = le_trans (le_of_eq (ap (λ (z : ℕ). z * 1) (zero-mul (up e)))) zero-le
fits_upto (fin s (suc m) e) f t =
    le_trans (le_of_eq (mul-one (suc m * up e)))
    (le_of_lt (ltb→lt (suc m * up e) (2 ^ 1024 * down e) (and_r (eqb (suc m % 2) 1 && ltb (suc m) (2 ^ 53) && leb (down e) (2 ^ 1074)) (ltb (suc m * up e) (2 ^ 1024 * down e)) f)))

-- every finite root is finite
pub sqrt_finite : (x : Float) → T (fits binary64 x) → T (finite x) → NotNegative x → Upto (sqrt_of binary64 x) (2 ^ 512)
sqrt_finite x f t n = sqrt_upto x 512 (omega arith) n (fits_upto x f t)

pub sqrt_at_least : (x : Float) (a c : ℕ) → 0 < c → HoldsFraction binary64 a c → T (fits binary64 x) → NotNegative x → AtLeast x (a * a) (c * c) → AtLeast (sqrt_of binary64 x) a c
unfolding sqrt_of
sqrt_at_least nan a c C v f n h = n
sqrt_at_least (inf s) a c C v f n h = absurd h
sqrt_at_least (fin s zero e) a c C v f n h = elim (eq-zero-or-pos a) [
  | inl z ↦ le_trans (le_of_eq (ap (λ (y : ℕ). y * down e) z ∙ zero-mul (down e))) zero-le
  | inr A ↦
      let p = mul-pos (mul-pos A A) (down_pos e) in
      let z : zero * up e * (c * c) ≡ 0 = ap (λ (y : ℕ). y * (c * c)) (zero-mul (up e)) ∙ zero-mul (c * c) in
      absurd (omega arith)
]
sqrt_at_least (fin true (suc m) e) a c C v f n h = absurd (true≢false n)
sqrt_at_least (fin false (suc m) e) a c C v f n h =
    root_at_least binary64 (suc m * up e) (down e) a c (down_pos e) C v h (at_most_finite (root_of binary64 (suc m * up e) (down e)) (2 ^ 512) 1 (sqrt_finite (fin false (suc m) e) f tt n))

-- at least 4 ^ i, so at least 2 ^ i
pub sqrt_at_least_power : (x : Float) (i : ℕ) → i ≤ 500 → T (fits binary64 x) → NotNegative x → AtLeast x (2 ^ (2 * i)) 1 → AtLeast (sqrt_of binary64 x) (2 ^ i) 1
sqrt_at_least_power x i l f n h = sqrt_at_least x (2 ^ i) 1 (zero-lt-suc 0) (power i (omega arith)) f n (subst (λ (z : ℕ). AtLeast x z 1) (squared i) h)
