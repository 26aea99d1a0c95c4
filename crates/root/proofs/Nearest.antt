-- The rounded root is the nearest binary64 value to the root,
-- in whole numbers, and there is never a tie. Assumes nothing.
use mathlib.Core.Path.{◌≡◌, refl, sym, ap, ◌∙◌, subst}
use Prim.Native.Nat.{ℕ, zero, suc, ◌+◌, ◌-◌, ◌*◌, ◌/◌, ◌%◌, ◌^◌, ◌≤◌, ◌<◌}
use native.Mathlib.Nat.{le_refl, le_trans, le_of_eq, le_of_suc-le-suc, lt_of_le_of_lt, lt_of_lt_of_le, lt_of_not-le, not-le_of_lt, add-sub_of_le, add-le-add, mul-one, mul_comm, mul_assoc, mul_left_comm, mul_right_comm, mul-le-mul_right, mul-lt-mul_of_pos_right, lt_of_mul-lt-mul_right, mul-pos, suc-mul, pow-suc, zero-lt-suc}
use native.Mathlib.Omega.{arith}
use mathlib.Core.Bool.{true, false, ◌&&◌}
use lib.Dec.{T, leb, ltb, eqb, ltb→lt, leb→le}
use lib.IntN.{ℤ, pos, negsuc}
use lib.Arith.{lt_of_le-ne}
use lib.Pow.{pow-add, pow_pos, pow_mono, pow-lt, shl_lt}
use lib.Ieee.{Float, nan, inf, fin, Format, binary64, prec, low, up, down, size, fits, to_bits}
use lib.Ieee.Bits.{of_bits-to_bits}
use lib.Ieee.Digits.{size-lt, size-le, size_reaches}
use lib.Ieee.Fits.{and_l, and_r}
use lib.Ieee.Exact.{HasValue}
use lib.Ieee.Positive.{num, den, positive}
use Rattle.root.specs.Sqrt.{isqrt, root_of, sqrt_of}
use Rattle.narrow.specs.Format.{units_of}
use Rattle.root.specs.Nearest.{square, in_units, NearestRoot}
use Rattle.root.proofs.Isqrt.{Between, sq_mul, sq_mono, sq_lt, isqrt_at}
use Rattle.root.proofs.Rounded.{odd_square, Scaled, radicand, halved, root_low, root_high, in_units_lem, root_is, positive_root}
use Rattle.narrow.proofs.ToNearest.{rising, rises, units_at, units_up}
use Rattle.narrow.proofs.Unpacked.{of_bits_value}
use Rattle.root.proofs.Bounds.{sqrt_fits}

-- ---- the squares of sums of two neighbours, against 4 * N * G * G / den
module _ (N G d : ℕ) (D : 0 < d) (P : 0 < G) where
  -- twice b * G, squared
  four : (b : ℕ) → 2 * (b * G) * (2 * (b * G)) ≡ 4 * (b * b * (G * G))
  four b = sq_mul 2 (b * G) ∙ ap (λ (z : ℕ). 4 * z) (sq_mul b G)

  -- over den
  over : (b : ℕ) → 4 * (b * (G * G)) * d ≡ 4 * (b * (G * G) * d)
  over b = mul_assoc 4 (b * (G * G)) d

  up_to : (a r : ℕ) → a ≤ 2 * (r * G) → r * r < N → a * a * d < 4 * (N * (G * G) * d)
  up_to a r h k =
      let s = le_trans (sq_mono a (2 * (r * G)) h) (le_of_eq (four r)) in
      let t = mul-lt-mul_of_pos_right k (mul-pos P P) in
      lt_of_lt_of_le (mul-lt-mul_of_pos_right {m = a * a} {n = 4 * (N * (G * G))} (omega arith) D) (le_of_eq (over N))

  under : (a r : ℕ) → a < 2 * (r * G) → r * r ≤ N → a * a * d < 4 * (N * (G * G) * d)
  under a r h k =
      let s = lt_of_lt_of_le (sq_lt a (2 * (r * G)) h) (le_of_eq (four r)) in
      let t = mul-le-mul_right (G * G) k in
      lt_of_lt_of_le (mul-lt-mul_of_pos_right {m = a * a} {n = 4 * (N * (G * G))} (omega arith) D) (le_of_eq (over N))

  from : (a r : ℕ) → 2 * (r * G) ≤ a → N < r * r → 4 * (N * (G * G) * d) < a * a * d
  from a r h k =
      let s = le_trans (le_of_eq (sym (four r))) (sq_mono (2 * (r * G)) a h) in
      let t = mul-lt-mul_of_pos_right k (mul-pos P P) in
      lt_of_le_of_lt (le_of_eq (sym (over N))) (mul-lt-mul_of_pos_right {m = 4 * (N * (G * G))} {n = a * a} (omega arith) D)

-- ---- q is half of r, rounded up: its pattern, with the places moved up by g + 1, and the neighbours
module _ (N g d r q half : ℕ) (D : 0 < d) (b : Between N r) (e2 : N ≡ 2 * half) (low : 2 ^ 53 ≤ r) (high : r < 2 ^ 54) (e : q ≡ r / 2 + r % 2) where
  abbrev G : ℕ
  G = 2 ^ g

  abbrev pat : ℕ
  pat = suc g * 2 ^ 52 + q

  doubled : (x : ℕ) → x * 2 ^ suc g ≡ 2 * x * G
  doubled x = ap (λ (z : ℕ). x * z) (pow-suc 2 g ∙ mul_comm G 2) ∙ mul_left_comm x 2 G ∙ sym (mul_assoc 2 x G)

  -- the value of a pattern near this one
  near : (x : ℕ) → 2 ^ 52 ≤ x → x ≤ 2 ^ 53 → units_of 53 (suc g * 2 ^ 52 + x) ≡ 2 * x * G
  near x l u = units_at 53 (suc g) x u (λ (K : 0 < suc g). l) ∙ doubled x

  here : units_of 53 pat ≡ 2 * q * G
  here = near q (omega arith) (omega arith)

  lower : (k : ℕ) → r % 2 ≡ k → square (units_of 53 (pat - 1) + units_of 53 pat) * d < 4 * (N * (G * G) * d)
  lower zero z =
      let u : units_of 53 pat ≡ r * G = here ∙ ap (λ (x : ℕ). x * G) (omega arith) in
      let l : units_of 53 (pat - 1) < units_of 53 pat = rising (units_of 53) (units_up 53) (pat - 1) pat (omega arith) in
      under N G d D (pow_pos g) (units_of 53 (pat - 1) + units_of 53 pat) r (omega arith) b.0
  lower (suc zero) z =
      let u : units_of 53 pat ≡ suc r * G = here ∙ ap (λ (x : ℕ). x * G) (omega arith) in
      let w : units_of 53 (pat - 1) ≡ (r - 1) * G = ap (units_of 53) (before (suc g * 2 ^ 52) q (omega arith)) ∙ near (q - 1) (omega arith) (omega arith) ∙ ap (λ (x : ℕ). x * G) (omega arith) in
      let s = suc-mul r G in
      let t : (r - 1) * G + G ≡ r * G = sym (suc-mul (r - 1) G) ∙ ap (λ (x : ℕ). x * G) (omega arith) in
      let o : r ≡ 2 * (r / 2) + 1 = omega arith in
      let n : r * r ≡ N → ⊥ = λ (f : r * r ≡ N). odd_square (r / 2) half (ap (λ (x : ℕ). x * x) (sym o) ∙ f ∙ e2) in
      up_to N G d D (pow_pos g) (units_of 53 (pat - 1) + units_of 53 pat) r (omega arith) (lt_of_le-ne b.0 n)
    where
      before : (a q : ℕ) → 0 < q → a + q - 1 ≡ a + (q - 1)
      before a q h = omega arith
  lower (suc (suc k)) z = absurd (omega arith)

  upper : (k : ℕ) → r % 2 ≡ k → 4 * (N * (G * G) * d) < square (units_of 53 pat + units_of 53 (pat + 1)) * d
  upper zero z =
      let u : units_of 53 pat ≡ r * G = here ∙ ap (λ (x : ℕ). x * G) (omega arith) in
      let w : units_of 53 (pat + 1) ≡ suc (suc r) * G = ap (units_of 53) (after (suc g * 2 ^ 52) q) ∙ near (suc q) (omega arith) (omega arith) ∙ ap (λ (x : ℕ). x * G) (omega arith) in
      let s = suc-mul r G in
      let t = suc-mul (suc r) G in
      from N G d D (pow_pos g) (units_of 53 pat + units_of 53 (pat + 1)) (suc r) (omega arith) b.1
    where
      after : (a q : ℕ) → a + q + 1 ≡ a + suc q
      after a q = omega arith
  upper (suc zero) z =
      let u : units_of 53 pat ≡ suc r * G = here ∙ ap (λ (x : ℕ). x * G) (omega arith) in
      let l : units_of 53 pat < units_of 53 (pat + 1) = rising (units_of 53) (units_up 53) pat (pat + 1) (omega arith) in
      from N G d D (pow_pos g) (units_of 53 pat + units_of 53 (pat + 1)) (suc r) (omega arith) b.1
  upper (suc (suc k)) z = absurd (omega arith)

-- ---- from a fraction's 53 digits
by_digits : (n d sig h : ℕ) → Scaled n d sig h → NearestRoot binary64 n d (to_bits binary64 (root_of binary64 n d))
by_digits n d sig h s =
    let N = radicand sig h in
    let r = isqrt N in
    let q = r / 2 + r % 2 in
    let half = sig * (1 + h % 2) * 2 ^ 53 in
    let x : in_units binary64 n ≡ N * (2 ^ halved h * 2 ^ halved h) * d = in_units_lem n d sig h s in
    let p : to_bits binary64 (root_of binary64 n d) ≡ suc (halved h) * 2 ^ 52 + q = root_is n d sig h s ∙ ap (λ (z : ℕ). z * 2 ^ 52 + q) (count h) in
    let small = root_high sig h s.high in
    let reach = s.reach in
    subst (NearestRoot binary64 n d) (sym p) (record {
      finite = omega arith;
      above_lower = subst (λ (z : ℕ). square (units_of 53 (suc (halved h) * 2 ^ 52 + q - 1) + units_of 53 (suc (halved h) * 2 ^ 52 + q)) * d < 4 * z) (sym x)
          (lower N (halved h) d r q half s.some (isqrt_at N) (omega arith) (root_low sig h s.low) (root_high sig h s.high) refl (r % 2) refl);
      below_upper = subst (λ (z : ℕ). 4 * z < square (units_of 53 (suc (halved h) * 2 ^ 52 + q) + units_of 53 (suc (halved h) * 2 ^ 52 + q + 1)) * d) (sym x)
          (upper N (halved h) d r q half s.some (isqrt_at N) (omega arith) (root_low sig h s.low) (root_high sig h s.high) refl (r % 2) refl);
    })
  where
    count : (h : ℕ) → h / 2 + 485 ≡ suc (halved h)
    count h = omega arith

-- ---- the 53 digits of a float that is finite and above zero
pow_le : (a b : ℕ) → 2 ^ a ≤ 2 ^ b → a ≤ b
pow_le a b h = le_of_suc-le-suc (lt_of_not-le (λ (g : suc b ≤ a). not-le_of_lt (pow-lt g) h))

join : (m a b c d : ℕ) → a + b ≡ c + d → m * 2 ^ a * 2 ^ b ≡ m * 2 ^ c * 2 ^ d
join m a b c d e = together a b ∙ ap (λ (x : ℕ). m * 2 ^ x) e ∙ sym (together c d)
  where
    together : (a b : ℕ) → m * 2 ^ a * 2 ^ b ≡ m * 2 ^ (a + b)
    together a b = mul_assoc m (2 ^ a) (2 ^ b) ∙ ap (λ (x : ℕ). m * x) (sym (pow-add 2 a b))

-- m with its leading digit moved up to the place of 2 ^ 52
abbrev digits : ℕ → ℕ
digits m = m * 2 ^ (53 - size m)

module _ (m : ℕ) (some : 0 < m) (few : m < 2 ^ 53) where
  z_le : size m ≤ 53
  z_le = size-le m 53 few

  z_pos : 0 < size m
  z_pos = lt_of_not-le (λ (g : size m ≤ 0). let l = lt_of_lt_of_le (size-lt m) (pow_mono {i = size m} {j = 0} g) in omega arith)

  digits_low : 2 ^ 52 ≤ digits m
  digits_low =
      let z = size m in
      let b = z_pos in
      le_trans (le_of_eq (ap (λ (x : ℕ). 2 ^ x) (whole z z_le b) ∙ pow-add 2 (z - 1) (53 - z))) (mul-le-mul_right (2 ^ (53 - z)) (size_reaches m (z - 1) (omega arith)))
    where
      whole : (z : ℕ) → z ≤ 53 → 0 < z → 52 ≡ z - 1 + (53 - z)
      whole z a b = omega arith

  digits_high : digits m < 2 ^ 53
  digits_high = subst (λ (x : ℕ). digits m < 2 ^ x) (add-sub_of_le z_le) (shl_lt (size m) (53 - size m) (size-lt m))

-- a fraction below 2 ^ 1024 reaches no further than this
reaches : (n d sig h : ℕ) → n < 2 ^ 1024 * d → 2 ^ 52 ≤ sig → n * 2 ^ 1126 ≡ sig * 2 ^ h * d → h < 2098
reaches n d sig h l s e =
    let a : sig * 2 ^ h * d < 2 ^ 2150 * d = subst (λ (x : ℕ). x < 2 ^ 2150 * d) e (lt_of_lt_of_le (mul-lt-mul_of_pos_right l (pow_pos 1126)) (le_of_eq (mul_right_comm (2 ^ 1024) d (2 ^ 1126)))) in
    let b : 2 ^ (52 + h) < 2 ^ 2150 = lt_of_le_of_lt (le_trans (le_of_eq (pow-add 2 52 h)) (mul-le-mul_right (2 ^ h) s)) (lt_of_mul-lt-mul_right d a) in
    let c : 52 + h < 2150 = lt_of_not-le (λ (g : 2150 ≤ 52 + h). not-le_of_lt b (pow_mono g)) in
    omega arith

scaled_pos : (m k : ℕ) → 0 < m → m < 2 ^ 53 → m * 2 ^ k < 2 ^ 1024 * 1 → Scaled (m * 2 ^ k) 1 (digits m) (k + 1073 + size m)
scaled_pos m k M few l =
    let e : m * 2 ^ k * 2 ^ 1126 ≡ digits m * 2 ^ (k + 1073 + size m) * 1 = join m k 1126 (53 - size m) (k + 1073 + size m) (let a = z_le m M few in omega arith) ∙ sym (mul-one _) in
    record { some = zero-lt-suc 0; low = digits_low m M few; high = digits_high m M few; reach = reaches (m * 2 ^ k) 1 (digits m) (k + 1073 + size m) l (digits_low m M few) e; same = e }

scaled_neg : (m k : ℕ) → 0 < m → m < 2 ^ 53 → 2 ^ suc k ≤ 2 ^ 1074 → m * 1 < 2 ^ 1024 * 2 ^ suc k → Scaled (m * 1) (2 ^ suc k) (digits m) (1073 + size m - suc k)
scaled_neg m k M few g l =
    let a = z_le m M few in
    let b = z_pos m M few in
    let c = pow_le (suc k) 1074 g in
    let h = 1073 + size m - suc k in
    let e : m * 1 * 2 ^ 1126 ≡ digits m * 2 ^ h * 2 ^ suc k =
    join m 0 1126 (53 - size m) (h + suc k) (omega arith) ∙ ap (λ (x : ℕ). digits m * x) (pow-add 2 h (suc k)) ∙ sym (mul_assoc (digits m) (2 ^ h) (2 ^ suc k)) in
    record { some = pow_pos (suc k); low = digits_low m M few; high = digits_high m M few; reach = reaches (m * 1) (2 ^ suc k) (digits m) h l (digits_low m M few) e; same = e }

scaled : (x : Float) → T (positive x) → T (fits binary64 x) → (sig : ℕ) × (h : ℕ) × Scaled (num x) (den x) sig h
unfolding fits
scaled nan p f = absurd p
scaled (inf s) p f = absurd p
scaled (fin true m e) p f = absurd p
scaled (fin false zero e) p f = absurd p
scaled (fin false (suc m) e) p f = go e f
  where
    go : (e : ℤ) → T (eqb (suc m % 2) 1 && ltb (suc m) (2 ^ 53) && leb (down e) (2 ^ 1074) && ltb (suc m * up e) (2 ^ 1024 * down e)) → (sig : ℕ) × (h : ℕ) × Scaled (suc m * up e) (down e) sig h
    go (pos k) t =
        let A = eqb (suc m % 2) 1 in let B = ltb (suc m) (2 ^ 53) in let C = leb 1 (2 ^ 1074) in let D = ltb (suc m * 2 ^ k) (2 ^ 1024 * 1) in
        (digits (suc m), k + 1073 + size (suc m), scaled_pos (suc m) k (zero-lt-suc m) (ltb→lt (suc m) (2 ^ 53) (and_r A B (and_l (A && B) C (and_l (A && B && C) D t)))) (ltb→lt (suc m * 2 ^ k) (2 ^ 1024 * 1) (and_r (A && B && C) D t)))
    go (negsuc k) t =
        let A = eqb (suc m % 2) 1 in let B = ltb (suc m) (2 ^ 53) in let C = leb (2 ^ suc k) (2 ^ 1074) in let D = ltb (suc m * 1) (2 ^ 1024 * 2 ^ suc k) in
        (digits (suc m), 1073 + size (suc m) - suc k, scaled_neg (suc m) k (zero-lt-suc m) (ltb→lt (suc m) (2 ^ 53) (and_r A B (and_l (A && B) C (and_l (A && B && C) D t)))) (leb→le (2 ^ suc k) (2 ^ 1074) (and_r (A && B) C (and_l (A && B && C) D t))) (ltb→lt (suc m * 1) (2 ^ 1024 * 2 ^ suc k) (and_r (A && B && C) D t)))

-- ---- THE LAW
pub nearest_root : (x : Float) → T (positive x) → T (fits binary64 x) → NearestRoot binary64 (num x) (den x) (to_bits binary64 (sqrt_of binary64 x))
nearest_root x p f =
    let s = scaled x p f in
    subst (λ (y : Float). NearestRoot binary64 (num x) (den x) (to_bits binary64 y)) (sym (positive_root binary64 x p)) (by_digits (num x) (den x) s.0 s.1 s.2)

-- the value of that pattern is the root's own
pub root_value : (x : Float) → T (positive x) → T (fits binary64 x) → HasValue (sqrt_of binary64 x) false (units_of 53 (to_bits binary64 (sqrt_of binary64 x))) (2 ^ low binary64)
root_value x p f =
    let y = sqrt_of binary64 x in
    subst (λ (v : Float). HasValue v false (units_of 53 (to_bits binary64 y)) (2 ^ low binary64)) (of_bits-to_bits binary64 y (sqrt_fits binary64 x f)) (of_bits_value binary64 (to_bits binary64 y) (nearest_root x p f).finite)

-- So the root is strictly nearer to it than to the value of any other
-- pattern m: it lies on this side of the point half way to that.
module _ (f : Format) (n d r : ℕ) (h : NearestRoot f n d r) where
  pub nearer_than_higher : (m : ℕ) → r < m → 4 * in_units f n < square (units_of (prec f) r + units_of (prec f) m) * d
  nearer_than_higher m l = lt_of_lt_of_le h.below_upper (mul-le-mul_right d (sq_mono _ _ (add-le-add (le_refl (units_of (prec f) r)) (rises (units_of (prec f)) (units_up (prec f)) (r + 1) m (omega arith)))))

  pub nearer_than_lower : (m : ℕ) → m < r → square (units_of (prec f) m + units_of (prec f) r) * d < 4 * in_units f n
  nearer_than_lower m l = lt_of_le_of_lt (mul-le-mul_right d (sq_mono _ _ (add-le-add (rises (units_of (prec f)) (units_up (prec f)) m (r - 1) (omega arith)) (le_refl (units_of (prec f) r))))) h.above_lower
