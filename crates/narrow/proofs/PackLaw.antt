-- `mag_of` at the kit's two formats is what `to_bits` makes of the rounded value, so `packed` and `narrow_to` agree. A
-- rounded value fits, and is no NaN. Assumes nothing.
use Rattle.std.proofs.Common.{◌≡◌, ℕ, zero, suc, ◌+◌, ◌-◌, ◌*◌, ◌/◌, ◌%◌, ◌^◌, ◌<◌, ◌≤◌, min, Bool, true, false, cond, not, T, ltb, sym, refl, ap, ◌∙◌, subst, inl, inr, zero-le, le_trans, le_of_eq, le_refl, le_of_lt, add_assoc, mul-le-mul_right, suc-mul, mul_comm, eq-or-lt_of_le, mul-one, mul-div_cancel, sub-eq-zero_of_le, arith, ltb→lt, nltb→le, pow_pos, pow-add, shl_lt}
use Prim.Native.Nat.{compare}
use native.Mathlib.Nat.{min-eq_left, min-eq_right}
use lib.Pow.{pow-lt}
use lib.Ieee.{Float, nan, inf, fin, Format, prec, emax, low, hid, ones, top, up, down, size, odd, units, round, to_bits, is_nan, fits}
use lib.Ieee.Digits.{size-le}
use lib.Ieee.Fits.{round-fits, nan-fits, inf-fits, round_is, two, two-le_pos, nearest-le, down_pos}
use lib.Ieee.Exact.{HasValue, odd_sign}
use lib.Ieee.Nearest.{nearest-ge}
use lib.Ieee.Order.{drop, kept}
use Rattle.narrow.specs.Format.{top_of, units_of}
use Rattle.narrow.specs.Pack.{mag_of, packed, narrow_to}
use Rattle.narrow.proofs.Digits.{size_is, half, whole_lt, whole_ge}
use Rattle.narrow.proofs.ToNearest.{units_at, units_le, units_inf}

kept_le : (p n den : ℕ) → kept p n den ≤ 2 ^ p
kept_le p n den = let u = den * 2 ^ drop p n den in le_trans (nearest-le (n / u) (compare (n % u * 2) u)) (whole_lt p n den)

kept_ge : (p n den : ℕ) → 0 < p → 0 < drop p n den → 2 ^ (p - 1) ≤ kept p n den
kept_ge p n den P K = let u = den * 2 ^ drop p n den in le_trans (whole_ge p n den P K) (nearest-ge (n / u) (compare (n % u * 2) u))

-- ---- the pattern of n units: what `to_bits` writes. Of q * 2 ^ k it is k and q added, for a q of p digits, or 2 ^ p, or fewer digits with k at 0
abbrev pub written : ℕ → ℕ → ℕ
written p n = (size n - p) * 2 ^ (p - 1) + n / 2 ^ (size n - p)

written_at : (p n k q : ℕ) → size n - p ≡ k → n ≡ q * 2 ^ k → written p n ≡ k * 2 ^ (p - 1) + q
written_at p n k q e h = rw (e, h) (ap (λ (x : ℕ). k * 2 ^ (p - 1) + x) (mul-div_cancel q (pow_pos k)))

-- 2 ^ (p - 1) ≤ q < 2 ^ p
full : (p q k : ℕ) → 0 < p → 2 ^ (p - 1) ≤ q → q < 2 ^ p → size (q * 2 ^ k) ≡ p + k
full p q k P a b =
    let e : suc (p - 1) ≡ p = omega arith in
    let e2 : suc (p - 1 + k) ≡ p + k = omega arith in
    size_is (q * 2 ^ k) (p - 1 + k) (le_trans (le_of_eq (pow-add 2 (p - 1) k)) (mul-le-mul_right (2 ^ k) a))
    (subst (λ (x : ℕ). q * 2 ^ k < 2 ^ x) (sym e2) (shl_lt p k b))
    ∙ e2

pub written_is : (p q k : ℕ) → 0 < p → q ≤ 2 ^ p → (0 < k → 2 ^ (p - 1) ≤ q) → written p (q * 2 ^ k) ≡ k * 2 ^ (p - 1) + q
written_is p q k P a b = elim (eq-or-lt_of_le a) [
  | inl e ↦
      let h = 2 ^ (p - 1) in
      let n : q * 2 ^ k ≡ h * 2 ^ suc k = rw e (sym (pow-add 2 p k) ∙ ap (λ (x : ℕ). 2 ^ x) (shift p k P) ∙ pow-add 2 (p - 1) (suc k)) in
      let z : size (q * 2 ^ k) - p ≡ suc k = ap (λ (x : ℕ). size x - p) n ∙ ap (λ (x : ℕ). x - p) (full p h (suc k) P (le_refl h) (pow-lt (below p P))) ∙ cut p (suc k) in
      written_at p (q * 2 ^ k) (suc k) h z n ∙ ends h q k (e ∙ half p P)
  | inr l ↦ elim (eq-or-lt_of_le (zero-le {n = k})) [
    | inl z ↦ written_at p (q * 2 ^ k) k q (ap (λ (x : ℕ). size (q * 2 ^ x) - p) (sym z) ∙ sub-eq-zero_of_le (size-le (q * 1) p (subst (λ (x : ℕ). x < 2 ^ p) (sym (mul-one q)) l)) ∙ z) refl
    | inr K ↦ written_at p (q * 2 ^ k) k q (ap (λ (x : ℕ). x - p) (full p q k P (b K) l) ∙ cut p k) refl
  ]
]
  where
    shift : (p k : ℕ) → 0 < p → p + k ≡ p - 1 + suc k
    shift p k P = omega arith

    below : (p : ℕ) → 0 < p → p - 1 < p
    below p P = omega arith

    cut : (p k : ℕ) → p + k - p ≡ k
    cut p k = omega arith

    ends : (h q k : ℕ) → q ≡ h + h → suc k * h + h ≡ k * h + q
    ends h q k e = omega (arith, suc-mul k h)

-- ---- `to_bits` of a finite float that equals w / 2 ^ low
pub to_bits_at : (f : Format) (x : Float) (s : Bool) (w : ℕ) → HasValue x s w (2 ^ low f) → to_bits f x ≡ cond s (top f) 0 + written (prec f) w
unfolding to_bits
to_bits_at f nan s w h = absurd h
to_bits_at f (inf t) s w h = absurd h
to_bits_at f (fin t m e) s w h =
    let n : m * up e * 2 ^ low f / down e ≡ w = ap (λ (x : ℕ). x / down e) h.1 ∙ mul-div_cancel w (down_pos e) in
    rw (h.0, n) (add_assoc (cond s (top f) 0) ((size w - prec f) * hid f) (w / 2 ^ (size w - prec f)))

to_bits_inf : (f : Format) (s : Bool) → to_bits f (inf s) ≡ cond s (top f) 0 + ones f * hid f
unfolding to_bits
to_bits_inf f s = refl

-- ---- a pattern is infinity's at most exactly where its number of units is
to_bits_units : (f : Format) (s : Bool) (q k : ℕ) → q ≤ 2 ^ prec f → (0 < k → hid f ≤ q) → to_bits f (units f s q k) ≡ cond s (top f) 0 + min (k * hid f + q) (ones f * hid f)
unfolding units
to_bits_units f s q k a b = go (ltb (q * 2 ^ k) most) (ltb→lt (q * 2 ^ k) most) (nltb→le (q * 2 ^ k) most)
  where
    most : ℕ
    most = 2 ^ (low f + suc (emax f))

    P : 0 < prec f
    P = two-le_pos (prec f) (two f)

    here : units_of (prec f) (k * hid f + q) ≡ q * 2 ^ k
    here = units_at (prec f) k q (subst (λ (x : ℕ). q ≤ x) (half (prec f) P) a) b

    there : units_of (prec f) (ones f * hid f) ≡ most
    there = units_inf (prec f) (emax f) (two f) ∙ mul_comm (2 ^ suc (emax f)) (2 ^ low f) ∙ sym (pow-add 2 (low f) (suc (emax f)))

    go : (t : Bool) → (T t → q * 2 ^ k < most) → (T (not t) → most ≤ q * 2 ^ k)
        → to_bits f (cond t (odd (suc (prec f)) s q k (low f)) (inf s)) ≡ cond s (top f) 0 + min (k * hid f + q) (ones f * hid f)
    go true l g =
        let u = units_le (prec f) (k * hid f + q) (ones f * hid f) (rw (here, there) (le_of_lt (l tt))) in
        to_bits_at f (odd (suc (prec f)) s q k (low f)) s (q * 2 ^ k) (odd_sign (suc (prec f)) s q k (low f))
        ∙ ap (λ (x : ℕ). cond s (top f) 0 + x) (written_is (prec f) q k P a b ∙ sym (min-eq_left u))
    go false l g =
        let u = units_le (prec f) (ones f * hid f) (k * hid f + q) (rw (here, there) (g tt)) in
        to_bits_inf f s ∙ ap (λ (x : ℕ). cond s (top f) 0 + x) (sym (min-eq_right u))

-- ---- the kit's `round` by patterns, and `packed` at its formats
pub to_bits_round : (f : Format) (s : Bool) (num den : ℕ) → to_bits f (round f s num den) ≡ cond s (top f) 0 + mag_of (prec f) (emax f) num den
unfolding mag_of
to_bits_round f s num den =
    let n = num * 2 ^ low f in
    ap (to_bits f) (round_is f s num den) ∙ to_bits_units f s (kept (prec f) n den) (drop (prec f) n den) (kept_le (prec f) n den) (kept_ge (prec f) n den (two-le_pos (prec f) (two f)))

pub top_is : (f : Format) → top f ≡ top_of (prec f) (emax f)
top_is f = ap (λ (x : ℕ). hid f * x) (more (2 * emax f))
  where
    more : (n : ℕ) → suc (n + 1) ≡ n + 2
    more n = omega arith

pub packed_is : (f : Format) (x : Float) → to_bits f (narrow_to f x) ≡ packed (prec f) (emax f) x
unfolding packed narrow_to to_bits
packed_is f nan = refl
packed_is f (inf s) = ap (λ (t : ℕ). cond s t 0 + ones f * hid f) (top_is f)
packed_is f (fin s m e) = to_bits_round f s (m * up e) (down e) ∙ ap (λ (t : ℕ). cond s t 0 + mag_of (prec f) (emax f) (m * up e) (down e)) (top_is f)

-- ---- a rounded value fits, and is no NaN
of_odd : (d : ℕ) (s : Bool) (q k l : ℕ) → T (not (is_nan (odd d s q k l)))
unfolding odd is_nan
of_odd d s zero k l = tt
of_odd d s (suc q) k l = tt

of_cond : (b : Bool) (s : Bool) (x : Float) → T (not (is_nan x)) → T (not (is_nan (cond b x (inf s))))
unfolding is_nan
of_cond true s x h = h
of_cond false s x h = tt

of_units : (f : Format) (s : Bool) (q k : ℕ) → T (not (is_nan (units f s q k)))
unfolding units
of_units f s q k = of_cond (ltb (q * 2 ^ k) (2 ^ (low f + suc (emax f)))) s (odd (suc (prec f)) s q k (low f)) (of_odd (suc (prec f)) s q k (low f))

pub no_nan : (f : Format) (s : Bool) (num den : ℕ) → T (not (is_nan (round f s num den)))
no_nan f s num den = subst (λ (x : Float). T (not (is_nan x))) (sym (round_is f s num den)) (of_units f s _ _)

pub narrow_fits : (f : Format) (x : Float) → T (fits f (narrow_to f x))
unfolding narrow_to
narrow_fits f nan = nan-fits f
narrow_fits f (inf s) = inf-fits f s
narrow_fits f (fin s m e) = round-fits f s (m * up e) (down e)

-- a NaN narrows to a NaN, and nothing else does
pub nan_narrows : (f : Format) → narrow_to f nan ≡ nan
unfolding narrow_to
nan_narrows f = refl

pub narrow_not_nan : (f : Format) (x : Float) → T (not (is_nan x)) → T (not (is_nan (narrow_to f x)))
unfolding narrow_to is_nan
narrow_not_nan f nan h = h
narrow_not_nan f (inf s) h = tt
narrow_not_nan f (fin s m e) h = no_nan f s (m * up e) (down e)
