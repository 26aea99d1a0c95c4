-- A float that fits a format is a value of it, is determined by its value
-- and its sign, and comes back when its value is rounded. Assumes nothing.
use Rattle.std.proofs.Common.{◌≡◌, ℕ, zero, suc, ◌+◌, ◌-◌, ◌*◌, ◌/◌, ◌%◌, ◌^◌, ◌<◌, ◌≤◌, Bool, true, cond, ◌&&◌, T, eqb, ltb, leb, ℤ, pos, negsuc, sym, refl, ap, ◌∙◌, subst, le_of_eq, lt_of_lt_of_le, le_of_suc-le-suc, lt_of_le_of_lt, mul_assoc, mul_comm, lt_of_mul-lt-mul_right, mul-lt-mul_of_pos_right, one-mul, lt_of_not-le, zero-mul, mul-one, mul_right_comm, not-le_of_lt, ltb→lt, leb→le, pow_pos, pow-add}
use native.Mathlib.Nat.{eq_of_mul-eq-mul_right}
use lib.Pow.{pow-lt}
use lib.Ieee.{Float, nan, inf, fin, Format, prec, emax, low, up, down, size, hid, top, round, fits, of_bits, to_bits}
use lib.Ieee.Fits.{and_l, and_r, down_pos, round-fits}
use lib.Ieee.Digits.{back}
use lib.Ieee.Exact.{HasValue, round_exact}
use lib.Ieee.Nearest.{div_same}
use lib.Ieee.Bits.{of_bits-to_bits}
use Rattle.ieee.specs.Bounds.{HoldsFraction}

pub holds_true : {b : Bool} → b ≡ true → T b
holds_true e = subst T (sym e) tt

-- ---- two floats of one value
-- a bit pattern is worked out from the value alone
same_bits : (f : Format) (s : Bool) (m : ℕ) (e : ℤ) (n : ℕ) (d : ℤ) → m * up e * down d ≡ n * up d * down e → to_bits f (fin s m e) ≡ to_bits f (fin s n d)
unfolding to_bits
same_bits f s m e n d h =
    let l = 2 ^ low f in
    ap (λ (z : ℕ). cond s (top f) 0 + (size z - prec f) * hid f + z / 2 ^ (size z - prec f))
    (div_same (m * up e * l) (down e) (n * up d * l) (down d) (down_pos e) (down_pos d)
    (mul_right_comm (m * up e) l (down d) ∙ ap (λ (z : ℕ). z * l) h ∙ mul_right_comm (n * up d) (down e) l))

pub same_value : (f : Format) (s : Bool) (m : ℕ) (e : ℤ) (n : ℕ) (d : ℤ) → T (fits f (fin s m e)) → T (fits f (fin s n d)) → m * up e * down d ≡ n * up d * down e → fin s m e ≡ fin s n d
same_value f s m e n d p q h = sym (of_bits-to_bits f (fin s m e) p) ∙ ap (of_bits f) (same_bits f s m e n d h) ∙ of_bits-to_bits f (fin s n d) q

-- by a fraction that both are
pub value_unique : (f : Format) (x y : Float) (s : Bool) (a c : ℕ) → 0 < c → T (fits f x) → T (fits f y) → HasValue x s a c → HasValue y s a c → x ≡ y
value_unique f nan y s a c C p q v w = absurd v
value_unique f (inf t) y s a c C p q v w = absurd v
value_unique f (fin t m e) nan s a c C p q v w = absurd w
value_unique f (fin t m e) (inf u) s a c C p q v w = absurd w
value_unique f (fin t m e) (fin u n d) s a c C p q v w =
    let signs : t ≡ u = v.0 ∙ sym w.0 in
    let values : m * up e * down d ≡ n * up d * down e =
    eq_of_mul-eq-mul_right c C (m * up e * down d) (n * up d * down e)
    (mul_right_comm (m * up e) (down d) c ∙ ap (λ (z : ℕ). z * down d) v.1 ∙ mul_right_comm a (down e) (down d) ∙ ap (λ (z : ℕ). z * down e) (sym w.1) ∙ mul_right_comm (n * up d) c (down e)) in
    ap (λ (b : Bool). fin b m e) signs ∙ same_value f u m e n d (subst (λ (b : Bool). T (fits f (fin b m e))) signs p) q values

-- ---- what fits is a value of the format
-- 2 ^ e is 2 ^ j of the format's smallest values
scaled : (l : ℕ) (e : ℤ) → down e ≤ 2 ^ l → (j : ℕ) × (2 ^ j * down e ≡ up e * 2 ^ l)
scaled l (pos k) h = (k + l, mul-one (2 ^ (k + l)) ∙ pow-add 2 k l)
scaled l (negsuc k) h =
    let r : suc k ≤ l = le_of_suc-le-suc (lt_of_not-le (λ (g : suc l ≤ suc k). not-le_of_lt (pow-lt g) h)) in
    (l - suc k, sym (pow-add 2 (l - suc k) (suc k)) ∙ ap (λ (z : ℕ). 2 ^ z) (back l (suc k) r) ∙ sym (one-mul (2 ^ l)))

pub fits_holds : (f : Format) (s : Bool) (m : ℕ) (e : ℤ) → T (fits f (fin s m e)) → HoldsFraction f (m * up e) (down e)
unfolding fits
fits_holds f s zero e t = record {
  q = 0;
  j = 0;
  small = pow_pos (prec f);
  under = pow_pos (low f + suc (emax f));
  is = ap (λ (z : ℕ). z * 2 ^ low f) (zero-mul (up e)) ∙ zero-mul (2 ^ low f) ∙ sym (zero-mul (down e));
}
fits_holds f s (suc m) e t =
    let a : Bool = eqb (suc m % 2) 1 in
    let b : Bool = ltb (suc m) (2 ^ prec f) in
    let c : Bool = leb (down e) (2 ^ low f) in
    let d : Bool = ltb (suc m * up e) (2 ^ suc (emax f) * down e) in
    let abc : T (a && b && c) = and_l (a && b && c) d t in
    let l = 2 ^ low f in
    let r = scaled (low f) e (leb→le (down e) l (and_r (a && b) c abc)) in
    let v : suc m * up e * l ≡ suc m * 2 ^ r.0 * down e = mul_assoc (suc m) (up e) l ∙ ap (λ (z : ℕ). suc m * z) (sym r.1) ∙ sym (mul_assoc (suc m) (2 ^ r.0) (down e)) in
    record {
      q = suc m;
      j = r.0;
      small = ltb→lt (suc m) (2 ^ prec f) (and_r a b (and_l (a && b) c abc));
      under =
          lt_of_mul-lt-mul_right (down e)
          (lt_of_le_of_lt (le_of_eq (sym v))
          (lt_of_lt_of_le (mul-lt-mul_of_pos_right (ltb→lt (suc m * up e) (2 ^ suc (emax f) * down e) (and_r (a && b && c) d t)) (pow_pos (low f)))
          (le_of_eq (mul_right_comm (2 ^ suc (emax f)) (down e) l ∙ ap (λ (z : ℕ). z * down e) (mul_comm (2 ^ suc (emax f)) l ∙ sym (pow-add 2 (low f) (suc (emax f))))))));
      is = v;
    }

-- so its value rounds to it
pub round_own : (f : Format) (s : Bool) (m : ℕ) (e : ℤ) → T (fits f (fin s m e)) → round f s (m * up e) (down e) ≡ fin s m e
round_own f s m e t =
    let r = fits_holds f s m e t in
    value_unique f (round f s (m * up e) (down e)) (fin s m e) s (m * up e) (down e) (down_pos e) (round-fits f s (m * up e) (down e)) t
    (round_exact f s (m * up e) (down e) r.q r.j (down_pos e) r.small r.under r.is) (refl, refl)
