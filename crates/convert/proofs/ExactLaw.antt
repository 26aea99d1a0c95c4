-- Which norms binary16 holds exactly: by `ne`, by the float itself, and by its bytes. Assumes nothing.
use Rattle.std.proofs.Common.{◌≡◌, ◌≢◌, ℕ, ℤ, ◌+◌, ◌*◌, ◌%◌, ◌^◌, ◌<◌, ◌≤◌, Bool, true, false, cond, T, eqb, ltb, leb, sym, refl, ap, ◌∙◌, subst, zero-le, le_trans, lt_of_not-le, lt_of_lt_of_le, mod-lt, mul-pos, mul_right_comm, arith, ltb→lt, pow_pos, pow_mono, shl_lt, length, List, []}
use native.Mathlib.Nat.{eq_of_mul-eq-mul_right}
use mathlib.Core.Bool.{not, ◌||◌, beq, true≢false}
use lib.Dec.{lit<, lit≤}
use lib.Ieee.{Float, nan, inf, fin, binary32, up, down, odd, eq, ne, fits, is_nan, to_bits}
use lib.Ieee.Bits.{of_bits-fits, of_bits-to_bits, to_bits-lt}
use lib.Ieee.Compare.{differs_from_itself}
use lib.Ieee.Exact.{HasValue}
use lib.Ieee.Fits.{down_pos, odd-fits, cond-fits, nan-fits, inf-fits}
use lib.Ieee.Positive.{first_pos}
use borrow.Author.Tests.{not-false, eqb-true, ltb-true}
use Rattle.error.specs.Numbers.{Value, completed, refused}
use Rattle.error.proofs.Outcomes.{both, passed, completed_same, never}
use Rattle.slices.specs.Bytes.{Bytes, bytes_of, number_of}
use Rattle.slices.proofs.BytesLaw.{number_of_bytes, length_bytes, bytes_of_number, number_below}
use Rattle.narrow.specs.Format.{inf_of, digits_of, scale_of, units_of, unpacked}
use Rattle.narrow.specs.Pack.{packed}
use Rattle.narrow.proofs.Exactly.{same_value, odd_shift}
use Rattle.narrow.proofs.Fields.{packed_lt}
use Rattle.narrow.proofs.ToNearest.{units_le}
use Rattle.narrow.proofs.Unpacked.{unpacked_is, packed_unpacked, of_bits_value}
use Rattle.norm.specs.Norm.{above_zero, norm_value, norm_value_f32}
use Rattle.norm.proofs.NormLaw.{positive_pattern, as_read, reads}
use Rattle.convert.specs.Convert.{f16_bytes, f32_bytes}

-- ---- what equals a number above zero has its value
module _ (s t : Bool) (m n : ℕ) (e d : ℤ) (w c : ℕ) (W : 0 < w) (C : 0 < c) (v : HasValue (fin t n d) false w c) where
  abbrev A : ℕ
  A = m * up e * down d

  abbrev B : ℕ
  B = n * up d * down e

  above : 0 < n * up d
  above = first_pos (n * up d) c (subst (λ (z : ℕ). 0 < z) (sym v.1) (mul-pos W (down_pos d)))

  -- a zero of any sign is no such number
  plus : (s : Bool) → A ≡ B → beq s t || eqb A 0 ≡ true → s ≡ false
  plus false a h = refl
  plus true a h = absurd (let z : A ≡ 0 = eqb-true A 0 (subst (λ (z : Bool). beq true z || eqb A 0 ≡ true) v.0 h) in let p : 0 < B = mul-pos above (down_pos e) in omega arith)

  crossed : A ≡ B → m * up e * c ≡ w * down e
  crossed a =
      eq_of_mul-eq-mul_right (down d) (down_pos d) (m * up e * c) (w * down e)
      (mul_right_comm (m * up e) c (down d) ∙ ap (λ (z : ℕ). z * c) a ∙ mul_right_comm (n * up d) (down e) c ∙ ap (λ (z : ℕ). z * down e) v.1 ∙ mul_right_comm w (down d) (down e))

  fin_value : not (eq (fin s m e) (fin t n d)) ≡ false → HasValue (fin s m e) false w c
  unfolding eq
  fin_value h =
      let p = both (eqb A B) (beq s t || eqb A 0) (not-false _ h) in
      let a = eqb-true A B p.0 in
      (plus s a p.1, crossed a)

pub equal_value : (x y : Float) (w c : ℕ) → 0 < w → 0 < c → HasValue y false w c → ne x y ≡ false → HasValue x false w c
unfolding ne eq
equal_value x nan w c W C v h = absurd v
equal_value x (inf t) w c W C v h = absurd v
equal_value nan (fin t n d) w c W C v h = absurd (true≢false h)
equal_value (inf s) (fin t n d) w c W C v h = absurd (true≢false h)
equal_value (fin s m e) (fin t n d) w c W C v h = fin_value s t m n e d w c W C v h

-- ---- a number above zero is no NaN, and equals itself
pub no_nan : (x : Float) → above_zero x ≡ true → T (not (is_nan x))
unfolding is_nan
no_nan nan h = absurd (true≢false (sym h))
no_nan (inf s) h = tt
no_nan (fin s m e) h = tt

no_differ : (x : Float) → above_zero x ≡ true → ne x x ≡ false
no_differ x P = go (ne x x) (λ (t : T (ne x x)). ap above_zero (differs_from_itself x t))
  where
    go : (t : Bool) → (T t → above_zero x ≡ false) → t ≡ false
    go false f = refl
    go true f = absurd (true≢false (sym P ∙ f tt))

-- ---- the values of patterns are floats of binary32
pub single_fits : (b : ℕ) → T (fits binary32 (unpacked 24 127 b))
single_fits b = subst (λ (x : Float). T (fits binary32 x)) (sym (unpacked_is binary32 b)) (of_bits-fits binary32 b)

-- a value of binary16 has few enough digits, and none too small or too large
few : (m : ℕ) → digits_of 11 m < 2 ^ 11
few m = go (ltb m 1024) (ltb→lt m 1024)
  where
    go : (t : Bool) → (T t → m < 1024) → cond t m (1024 + m % 1024) < 2 ^ 11
    go true h = let l = h tt in omega arith
    go false h = omega arith

odd_half : (s : Bool) (m : ℕ) → m < 32768 → T (fits binary32 (odd 11 s (digits_of 11 m) (scale_of 11 m) 24))
odd_half s m h =
    let q = digits_of 11 m in
    let k = scale_of 11 m in
    let low : k ≤ 30 = omega arith in
    let l = few m in
    subst (λ (x : Float). T (fits binary32 x)) (odd_shift 11 s q k 24 125)
    (odd-fits binary32 11 s q (k + 125) l (omega arith) (lt_of_lt_of_le (shl_lt 11 (k + 125) l) (pow_mono {i = 11 + (k + 125)} {j = 277} (omega arith))))

pub half_fits : (b : ℕ) → T (fits binary32 (unpacked 11 15 b))
unfolding unpacked
half_fits b =
    let m = b % 32768 in
    cond-fits binary32 (ltb 31744 m) nan _ (nan-fits binary32)
    (cond-fits binary32 (eqb m 31744) (inf (leb 32768 b)) _ (inf-fits binary32 (leb 32768 b)) (odd_half (leb 32768 b) m (mod-lt b (lit< tt))))

-- binary32 has every float that fits it
pub single_back : (x : Float) → T (fits binary32 x) → above_zero x ≡ true → (unpacked 24 127 (packed 24 127 x) ≡ x) × (packed 24 127 x < 2 ^ 32)
single_back x f P =
    let b = to_bits binary32 x in
    let small = to_bits-lt binary32 x f in
    let e : unpacked 24 127 b ≡ x = unpacked_is binary32 b ∙ of_bits-to_bits binary32 x f in
    let p : packed 24 127 x ≡ b = ap (packed 24 127) (sym e) ∙ packed_unpacked 24 127 b (lit≤ tt) small (no_nan (unpacked 24 127 b) (ap above_zero e ∙ P)) in
    (ap (unpacked 24 127) p ∙ e, rw p small)

-- ---- of the value of a binary32 pattern, finite and above zero
module _ (b : ℕ) (P : above_zero (unpacked 24 127 b) ≡ true) where
  abbrev x : Float
  x = unpacked 24 127 b

  -- found again by its value
  pub held : (h : ℕ) → ne (unpacked 11 15 h) x ≡ false → unpacked 11 15 h ≡ x
  held h e =
      let s = both (ltb 0 b) (ltb b (inf_of 24 127)) (sym (positive_pattern 24 127 b) ∙ P) in
      let w = units_of 24 b in
      let v : HasValue x false w (2 ^ 149) = subst (λ (y : Float). HasValue y false w (2 ^ 149)) (sym (unpacked_is binary32 b)) (of_bits_value binary32 b (ltb-true b (inf_of 24 127) s.1)) in
      let above : 0 < w = lt_of_not-le (λ (g : w ≤ 0). let l = units_le 24 b 0 (le_trans g zero-le) in let m = ltb-true 0 b s.0 in omega arith) in
      same_value binary32 (unpacked 11 15 h) x false w (half_fits h) (single_fits b) (equal_value (unpacked 11 15 h) x w (2 ^ 149) above (pow_pos 149) v e) v

  -- the pattern of binary16 that stands for it is written
  pub f16_of : (h : ℕ) → h < 2 ^ 16 → unpacked 11 15 h ≡ x → f16_bytes x ≡ completed (bytes_of 2 h)
  unfolding f16_bytes
  f16_of h small e =
      let p : packed 11 15 x ≡ h = ap (packed 11 15) (sym e) ∙ packed_unpacked 11 15 h (lit≤ tt) small (no_nan (unpacked 11 15 h) (ap above_zero e ∙ P)) in
      rw (p, e, no_differ x P)

  pub record Written (norm : List ℕ) : Type 0 where
    pub is : norm ≡ bytes_of 2 (packed 11 15 x)
    pub stands : unpacked 11 15 (packed 11 15 x) ≡ x

  pub f16_is : (norm : List ℕ) → f16_bytes x ≡ completed norm → Written norm
  unfolding f16_bytes
  f16_is norm e =
      let s = passed (ne (unpacked 11 15 (packed 11 15 x)) x) 27 [] (completed (bytes_of 2 (packed 11 15 x))) norm e in
      record { is = sym (completed_same _ norm s.1); stands = held (packed 11 15 x) s.0 }

  -- and 27 comes where there is none
  pub f16_refused : (n : ℕ) (values : List Value) → f16_bytes x ≡ refused n values → (h : ℕ) → h < 2 ^ 16 → unpacked 11 15 h ≢ x
  f16_refused n values e h small s = never n values (bytes_of 2 h) (sym e ∙ f16_of h small s)

  pub f16_none : ((h : ℕ) → h < 2 ^ 16 → unpacked 11 15 h ≢ x) → f16_bytes x ≡ refused 27 []
  unfolding f16_bytes
  f16_none none = go (ne (unpacked 11 15 (packed 11 15 x)) x) refl
    where
      go : (t : Bool) → ne (unpacked 11 15 (packed 11 15 x)) x ≡ t → cond t (refused 27 []) (completed (bytes_of 2 (packed 11 15 x))) ≡ refused 27 []
      go true e = refl
      go false e = absurd (none (packed 11 15 x) (packed_lt 11 15 x) (held (packed 11 15 x) e))

-- ---- there and back
module _ (norm new : List ℕ) (bytes : Bytes norm) (x : Float) where
  -- what is written in two bytes is read as the same norm, and gives back the four
  pub shortened : norm_value_f32 norm ≡ completed x → f16_bytes x ≡ completed new → (norm_value new ≡ completed x) × (f32_bytes x ≡ completed norm)
  unfolding f32_bytes
  shortened e w =
      let r = as_read 4 24 127 norm x e in
      let b = number_of norm in
      let P = ap above_zero (sym r.is) ∙ r.positive in
      let h = packed 11 15 (unpacked 24 127 b) in
      let s = f16_is b P new (ap f16_bytes (sym r.is) ∙ w) in
      let n = number_of_bytes 2 h (packed_lt 11 15 (unpacked 24 127 b)) in
      let small : b < 256 ^ 4 = subst (λ (z : ℕ). b < 256 ^ z) r.sized (number_below norm bytes) in
      let back : packed 24 127 x ≡ b = ap (packed 24 127) r.is ∙ packed_unpacked 24 127 b (lit≤ tt) small (no_nan (unpacked 24 127 b) P) in (
        reads 2 11 15 new x (record { sized = ap length s.is ∙ length_bytes 2 h; positive = r.positive; is = r.is ∙ sym s.stands ∙ ap (unpacked 11 15) (sym (ap number_of s.is ∙ n)) }),
        ap (λ (z : ℕ). completed (bytes_of 4 z)) back ∙ ap completed (subst (λ (z : ℕ). bytes_of z b ≡ norm) r.sized (bytes_of_number norm bytes)),
      )

  -- and the other way round
  pub lengthened : norm_value norm ≡ completed x → f32_bytes x ≡ completed new → (norm_value_f32 new ≡ completed x) × (f16_bytes x ≡ completed norm)
  unfolding f32_bytes
  lengthened e w =
      let r = as_read 2 11 15 norm x e in
      let h = number_of norm in
      let b = packed 24 127 x in
      let s = single_back x (subst (λ (y : Float). T (fits binary32 y)) (sym r.is) (half_fits h)) r.positive in
      let i : new ≡ bytes_of 4 b = sym (completed_same _ new w) in
      let n = number_of_bytes 4 b s.1 in
      let small : h < 256 ^ 2 = subst (λ (z : ℕ). h < 256 ^ z) r.sized (number_below norm bytes) in
      let k : f16_bytes (unpacked 24 127 b) ≡ completed (bytes_of 2 h) = f16_of b (ap above_zero s.0 ∙ r.positive) h small (sym r.is ∙ sym s.0) in (
        reads 4 24 127 new x (record { sized = ap length i ∙ length_bytes 4 b; positive = r.positive; is = sym s.0 ∙ ap (unpacked 24 127) (sym (ap number_of i ∙ n)) }),
        ap f16_bytes (sym s.0) ∙ k ∙ ap completed (subst (λ (z : ℕ). bytes_of z h ≡ norm) r.sized (bytes_of_number norm bytes)),
      )
