-- Which patterns stand for a norm, what is written and what is read back. Assumes nothing.
use mathlib.Core.Path.{◌≡◌, refl, sym, ap, ◌∙◌, subst}
use mathlib.Core.Logic.{inl, inr}
use Prim.Native.Nat.{ℕ, zero, suc, ◌+◌, ◌-◌, ◌*◌, ◌%◌, ◌^◌, ◌≤◌, ◌<◌}
use native.Mathlib.Nat.{mul-pos, mul_comm, mul-one, zero-mul, mul-lt-mul_of_pos_right, eq_of_mul-eq-mul_right, eq-zero-or-pos, mod-eq_of_lt, le_of_eq, lt_of_not-le, lt_of_lt_of_le, le_antisymm, le_of_suc-le-suc, lt_trans}
use native.Mathlib.Omega.{arith}
use mathlib.Core.Bool.{Bool, true, false, not, ◌&&◌}
use mathlib.Core.List.{List, []}
use lib.Dec.{T, ltb, leb, eqb, ltb→lt, nltb→le}
use lib.ListN.{length}
use lib.Pow.{pow_pos}
use lib.Ieee.{Float, nan, inf, fin, up, down, lt}
use lib.Ieee.Fits.{down_pos}
use lib.Ieee.Exact.{HasValue}
use lib.Ieee.Scale.{finite}
use borrow.Author.Tests.{lt-ltb, le-leb, lt-leb, eq-eqb, eqb-true, not-false, ltb-true}
use Rattle.error.specs.Numbers.{Value, completed, refused}
use Rattle.error.proofs.Outcomes.{both, passed, completed_same, never, after_test}
use Rattle.ieee.specs.Sum.{plus_zero}
use Rattle.slices.specs.Bytes.{bytes_of, number_of}
use Rattle.slices.proofs.BytesLaw.{number_of_bytes, length_bytes}
use Rattle.narrow.specs.Format.{low_of, inf_of, top_of, units_of, unpacked}
use Rattle.narrow.specs.Pack.{packed}
use Rattle.narrow.proofs.ToNearest.{units_le}
use Rattle.narrow.proofs.Unpacked.{unpacked_value}
use Rattle.norm.specs.Norm.{above_zero, written_as, norm_bits, value_of, norm_value}

and_true : (b : Bool) → b && true ≡ b
and_true true = refl
and_true false = refl

and_false : (b : Bool) → b && false ≡ false
and_false true = refl
and_false false = refl

-- ---- finite and above zero
-- v / c and a / w are one number, so both are above zero or neither is
alike : (v c a w : ℕ) → 0 < c → 0 < w → v * c ≡ a * w → ltb 0 v ≡ ltb 0 a
alike v c zero w C W e = ap (ltb 0) (eq_of_mul-eq-mul_right c C v 0 (e ∙ zero-mul w ∙ sym (zero-mul c)))
alike v c (suc a) w C W e = elim (eq-zero-or-pos v) [
  | inl z ↦ absurd (let p : 0 < suc a * w = mul-pos (omega arith) W in let q : suc a * w ≡ 0 = sym e ∙ ap (λ (y : ℕ). y * c) z ∙ zero-mul c in omega arith)
  | inr p ↦ lt-ltb 0 v p ∙ sym (lt-ltb 0 (suc a) (omega arith))
]

-- by sign and size
pub positive_value : (x : Float) (s : Bool) (a c : ℕ) → 0 < c → HasValue x s a c → above_zero x ≡ not s && ltb 0 a
unfolding lt
positive_value nan s a c C v = absurd v
positive_value (inf t) s a c C v = absurd v
positive_value (fin t m e) true a c C v = rw v.0
positive_value (fin t m e) false a c C v = rw (v.0, zero-mul (down e), mul-one (m * up e)) (alike (m * up e) c a (down e) C (down_pos e) v.1)

-- ---- by the pattern: no sign, above zero's and below infinity's
module _ (p E : ℕ) where
  inf_lt_top : inf_of p E < top_of p E
  inf_lt_top = lt_of_lt_of_le (mul-lt-mul_of_pos_right {m = 2 * E + 1} {n = 2 * E + 2} {k = 2 ^ (p - 1)} (omega arith) (pow_pos (p - 1))) (le_of_eq (mul_comm (2 * E + 2) (2 ^ (p - 1))))

  no_units : units_of p 0 ≡ 0
  unfolding units_of
  no_units = rw (lt-ltb 0 (2 ^ (p - 1)) (pow_pos (p - 1))) (zero-mul _)

  some_units : (m : ℕ) → ltb 0 (units_of p m) ≡ ltb 0 m
  some_units zero = ap (ltb 0) no_units
  some_units (suc m) =
      let h : 0 < units_of p (suc m) = lt_of_not-le (λ (g : units_of p (suc m) ≤ 0). let n = no_units in let l = units_le p (suc m) 0 (omega arith) in omega arith) in
      lt-ltb 0 (units_of p (suc m)) h ∙ sym (lt-ltb 0 (suc m) (omega arith))

  -- an infinity or a NaN
  large : (b : ℕ) → inf_of p E ≤ b % top_of p E → finite (unpacked p E b) ≡ false
  unfolding unpacked
  large b h = go (ltb (inf_of p E) (b % top_of p E)) (nltb→le (inf_of p E) (b % top_of p E)) refl
    where
      go : (t : Bool) → (T (not t) → b % top_of p E ≤ inf_of p E) → ltb (inf_of p E) (b % top_of p E) ≡ t → finite (unpacked p E b) ≡ false
      go true f e = rw e
      go false f e = rw (e, eq-eqb (b % top_of p E) (inf_of p E) (le_antisymm (f tt) h))

  pub positive_pattern : (b : ℕ) → above_zero (unpacked p E b) ≡ ltb 0 b && ltb b (inf_of p E)
  positive_pattern b = go (ltb b I) (ltb→lt b I) (nltb→le b I)
    where
      I : ℕ
      I = inf_of p E

      top : ℕ
      top = top_of p E

      bounded_is : b % top < I → above_zero (unpacked p E b) ≡ not (leb top b) && ltb 0 (b % top)
      bounded_is h =
          positive_value (unpacked p E b) (leb top b) (units_of p (b % top)) (2 ^ low_of p E) (pow_pos (low_of p E)) (unpacked_value p E b h)
          ∙ ap (λ (z : Bool). not (leb top b) && z) (some_units (b % top))

      -- at infinity's pattern or above, without the sign or with it
      refused_is : I ≤ b → (c : Bool) → (T c → b % top < I) → (T (not c) → I ≤ b % top) → above_zero (unpacked p E b) ≡ false
      refused_is h true l g =
          let s : top ≤ b = le_of_suc-le-suc (lt_of_not-le (λ (k : suc b ≤ top). let e : b % top ≡ b = mod-eq_of_lt k in let m = l tt in omega arith)) in
          bounded_is (l tt) ∙ ap (λ (z : Bool). not z && ltb 0 (b % top)) (le-leb top b s)
      refused_is h false l g = ap (λ (z : Bool). z && lt plus_zero (unpacked p E b)) (large b (g tt))

      go : (c : Bool) → (T c → b < I) → (T (not c) → I ≤ b) → above_zero (unpacked p E b) ≡ ltb 0 b && c
      go true l g =
          let k : b < top = lt_trans (l tt) inf_lt_top in
          let e : b % top ≡ b = mod-eq_of_lt k in
          bounded_is (subst (λ (z : ℕ). z < I) (sym e) (l tt))
          ∙ ap (λ (z : Bool). not z && ltb 0 (b % top)) (lt-leb top b k)
          ∙ ap (ltb 0) e
          ∙ sym (and_true (ltb 0 b))
      go false l g = refused_is (g tt) (ltb (b % top) I) (ltb→lt (b % top) I) (nltb→le (b % top) I) ∙ sym (and_false (ltb 0 b))

pub norm_pattern : (b : ℕ) → above_zero (unpacked 11 15 b) ≡ true → (0 < b) × (b < inf_of 11 15)
norm_pattern b h = let s = both (ltb 0 b) (ltb b (inf_of 11 15)) (sym (positive_pattern 11 15 b) ∙ h) in (ltb-true 0 b s.0, ltb-true b (inf_of 11 15) s.1)

pub pattern_norm : (b : ℕ) → 0 < b → b < inf_of 11 15 → above_zero (unpacked 11 15 b) ≡ true
pattern_norm b h k = positive_pattern 11 15 b ∙ rw (lt-ltb 0 b h, lt-ltb b (inf_of 11 15) k)

-- ---- what is written and what is read
-- the pattern of a positive norm, one that stands for a finite value above zero
pub record WrittenAs (x : Float) (p b : ℕ) : Type 0 where
  pub codable : above_zero x ≡ true
  pub is : b ≡ p
  pub above : 0 < b
  pub below : b < inf_of 11 15

pub as_written : (x : Float) (p b : ℕ) → written_as x p ≡ completed b → WrittenAs x p b
as_written x p b e =
    let f = passed (not (above_zero x)) 10 [] _ b e in
    let g = passed (not (above_zero (unpacked 11 15 p))) 10 [] _ b f.1 in
    let i = sym (completed_same p b g.1) in
    let r = norm_pattern p (not-false _ g.0) in
    record { codable = not-false _ f.0; is = i; above = omega arith; below = omega arith }

-- by the pattern that is written
abbrev pub Written : Float → ℕ → Type 0
Written x b = WrittenAs x (packed 11 15 x) b

pub norm_written : (x : Float) (b : ℕ) → norm_bits x ≡ completed b → Written x b
unfolding norm_bits
norm_written x b e = as_written x (packed 11 15 x) b e

-- ---- what a rule reads
-- the norm x that n bytes stand for
pub record Reads (n p E : ℕ) (bytes : List ℕ) (x : Float) : Type 0 where
  pub sized : length bytes ≡ n
  pub positive : above_zero x ≡ true
  pub is : x ≡ unpacked p E (number_of bytes)

module _ (n p E : ℕ) (bytes : List ℕ) (x : Float) where
  pub as_read : value_of n p E bytes ≡ completed x → Reads n p E bytes x
  unfolding value_of
  as_read e =
      let f = passed (not (eqb (length bytes) n)) 10 [] _ x e in
      let g = passed (not (above_zero (unpacked p E (number_of bytes)))) 10 [] _ x f.1 in
      let i = sym (completed_same _ x g.1) in
      record { sized = eqb-true (length bytes) n (not-false _ f.0); positive = ap above_zero i ∙ not-false _ g.0; is = i }

  pub reads : Reads n p E bytes x → value_of n p E bytes ≡ completed x
  unfolding value_of
  reads r = rw (eq-eqb (length bytes) n r.sized, sym r.is, r.positive)

-- or it is refused by 10
pub value_not : (n p E : ℕ) (bytes : List ℕ) (m : ℕ) (us : List Value) → 10 < m → value_of n p E bytes ≡ refused m us → ⊥
unfolding value_of
value_not n p E bytes m us h e =
    let x = unpacked p E (number_of bytes) in
    let s = after_test m us (not (eqb (length bytes) n)) 10 _ _ h e in
    never m us x (sym (after_test m us (not (above_zero x)) 10 _ _ h s))

-- what is written is read back
pub read_back : (b : ℕ) → 0 < b → b < inf_of 11 15 → norm_value (bytes_of 2 b) ≡ completed (unpacked 11 15 b)
unfolding value_of
read_back b h k = rw (length_bytes 2 b, number_of_bytes 2 b (omega arith), pattern_norm b h k)
