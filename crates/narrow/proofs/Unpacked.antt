-- What a pattern stands for, as a float: `unpacked` is the kit's `of_bits` at its two formats, and `packed` takes its
-- value back to the pattern. Assumes nothing.
use Rattle.std.proofs.Common.{◌≡◌, ℕ, zero, suc, ◌+◌, ◌-◌, ◌*◌, ◌/◌, ◌%◌, ◌^◌, ◌<◌, ◌≤◌, Bool, true, false, cond, not, T, eqb, ltb, leb, sym, refl, ap, ◌∙◌, subst, le_of_eq, le_of_suc-le-suc, le-add_right, le_of_lt, mod-lt, mod-eq_of_lt, zero-lt-suc, mul_comm, div-lt_iff_lt-mul, le_antisymm, mul-pos, div-add-mod', le-div_iff_mul-le, zero-add, arith, eqb→eq, ltb→lt, leb→le, nltb→le, pow_pos, le-ltb, lt-ltb, eq-eqb, ne_eqb, le-leb}
use native.Mathlib.Nat.{mul-mod_left, mod-eq-sub-mod, add-mod_left, div-eq_of_lt, mod-mod_of_dvd, dvd-mul_right}
use lib.Dec.{nleb→lt}
use lib.Ieee.{Float, nan, inf, Format, prec, emax, low, hid, ones, top, odd, neg, is_nan, of_fields, of_bits}
use lib.Ieee.Exact.{HasValue, odd_sign}
use borrow.Author.Tests.{lt-leb}
use Rattle.narrow.specs.Format.{low_of, inf_of, top_of, digits_of, scale_of, units_of, unpacked}
use Rattle.narrow.specs.Pack.{packed}
use Rattle.narrow.proofs.Cmp.{Place, before, at, after, place}
use Rattle.narrow.proofs.Fields.{packed_value, packed_inf, field_odd, field_inf, field_nan, top_split}
use Rattle.narrow.proofs.PackLaw.{top_is}
use Rattle.narrow.proofs.ToNearest.{rounded_exact}

-- ---- a sign, and a pattern below it
abbrev value_of : ℕ → ℕ → Bool → ℕ → Float
value_of p E s m = cond (ltb (inf_of p E) m) nan (cond (eqb m (inf_of p E)) (inf s) (odd p s (digits_of p m) (scale_of p m) (low_of p E)))

is_value : (p E b : ℕ) → unpacked p E b ≡ value_of p E (leb (top_of p E) b) (b % top_of p E)
unfolding unpacked
is_value p E b = refl

neg_odd : (d : ℕ) (s : Bool) (q k l : ℕ) → neg (odd d s q k l) ≡ odd d (not s) q k l
unfolding neg odd
neg_odd d s zero k l = refl
neg_odd d s (suc q) k l = refl

neg_value : (a b s : Bool) (d q k l : ℕ) → neg (cond a nan (cond b (inf s) (odd d s q k l))) ≡ cond a nan (cond b (inf (not s)) (odd d (not s) q k l))
unfolding neg
neg_value true b s d q k l = refl
neg_value false true s d q k l = refl
neg_value false false s d q k l = neg_odd d s q k l

module _ (p E m : ℕ) (h : m < top_of p E) where
  positive : unpacked p E m ≡ value_of p E false m
  positive = is_value p E m ∙ ap (λ (b : Bool). value_of p E b (m % top_of p E)) (lt-leb (top_of p E) m h) ∙ ap (value_of p E false) (mod-eq_of_lt h)

  -- the sign's bit set
  pub unpacked_neg : unpacked p E (top_of p E + m) ≡ neg (unpacked p E m)
  unpacked_neg =
      is_value p E (top_of p E + m)
      ∙ ap (λ (b : Bool). value_of p E b ((top_of p E + m) % top_of p E)) (le-leb (top_of p E) (top_of p E + m) (le-add_right (top_of p E) m))
      ∙ ap (value_of p E true) (add-mod_left (top_of p E) m ∙ mod-eq_of_lt h)
      ∙ sym (ap neg positive ∙ neg_value (ltb (inf_of p E) m) (eqb m (inf_of p E)) false p (digits_of p m) (scale_of p m) (low_of p E))

  pub unpacked_nan : inf_of p E < m → unpacked p E m ≡ nan
  unpacked_nan g = positive ∙ rw (lt-ltb (inf_of p E) m g)

  pub unpacked_inf : m ≡ inf_of p E → unpacked p E m ≡ inf false
  unpacked_inf e = positive ∙ rw (le-ltb (inf_of p E) m (le_of_eq e), eq-eqb m (inf_of p E) e)

  pub unpacked_fin : m < inf_of p E → unpacked p E m ≡ odd p false (digits_of p m) (scale_of p m) (low_of p E)
  unpacked_fin g = positive ∙ rw (le-ltb (inf_of p E) m (le_of_lt g), ne_eqb m (inf_of p E) (λ e. omega arith))

-- ---- a finite pattern's value
units_value : (p l : ℕ) (s : Bool) (m : ℕ) → HasValue (odd p s (digits_of p m) (scale_of p m) l) s (units_of p m) (2 ^ l)
unfolding units_of
units_value p l s m = odd_sign p s (digits_of p m) (scale_of p m) l

pub unpacked_value : (p E b : ℕ) → b % top_of p E < inf_of p E → HasValue (unpacked p E b) (leb (top_of p E) b) (units_of p (b % top_of p E)) (2 ^ low_of p E)
unpacked_value p E b h =
    let m = b % top_of p E in
    let s = leb (top_of p E) b in
    let e : unpacked p E b ≡ odd p s (digits_of p m) (scale_of p m) (low_of p E) = is_value p E b ∙ rw (le-ltb (inf_of p E) m (le_of_lt h), ne_eqb m (inf_of p E) (λ i. omega arith)) in
    subst (λ (x : Float). HasValue x s (units_of p m) (2 ^ low_of p E)) (sym e) (units_value p (low_of p E) s m)

-- ---- from a pattern to its value and back
sign_and_rest : (t b : ℕ) → b < 2 * t → cond (leb t b) t 0 + b % t ≡ b
sign_and_rest t b h = go (leb t b) (leb→le t b) (nleb→lt t b)
  where
    go : (c : Bool) → (T c → t ≤ b) → (T (not c) → b < t) → cond c t 0 + b % t ≡ b
    go true l g = let e : b % t ≡ b - t = mod-eq-sub-mod (l tt) ∙ mod-eq_of_lt (omega (arith, l tt)) in omega (arith, l tt)
    go false l g = zero-add (b % t) ∙ mod-eq_of_lt (g tt)

pub packed_unpacked : (p E b : ℕ) → 2 ≤ p → b < 2 * top_of p E → T (not (is_nan (unpacked p E b))) → packed p E (unpacked p E b) ≡ b
unfolding is_nan
packed_unpacked p E b P h n =
    ap (packed p E) (is_value p E b)
    ∙ go (ltb (inf_of p E) m) (eqb m (inf_of p E)) (nltb→le (inf_of p E) m) (eqb→eq m (inf_of p E)) (subst (λ (x : Float). T (not (is_nan x))) (is_value p E b) n)
    ∙ sign_and_rest (top_of p E) b h
  where
    m : ℕ
    m = b % top_of p E

    s : Bool
    s = leb (top_of p E) b

    x : Float
    x = odd p s (digits_of p m) (scale_of p m) (low_of p E)

    go : (c d : Bool) → (T (not c) → m ≤ inf_of p E) → (T d → m ≡ inf_of p E) → T (not (is_nan (cond c nan (cond d (inf s) x)))) → packed p E (cond c nan (cond d (inf s) x)) ≡ cond s (top_of p E) 0 + m
    go true d l e k = absurd k
    go false true l e k = packed_inf p E s ∙ ap (λ (z : ℕ). cond s (top_of p E) 0 + z) (sym (e tt))
    go false false l e k =
        packed_value p E x s (units_of p m) (2 ^ low_of p E) (pow_pos (low_of p E)) (units_value p (low_of p E) s m)
        ∙ ap (λ (z : ℕ). cond s (top_of p E) 0 + z) (rounded_exact p E m P (l tt))

-- ---- the kit's formats
module _ (f : Format) (s : Bool) (m : ℕ) where
  finite_fields : m < ones f * hid f → odd (prec f) s (digits_of (prec f) m) (scale_of (prec f) m) (low f) ≡ of_fields f s (m / hid f) (m % hid f)
  unfolding of_fields
  finite_fields h = go (ltb m (hid f)) (ltb→lt m (hid f)) (nltb→le m (hid f))
    where
      go : (c : Bool) → (T c → m < hid f) → (T (not c) → hid f ≤ m) → odd (prec f) s (cond c m (hid f + m % hid f)) (scale_of (prec f) m) (low f) ≡ of_fields f s (m / hid f) (m % hid f)
      go true l g = rw (div-eq_of_lt (l tt), mod-eq_of_lt (l tt))
      go false l g = sym (field_odd f s (m / hid f) (m % hid f) ((le-div_iff_mul-le (pow_pos (prec f - 1))).1 (omega (arith, g tt))) ((div-lt_iff_lt-mul (pow_pos (prec f - 1))).1 h))

  all_ones : ones f * hid f ≤ m → m < top f → m / hid f ≡ ones f
  all_ones h g =
      le_antisymm
      (le_of_suc-le-suc ((div-lt_iff_lt-mul (pow_pos (prec f - 1))).1 (subst (λ (x : ℕ). m < x) (mul_comm (hid f) (suc (ones f))) g)))
      ((le-div_iff_mul-le (pow_pos (prec f - 1))).1 h)

  of_fields_lem : m < top f → Place m (ones f * hid f) → value_of (prec f) (emax f) s m ≡ of_fields f s (m / hid f) (m % hid f)
  of_fields_lem g (before h) = rw (le-ltb (ones f * hid f) m (le_of_lt h), ne_eqb m (ones f * hid f) (λ e. omega arith)) (finite_fields h)
  of_fields_lem g (at e) = rw (le-ltb (ones f * hid f) m (le_of_eq e), eq-eqb m (ones f * hid f) e) (sym (field_inf f s (m / hid f) (m % hid f) (all_ones (le_of_eq (sym e)) g) (ap (λ (x : ℕ). x % hid f) e ∙ mul-mod_left (ones f) (hid f))))
  of_fields_lem g (after h) = rw (lt-ltb (ones f * hid f) m h) (sym (field_nan f s (m / hid f) (m % hid f) o (ne_eqb (m % hid f) 0 (λ z. omega (arith, div-add-mod' m (hid f), ap (λ (x : ℕ). x * hid f) o)))))
    where
      o : m / hid f ≡ ones f
      o = all_ones (le_of_lt h) g

pub unpacked_is : (f : Format) (b : ℕ) → unpacked (prec f) (emax f) b ≡ of_bits f b
unfolding of_bits
unpacked_is f b =
    is_value (prec f) (emax f) b
    ∙ ap (λ (t : ℕ). value_of (prec f) (emax f) (leb t b) (b % t)) (sym (top_is f))
    ∙ of_fields_lem f (leb (top f) b) (b % top f) (mod-lt b (mul-pos (pow_pos (prec f - 1)) (zero-lt-suc (ones f)))) (place (b % top f) (ones f * hid f))
    ∙ ap (of_fields f (leb (top f) b) (b % top f / hid f)) (mod-mod_of_dvd (hid f) {b = top f} b (dvd-mul_right (hid f) (suc (ones f))))

-- so `of_bits` reads the pattern m, below infinity's, as units_of m of the smallest value
pub of_bits_value : (f : Format) (m : ℕ) → m < ones f * hid f → HasValue (of_bits f m) false (units_of (prec f) m) (2 ^ low f)
of_bits_value f m h =
    let p = prec f in
    let E = emax f in
    let t : m < top_of p E = omega (arith, top_split p E) in
    subst (λ (x : Float). HasValue x false (units_of p m) (2 ^ low f)) (sym (unpacked_fin p E m t h) ∙ unpacked_is f m) (units_value p (low f) false m)
