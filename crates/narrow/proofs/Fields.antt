-- The value that a pattern's fields stand for, and `packed` of it. Assumes nothing.
use Rattle.std.proofs.Common.{◌≡◌, ℕ, zero, suc, ◌+◌, ◌-◌, ◌*◌, ◌/◌, ◌^◌, ◌<◌, ◌≤◌, min, Bool, true, false, cond, eqb, sym, refl, ap, ◌∙◌, le_refl, mul_assoc, suc-mul, mul_comm, mul-pos, div-le_self, mul_right_comm, arith, pow_pos, eq-eqb, ne_eqb}
use native.Mathlib.Nat.{min-le_right}
use lib.Ieee.{Float, nan, inf, fin, Format, prec, low, hid, ones, up, down, size, odd, of_fields}
use lib.Ieee.Fits.{down_pos}
use lib.Ieee.Exact.{HasValue, odd_sign}
use lib.Ieee.Nearest.{closest, closest_same, div_same}
use Rattle.narrow.specs.Format.{low_of, inf_of, top_of}
use Rattle.narrow.specs.Pack.{mag_of, packed}

-- ---- `mag_of` sees only the value of its fraction
pub mag_same : (p E a b c d : ℕ) → 0 < b → 0 < d → a * d ≡ c * b → mag_of p E a b ≡ mag_of p E c d
unfolding mag_of
mag_same p E a b c d B D e =
    let l = 2 ^ low_of p E in
    let x : a * l * d ≡ c * l * b = mul_right_comm a l d ∙ ap (λ (z : ℕ). z * l) e ∙ mul_right_comm c b l in
    let k : size (a * l / b) - p ≡ size (c * l / d) - p = ap (λ (z : ℕ). size z - p) (div_same (a * l) b (c * l) d B D x) in
    let j = size (c * l / d) - p in
    let y : a * l * (d * 2 ^ j) ≡ c * l * (b * 2 ^ j) = sym (mul_assoc (a * l) d (2 ^ j)) ∙ ap (λ (z : ℕ). z * 2 ^ j) x ∙ mul_assoc (c * l) b (2 ^ j) in
    ap (λ (z : ℕ). min (z * 2 ^ (p - 1) + closest (a * l) (b * 2 ^ z)) (inf_of p E)) k
    ∙ ap (λ (z : ℕ). min (j * 2 ^ (p - 1) + z) (inf_of p E)) (closest_same (a * l) (b * 2 ^ j) (c * l) (d * 2 ^ j) (mul-pos B (pow_pos j)) (mul-pos D (pow_pos j)) y)

pub packed_value : (p E : ℕ) (x : Float) (s : Bool) (w c : ℕ) → 0 < c → HasValue x s w c → packed p E x ≡ cond s (top_of p E) 0 + mag_of p E w c
unfolding packed
packed_value p E nan s w c C h = absurd h
packed_value p E (inf t) s w c C h = absurd h
packed_value p E (fin t m e) s w c C h =
    ap (λ (b : Bool). cond b (top_of p E) 0 + mag_of p E (m * up e) (down e)) h.0
    ∙ ap (λ (z : ℕ). cond s (top_of p E) 0 + z) (mag_same p E (m * up e) (down e) w c (down_pos e) C h.1)

pub packed_nan : (p E : ℕ) → packed p E nan ≡ inf_of p E + 2 ^ (p - 1) / 2
unfolding packed
packed_nan p E = refl

pub packed_inf : (p E : ℕ) (s : Bool) → packed p E (inf s) ≡ cond s (top_of p E) 0 + inf_of p E
unfolding packed
packed_inf p E s = refl

-- ---- what a sign, an exponent's field x and digits t stand for
module _ (f : Format) (s : Bool) where
  pub field_zero : (x t : ℕ) → x ≡ 0 → HasValue (of_fields f s x t) s (t * 2 ^ 0) (2 ^ low f)
  unfolding of_fields
  field_zero zero t e = odd_sign (prec f) s t 0 (low f)
  field_zero (suc x) t e = absurd (omega arith)

  pub field_odd : (x t : ℕ) → 0 < x → x < ones f → of_fields f s x t ≡ odd (prec f) s (hid f + t) (x - 1) (low f)
  unfolding of_fields
  field_odd zero t h k = absurd (omega arith)
  field_odd (suc x) t h k =
      let e : suc x - 1 ≡ x = omega arith in
      rw (ne_eqb (suc x) (ones f) (λ i. omega arith), e)

  pub field_norm : (x t : ℕ) → 0 < x → x < ones f → HasValue (of_fields f s x t) s ((hid f + t) * 2 ^ (x - 1)) (2 ^ low f)
  field_norm x t h k = rw (field_odd x t h k) (odd_sign (prec f) s (hid f + t) (x - 1) (low f))

  at_top : (x t : ℕ) (b : Bool) → 0 < ones f → x ≡ ones f → eqb t 0 ≡ b → of_fields f s x t ≡ cond b (inf s) nan
  unfolding of_fields
  at_top zero t b o e h = absurd (omega arith)
  at_top (suc x) t b o e h = rw (eq-eqb (suc x) (ones f) e, h)

  some : 0 < ones f
  some = omega arith

  pub field_inf : (x t : ℕ) → x ≡ ones f → t ≡ 0 → of_fields f s x t ≡ inf s
  field_inf x t e h = at_top x t true some e (ap (λ (z : ℕ). eqb z 0) h)

  pub field_nan : (x t : ℕ) → x ≡ ones f → eqb t 0 ≡ false → of_fields f s x t ≡ nan
  field_nan x t e h = at_top x t false some e h

-- ---- how large a pattern is
pub mag_le : (p E a b : ℕ) → mag_of p E a b ≤ inf_of p E
unfolding mag_of
mag_le p E a b = min-le_right _ _

-- the sign's weight is past infinity's pattern
pub top_split : (p E : ℕ) → top_of p E ≡ inf_of p E + 2 ^ (p - 1)
top_split p E = ap (λ (y : ℕ). 2 ^ (p - 1) * y) (next (2 * E)) ∙ mul_comm (2 ^ (p - 1)) (suc (2 * E + 1)) ∙ suc-mul (2 * E + 1) (2 ^ (p - 1))
  where
    next : (n : ℕ) → n + 2 ≡ suc (n + 1)
    next n = omega arith

pub packed_lt : (p E : ℕ) (x : Float) → packed p E x < 2 * top_of p E
unfolding packed
packed_lt p E x = go x
  where
    H : ℕ
    H = 2 ^ (p - 1)

    some : 0 < H
    some = pow_pos (p - 1)

    signed : (s : Bool) (m : ℕ) → m ≤ inf_of p E → cond s (top_of p E) 0 + m < 2 * top_of p E
    signed true m h = omega (arith, top_split p E, some)
    signed false m h = omega (arith, top_split p E, some)

    go : (x : Float) → packed p E x < 2 * top_of p E
    go nan = omega (arith, top_split p E, some, div-le_self H 2)
    go (inf s) = signed s (inf_of p E) (le_refl (inf_of p E))
    go (fin s m e) = signed s (mag_of p E (m * up e) (down e)) (mag_le p E (m * up e) (down e))
