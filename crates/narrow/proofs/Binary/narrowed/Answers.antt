-- `narrow::Binary::narrowed` meets its contract, by the fields of the pattern. Assumes nothing.
use Rattle.std.proofs.Common.{◌≡◌, ℕ, ◌+◌, ◌-◌, ◌*◌, ◌/◌, ◌%◌, ◌^◌, ◌<◌, Bool, cond, leb, sym, refl, ap, ◌∙◌, arith, pow_pos, ne_eqb}
use lib.Ieee.{binary64, of_bits, of_fields}
use lib.Ieee.Exact.{HasValue}
use Rattle.narrow.specs.Format.{inf_of, top_of}
use Rattle.narrow.specs.Pack.{mag_of, packed}
use Rattle.narrow.proofs.Fields.{packed_value, packed_nan, packed_inf, field_zero, field_norm, field_inf, field_nan}
use Rattle.narrow.proofs.Binary.narrowed.Goals as goal

abbrev sign_of : ℕ → Bool
sign_of b = leb 9223372036854775808 b

abbrev x_of : ℕ → ℕ
x_of b = b % 9223372036854775808 / 4503599627370496

abbrev t_of : ℕ → ℕ
t_of b = b % 4503599627370496

fields : (b : ℕ) → of_bits binary64 b ≡ of_fields binary64 (sign_of b) (x_of b) (t_of b)
unfolding of_bits
fields b = refl

module _ (p E b : ℕ) where
  at_inf : x_of b ≡ 2047 → t_of b ≡ 0 → packed p E (of_bits binary64 b) ≡ cond (sign_of b) (top_of p E) 0 + inf_of p E
  at_inf e h = ap (packed p E) (fields b ∙ field_inf binary64 (sign_of b) (x_of b) (t_of b) e h) ∙ packed_inf p E (sign_of b)

  at_nan : x_of b ≡ 2047 → (t_of b ≡ 0 → ⊥) → packed p E (of_bits binary64 b) ≡ inf_of p E + 2 ^ (p - 1) / 2
  at_nan e h = ap (packed p E) (fields b ∙ field_nan binary64 (sign_of b) (x_of b) (t_of b) e (ne_eqb (t_of b) 0 h)) ∙ packed_nan p E

  finite : (w : ℕ) → HasValue (of_fields binary64 (sign_of b) (x_of b) (t_of b)) (sign_of b) w (2 ^ 1074) → packed p E (of_bits binary64 b) ≡ cond (sign_of b) (top_of p E) 0 + mag_of p E w (2 ^ 1074)
  finite w v = ap (packed p E) (fields b) ∙ packed_value p E (of_fields binary64 (sign_of b) (x_of b) (t_of b)) (sign_of b) w (2 ^ 1074) (pow_pos 1074) v

  at_zero : x_of b ≡ 0 → packed p E (of_bits binary64 b) ≡ cond (sign_of b) (top_of p E) 0 + mag_of p E (t_of b * 2 ^ 0) (2 ^ 1074)
  at_zero e = finite (t_of b * 2 ^ 0) (field_zero binary64 (sign_of b) (x_of b) (t_of b) e)

  at_norm : 0 < x_of b → x_of b < 2047 → packed p E (of_bits binary64 b) ≡ cond (sign_of b) (top_of p E) 0 + mag_of p E ((4503599627370496 + t_of b) * 2 ^ (x_of b - 1)) (2 ^ 1074)
  at_norm g h = finite ((4503599627370496 + t_of b) * 2 ^ (x_of b - 1)) (field_norm binary64 (sign_of b) (x_of b) (t_of b) g h)

pub returns-in-0 : goal.returns-in-0
returns-in-0 c = rw (c.sign_of-s.ensures, c.magnitude.ensures.value) (sym (at_zero c.args.self.digits c.args.self.emax c.args.b c.in-0.is))

pub returns-in-2047 : goal.returns-in-2047
returns-in-2047 c = rw (c.sign_of-s.ensures, c.infinity.ensures) (sym (at_inf c.args.self.digits c.args.self.emax c.args.b c.in-2047.is c.if-t-eq0.true))

pub returns-in-2047-2 : goal.returns-in-2047-2
returns-in-2047-2 c = rw (c.infinity-in-2047-2.ensures, c.lead.ensures) (sym (at_nan c.args.self.digits c.args.self.emax c.args.b c.in-2047.is c.if-t-eq0.false))

pub returns-in_default : goal.returns-in_default
returns-in_default c =
    let l : x_of c.args.b < 2048 = omega arith in
    rw (c.sign_of-s.ensures, c.magnitude-in_default.ensures.value) (sym (at_norm c.args.self.digits c.args.self.emax c.args.b (omega arith) (omega arith)))
