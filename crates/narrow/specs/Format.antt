-- IEEE 754's binary formats, by p, the digits of a significand, and emax, the exponent of the
-- largest values: binary16 is (11, 15), binary32 (24, 127) and binary64 (53, 1023). What a bit
-- pattern stands for, and what it means to round to nearest, ties to even. Definitions only.
use Rattle.std.specs.Prelude.{◌≡◌, ℕ, ◌+◌, ◌-◌, ◌*◌, ◌/◌, ◌%◌, ◌^◌, ◌≤◌, cond, ◌≢◌, ◌==◌, nat_le, nat_lt, Float}
use Rattle.std.specs.Float.{nan, inf}
use Rattle.std.specs.Float.Ieee.{odd}

-- the smallest positive value is 2 ^ -low_of
abbrev pub low_of : ℕ → ℕ → ℕ
low_of p emax = emax + p - 2

-- infinity's pattern without its sign: the exponent's field is all ones, the digits' field 0. A NaN's is above it.
abbrev pub inf_of : ℕ → ℕ → ℕ
inf_of p emax = (2 * emax + 1) * 2 ^ (p - 1)

-- the weight of the sign
abbrev pub top_of : ℕ → ℕ → ℕ
top_of p emax = 2 ^ (p - 1) * (2 * emax + 2)

-- The significand of the pattern m (no sign), and how often it is
-- doubled. A field of 0 has no leading digit, and counts as a field of 1.
abbrev pub digits_of : ℕ → ℕ → ℕ
digits_of p m = cond (nat_lt m (2 ^ (p - 1))) m (2 ^ (p - 1) + m % 2 ^ (p - 1))

abbrev pub scale_of : ℕ → ℕ → ℕ
scale_of p m = m / 2 ^ (p - 1) - 1

-- What the pattern m stands for, in units of the format's smallest value: m itself where the exponent's field is 0.
-- Infinity's counts as 2 ^ (emax + 1).
unfoldable pub units_of : ℕ → ℕ → ℕ
units_of p m = digits_of p m * 2 ^ scale_of p m

-- how far apart two numbers are
abbrev pub apart : ℕ → ℕ → ℕ
apart a b = (a - b) + (b - a)

-- how far num / den is from what the pattern m stands for, in units of the smallest value and times den
abbrev pub off_by : ℕ → ℕ → ℕ → ℕ → ℕ → ℕ
off_by p emax num den m = apart (num * 2 ^ low_of p emax) (den * units_of p m)

-- m is the pattern of num / den, rounded to nearest, ties to even: no
-- pattern of the format is nearer, and where another is as near, m is even.
-- With infinity's counted as 2 ^ (emax + 1) this is also IEEE 754's rule for overflow.
pub record Rounded (p emax num den m : ℕ) : Type 0 where
  pub within : m ≤ inf_of p emax
  pub none_nearer : (o : ℕ) → o ≤ inf_of p emax → off_by p emax num den m ≤ off_by p emax num den o
  pub tie_even : (o : ℕ) → o ≤ inf_of p emax → o ≢ m → off_by p emax num den m ≡ off_by p emax num den o → m % 2 ≡ 0

-- the value of the pattern b, its sign included: every NaN pattern
-- is `nan`, and a finite one is units_of p m / 2 ^ low_of, exactly
unfoldable pub unpacked : ℕ → ℕ → ℕ → Float
unfolding odd
unpacked p emax b =
    let s = nat_le (top_of p emax) b in
    let m = b % top_of p emax in
    cond (nat_lt (inf_of p emax) m) nan
    (cond (m == inf_of p emax) (inf s) (odd p s (digits_of p m) (scale_of p m) (low_of p emax)))
