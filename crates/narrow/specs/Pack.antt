-- A number as a bit pattern of a binary format of p digits and largest exponent emax, rounded to nearest, ties to even.
-- Definitions only.
-- That `mag_of` is what IEEE 754 says, no pattern nearer and a tie
-- to the even one, is the law `rounded` of proofs/ToNearest.antt.
use Rattle.std.specs.Prelude.{ℕ, ◌+◌, ◌-◌, ◌*◌, ◌/◌, ◌^◌, ◌<◌, ◌≤◌, min, cond, Float}
use Rattle.std.specs.Float.{nan, inf, fin, Format}
use Rattle.std.specs.Float.Ieee.{up, down, size, round}
use Rattle.std.specs.Float.Ieee.Nearest.{closest}
use Rattle.narrow.specs.Format.{low_of, inf_of, top_of}

-- The pattern of num / den, without a sign, for a den above 0. In units of the smallest value the fraction is n / den.
-- Of its whole part k digits are dropped.
-- The pattern is k in the exponent's field and the digits kept,
-- whose leading one adds one to the field; infinity's is the most.
unfoldable pub mag_of : ℕ → ℕ → ℕ → ℕ → ℕ
mag_of p emax num den =
    let n = num * 2 ^ low_of p emax in
    let k = size (n / den) - p in
    min (k * 2 ^ (p - 1) + closest n (den * 2 ^ k)) (inf_of p emax)

-- a float as a pattern of that format. A NaN's is the one with no sign and the highest of its digits set.
unfoldable pub packed : ℕ → ℕ → Float → ℕ
unfolding mag_of
packed p emax nan = inf_of p emax + 2 ^ (p - 1) / 2
packed p emax (inf s) = cond s (top_of p emax) 0 + inf_of p emax
packed p emax (fin s m e) = cond s (top_of p emax) 0 + mag_of p emax (m * up e) (down e)

-- a float at a format of lib.Ieee
unfoldable pub narrow_to : Format → Float → Float
unfolding round
narrow_to f nan = nan
narrow_to f (inf s) = inf s
narrow_to f (fin s m e) = round f s (m * up e) (down e)

-- a format so much narrower than binary64 that one cut of its 53 digits gives the result
pub record Narrower (p emax : ℕ) : Type 0 where
  pub digits : 2 ≤ p
  pub fewer : p ≤ 24
  pub low : 1 ≤ emax
  pub high : emax ≤ 511

-- a significand of binary64, and how often it is doubled
pub record Wide (sig e : ℕ) : Type 0 where
  pub digits : sig < 2 ^ 53
  pub field : e < 2046
  pub leading : 0 < e → 2 ^ 52 ≤ sig
