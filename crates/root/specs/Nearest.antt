-- What IEEE 754 asks of a root, in whole numbers: the value of the format that is nearest to it. Definitions only.
use Rattle.std.specs.Prelude.{ℕ, ◌+◌, ◌-◌, ◌*◌, ◌^◌, ◌<◌}
use Rattle.std.specs.Float.{Format}
use Rattle.std.specs.Float.Ieee.{prec, low, hid, ones}
use Rattle.narrow.specs.Format.{units_of}

abbrev pub square : ℕ → ℕ
square n = n * n

-- num / den is in_units f num / den in units of the smallest value squared, and
-- the root of this is the root of num / den in units of the smallest value
abbrev pub in_units : Format → ℕ → ℕ
in_units f num = num * 2 ^ (2 * low f)

-- The pattern r stands for the finite value that is nearest to the root of num / den, and there is no tie: the root
-- lies strictly between the points half way from r's value to that of the pattern below and to that of the pattern
-- above. Both are squared, and times 4 for the halves.
pub record NearestRoot (f : Format) (num den r : ℕ) : Type 0 where
  pub finite : r < ones f * hid f
  pub above_lower : square (units_of (prec f) (r - 1) + units_of (prec f) r) * den < 4 * in_units f num
  pub below_upper : 4 * in_units f num < square (units_of (prec f) r + units_of (prec f) (r + 1)) * den
