-- The square of a difference, and a sum as every sum of this library is made: from +0, its terms in order, each
-- addition rounded to binary64. Definitions only.
use Rattle.std.specs.Prelude.{ℕ, zero, suc, false, pos, Float}
use Rattle.std.specs.Float.{fin, binary64}
use Rattle.std.specs.Float.Ieee.{add, sub, mul}

abbrev pub plus_zero : Float
plus_zero = fin false 0 (pos 0)

-- the first n terms of t
unfoldable pub sum_to : (ℕ → Float) → ℕ → Float
sum_to t zero = plus_zero
sum_to t (suc n) = add binary64 (sum_to t n) (t n)

-- the square of the difference of two values, each operation rounded
abbrev pub squared_difference : Float → Float → Float
squared_difference x y = mul binary64 (sub binary64 x y) (sub binary64 x y)
