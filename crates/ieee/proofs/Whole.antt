-- Whole numbers as floats, up to 2 ^ prec, have their own value; and a float's value bounds its size from both sides.
-- Assumes nothing.
use Rattle.std.proofs.Common.{ℕ, ◌^◌, ◌≤◌, Bool, false, pos, sym, le_trans, le_of_eq, mul-le-mul_right}
use lib.Ieee.{Float, nan, inf, fin, Format, prec, down, of_int}
use lib.Ieee.Exact.{HasValue}
use lib.Ieee.Back.{round_whole}
use Rattle.ieee.specs.Bounds.{AtMost, AtLeast}

-- n as a float is n, without rounding
pub whole_value : (f : Format) (n : ℕ) → n ≤ 2 ^ prec f → HasValue (of_int f (pos n)) false n 1
unfolding of_int
whole_value f n h = round_whole f false n h

-- what is a / c in size is at most that, and at most any b / c above it
pub value_at_most : (x : Float) (s : Bool) (a b c : ℕ) → HasValue x s a c → a ≤ b → AtMost x b c
value_at_most nan s a b c v h = v
value_at_most (inf t) s a b c v h = v
value_at_most (fin t m e) s a b c v h = le_trans (le_of_eq v.1) (mul-le-mul_right (down e) h)

-- and at least any b / c below it
pub value_at_least : (x : Float) (s : Bool) (a b c : ℕ) → HasValue x s a c → b ≤ a → AtLeast x b c
value_at_least nan s a b c v h = v
value_at_least (inf t) s a b c v h = v
value_at_least (fin t m e) s a b c v h = le_trans (mul-le-mul_right (down e) h) (le_of_eq (sym v.1))
