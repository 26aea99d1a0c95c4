-- The square root, correctly rounded, over whole numbers. Definitions only.
use Rattle.std.specs.Prelude.{ℕ, zero, suc, ◌+◌, ◌*◌, ◌/◌, ◌^◌, true, false, cond, leb, eqb, Float}
use Rattle.std.specs.Float.{nan, inf, fin, Format}
use Rattle.std.specs.Float.Ieee.{low, up, down, size, round}

-- The integer square root of n by i binary digits: where r is that of n / 4, it is 2 * r or 2 * r + 1.
unfoldable pub isqrt_by : ℕ → ℕ → ℕ
isqrt_by zero n = zero
isqrt_by (suc i) n = let r = 2 * isqrt_by i (n / 4) in r + cond (leb ((r + 1) * (r + 1)) n) 1 0

-- the integer square root of n: the largest r with r * r ≤ n. It has half as many digits as n.
unfoldable pub isqrt : ℕ → ℕ
unfolding isqrt_by size
isqrt n = isqrt_by (size n / 2 + 1) n

-- The root of num / den, rounded to the format. In units of the format's smallest value it is cut to a whole number s.
-- Where the cut loses something, s and a half is rounded: the root of a value of the format has many more digits than
-- the format keeps, so that no value, and no point half way between two, lies between s and s + 1.
unfoldable pub root_of : Format → ℕ → ℕ → Float
unfolding isqrt round
root_of f num den =
    let n = num * (2 ^ low f * 2 ^ low f) in
    let s = isqrt (n / den) in
    round f false (2 * s + cond (eqb (s * s * den) n) 0 1) (2 * 2 ^ low f)

-- IEEE 754's squareRoot: a zero keeps its sign, and a number below zero has none
unfoldable pub sqrt_of : Format → Float → Float
unfolding root_of
sqrt_of f nan = nan
sqrt_of f (inf true) = nan
sqrt_of f (inf false) = inf false
sqrt_of f (fin s zero e) = fin s zero e
sqrt_of f (fin true (suc m) e) = nan
sqrt_of f (fin false (suc m) e) = root_of f (suc m * up e) (down e)
