-- A finite binary32 value is widened as it is. Assumes nothing.
use Rattle.std.proofs.Common.{◌&&◌, not, T, Float}
use lib.Ieee.{nan, inf, fin, binary32, binary64, fits, is_nan}
use lib.Ieee.Fits.{and_i, fits_widens}
use lib.Ieee.Scale.{finite}

finite_no_nan : (x : Float) → T (finite x) → T (not (is_nan x))
unfolding is_nan
finite_no_nan nan t = absurd t
finite_no_nan (inf s) t = absurd t
finite_no_nan (fin s m e) t = tt

-- what a cast to binary64 asks
pub widens : (x : Float) → T (fits binary32 x) → T (finite x) → T (fits binary64 x && not (is_nan x))
widens x f t = and_i (fits binary64 x) (not (is_nan x)) (fits_widens x f) (finite_no_nan x t)
