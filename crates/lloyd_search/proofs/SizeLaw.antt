-- A finite distance is not below zero, and at least the square of each difference. Assumes nothing.
use Prim.Native.Nat.{ℕ, ◌*◌, ◌<◌}
use lib.Ieee.{Float, binary64, sub}
use lib.Ieee.Bits.{is_true}
use lib.Ieee.Fits.{mul-fits}
use Rattle.ieee.specs.Bounds.{AtLeast, NotNegative, HoldsFraction}
use Rattle.ieee.specs.Sum.{squared_difference}
use Rattle.ieee.proofs.Sign.{square_not_negative, sum_to_not_negative}
use Rattle.ieee.proofs.Least.{square_at_least, sum_at_least}
use Rattle.lloyd_search.specs.Distance.{distance}
use Rattle.lloyd_search.specs.Finite.{FiniteDistance}

module _ (k : ℕ) (x y : ℕ → Float) (fine : FiniteDistance k x y) where
  abbrev square : ℕ → Float
  square j = squared_difference (x j) (y j)

  term_not_negative : (j : ℕ) → j < k → NotNegative (square j)
  term_not_negative j l = square_not_negative binary64 (sub binary64 (x j) (y j)) (fine.differences j l)

  pub distance_not_negative : NotNegative (distance k x y)
  distance_not_negative = sum_to_not_negative square k term_not_negative

  pub distance_at_least : (j a c : ℕ) → j < k → 0 < c → HoldsFraction binary64 (a * a) (c * c) → AtLeast (sub binary64 (x j) (y j)) a c → AtLeast (distance k x y) (a * a) (c * c)
  distance_at_least j a c l C w h =
      sum_at_least square (a * a) (c * c) k j l term_not_negative (λ i g. is_true _ (mul-fits binary64 (sub binary64 (x i) (y i)) (sub binary64 (x i) (y i)))) fine.partial_sums
      (square_at_least binary64 (sub binary64 (x j) (y j)) a c C w h (fine.squares j l))
