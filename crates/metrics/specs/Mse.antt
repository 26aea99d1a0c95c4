-- The mean squared error of two vectors of binary32 values, worked out in binary64. Definitions only.
-- One Float type holds both formats, so a widened value is the value itself.
use Rattle.std.specs.Prelude.{ℕ, cond, List, [], ◌∷◌, length, pos, ◌==◌, slice_index_or, Float}
use Rattle.std.specs.Float.{nan, binary64}
use Rattle.std.specs.Float.Ieee.{div, of_int}
use Rattle.error.specs.Names.{right_slice}
use Rattle.error.specs.Numbers.{Outcome, completed, refused, whole}
use Rattle.ieee.specs.Sum.{sum_to, squared_difference}

-- the squared differences of the first n elements, added in order
abbrev pub squared_error : List Float → List Float → ℕ → Float
squared_error left right n = sum_to (λ (i : ℕ). squared_difference (slice_index_or left i nan) (slice_index_or right i nan)) n

-- their mean over all elements
abbrev pub mse_of : List Float → List Float → Float
mse_of left right = div binary64 (squared_error left right (length left)) (of_int binary64 (pos (length left)))

-- unequal lengths are refused first, then vectors of no element
abbrev pub mse_outcome : List Float → List Float → Outcome Float
mse_outcome left right =
    cond (length right == length left)
    (cond (length left == 0) (refused 1 []) (completed (mse_of left right)))
    (refused 7 (whole right_slice ∷ []))
