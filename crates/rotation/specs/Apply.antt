-- A square matrix, stored row by row, times a vector; and its transpose times a vector, which undoes a rotation.
-- Definitions only.
-- Each product and each addition is rounded to binary64, and a sum takes its terms in order from +0.
use Rattle.std.specs.Prelude.{ℕ, ◌+◌, ◌*◌, cond, List, [], eqb, ltb, get_or, Float}
use Rattle.std.specs.Float.{nan, binary64}
use Rattle.std.specs.Float.Ieee.{mul}
use Rattle.error.specs.Names.{input_slice, matrix_slice, output_slice}
use Rattle.error.specs.Numbers.{Outcome, completed, refused, of_length}
use Rattle.ieee.specs.Sum.{sum_to}
use Rattle.slices.specs.Lists.{tabulate}

-- the first n products of a row with the input; the row starts at `start`
abbrev pub row_sum : List Float → List Float → ℕ → ℕ → Float
row_sum matrix input start n = sum_to (λ (j : ℕ). mul binary64 (get_or matrix (start + j) nan) (get_or input j nan)) n

-- the first n products of column c of a matrix of d columns with the input
abbrev pub column_sum : ℕ → List Float → List Float → ℕ → ℕ → Float
column_sum d matrix input c n = sum_to (λ (r : ℕ). mul binary64 (get_or matrix (r * d + c) nan) (get_or input r nan)) n

-- element r of the d × d matrix times the input
abbrev pub applied_at : ℕ → List Float → List Float → ℕ → Float
applied_at d matrix input r = row_sum matrix input (r * d) d

-- the d × d matrix times the input
abbrev pub applied : ℕ → List Float → List Float → List Float
applied d matrix input = tabulate d (applied_at d matrix input)

-- its transpose times the input
abbrev pub applied_inverse : ℕ → List Float → List Float → List Float
applied_inverse d matrix input = tabulate d (λ (c : ℕ). column_sum d matrix input c d)

-- the checks of d and of the lengths of matrix, input and output, in order
abbrev pub shape : ℕ → ℕ → ℕ → ℕ → Outcome Unit
shape d matrix input output =
    cond (eqb d 0) (refused 1 [])
    (cond (ltb 16777216 (d * d)) (refused 5 [])
    (of_length matrix_slice (d * d) matrix
    (of_length input_slice d input
    (of_length output_slice d output
    (completed tt)))))
