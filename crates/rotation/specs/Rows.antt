-- What the work functions for several rows at a time answer. Definitions only.
use Rattle.std.specs.Prelude.{ℕ, ◌+◌, ◌*◌, List, length, Float}
use Rattle.slices.specs.Lists.{tabulate}
use Rattle.rotation.specs.declared.product.Product.{Product}
use Rattle.rotation.specs.Apply.{row_sum, column_sum, applied_at}

-- how many rows and columns the matrix has
abbrev pub dim : Product → ℕ
dim p = length p.input.now

-- the sum of each row
abbrev pub row_total : Product → ℕ → Float
row_total p = applied_at (dim p) p.matrix.now p.input.now

-- the first n products of the i-th row from `row` on, and those of `count` rows
abbrev pub row_part : Product → ℕ → ℕ → ℕ → Float
row_part p row n i = row_sum p.matrix.now p.input.now ((row + i) * dim p) n

abbrev pub row_sums : ℕ → Product → ℕ → ℕ → List Float
row_sums count p row n = tabulate count (row_part p row n)

-- the sum of a column over the first n rows, and those of all columns
abbrev pub column_total : Product → ℕ → ℕ → Float
column_total p n c = column_sum (dim p) p.matrix.now p.input.now c n

abbrev pub column_sums : Product → ℕ → List Float
column_sums p n = tabulate (dim p) (column_total p n)
