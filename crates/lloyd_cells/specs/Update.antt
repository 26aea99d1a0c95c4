-- One update of a codebook: Lloyd's means of the cells, then the repairs. Definitions only.
use Rattle.std.specs.Prelude.{ℕ, Bool, true, false, ◌&&◌, cond, [], ◌∷◌, ltb, pos, Float}
use Rattle.std.specs.Float.{binary64}
use Rattle.std.specs.Float.Ieee.{div, of_int}
use Rattle.error.specs.Numbers.{Outcome, refused, whole}
use Rattle.profile.specs.declared.EmptyCellPolicy.{EmptyCellPolicy}
use Rattle.profile.specs.declared.EmptyCellPolicy.TheVariants.{SplitHighestDistortion, FailClosed}
use Rattle.lloyd_search.specs.Distance.{distance}
use Rattle.lloyd_cells.specs.Cells.{count_to, cell_sum, farthest}
use Rattle.lloyd_cells.specs.Repair.{Cells, Terms, Repaired, repair_to}

-- S samples x of k coordinates in cells a, against the old codewords
module _ (k S : ℕ) (x : ℕ → ℕ → Float) (a : ℕ → ℕ) (old : ℕ → ℕ → Float) where
  -- a sample's distance to the old codeword of its cell
  abbrev pub old_distance : ℕ → Float
  old_distance s = distance k (x s) (old (a s))

  -- A cell with samples gets their mean, sum / count; its distortion is the sum of its samples' old distances.
  abbrev pub means : Cells
  means = record {
    word = λ c j. cond (ltb 0 (count_to a c S))
        (div binary64 (cell_sum a (λ s. x s j) c S) (of_int binary64 (pos (count_to a c S)))) (old c j);
    tally = λ c. count_to a c S;
    distortion = λ c. cell_sum a old_distance c S;
  }

  -- the farthest sample of a cell, the first of equals
  abbrev pub farthest_sample : ℕ → ℕ → Float
  farthest_sample c = x (farthest a old_distance c S).sample

abbrev pub fails_closed : EmptyCellPolicy → Bool
fails_closed SplitHighestDistortion = false
fails_closed FailClosed = true

-- how many of the first n cells are empty
abbrev pub empty_cells : (ℕ → ℕ) → ℕ → ℕ
empty_cells tally n = count_to tally 0 n

unfoldable pub updated : Terms → EmptyCellPolicy → ℕ → (ℕ → ℕ → Float) → (ℕ → ℕ) → (ℕ → ℕ → Float) → Outcome Repaired
updated t policy S x a old =
    let start = means t.dim S x a old in
    let none = empty_cells start.tally t.cells in
    cond (fails_closed policy && ltb 0 none) (refused 14 (whole none ∷ []))
    (repair_to t (farthest_sample t.dim S x a old) start t.cells)
