-- Lloyd's step: what the samples of a cell add up to. `a s` is the cell
-- of sample s; every sum is over the first n samples. Definitions only.
use Rattle.std.specs.Prelude.{◌≡◌, ℕ, zero, suc, ◌+◌, ◌<◌, true, not, ◌&&◌, cond, T, eqb, pos, Float}
use Rattle.std.specs.Float.{fin, binary64}
use Rattle.std.specs.Float.Ieee.{add, lt}
use Rattle.ieee.specs.Sum.{plus_zero}

-- how many of the samples are in cell c
unfoldable pub count_to : (ℕ → ℕ) → ℕ → ℕ → ℕ
count_to a c zero = 0
count_to a c (suc n) = count_to a c n + cond (eqb (a n) c) 1 0

-- t 0 + t 1 + .. + t (n - 1): of tallies, the samples of the first n cells
unfoldable pub total : (ℕ → ℕ) → ℕ → ℕ
total t zero = 0
total t (suc n) = total t n + t n

-- the terms t s of the samples of cell c, added in sample order from +0, each addition rounded
unfoldable pub cell_sum : (ℕ → ℕ) → (ℕ → Float) → ℕ → ℕ → Float
cell_sum a t c zero = plus_zero
cell_sum a t c (suc n) = cond (eqb (a n) c) (add binary64 (cell_sum a t c n) (t n)) (cell_sum a t c n)

-- a sample's number and its distance
pub record Farthest : Type 0 where
  pub sample : ℕ
  pub distance : Float

-- the first of the farthest samples of cell c, by the distances d; from distance -1, below every distance
unfoldable pub farthest : (ℕ → ℕ) → (ℕ → Float) → ℕ → ℕ → Farthest
farthest a d c zero = record { sample = 0; distance = fin true 1 (pos 0) }
farthest a d c (suc n) =
    cond (eqb (a n) c && lt (farthest a d c n).distance (d n)) (record { sample = n; distance = d n })
    (farthest a d c n)

-- what is meant by it: a sample of the cell, with its distance; none of the
-- cell is strictly farther, and each earlier one of the cell is strictly nearer
pub record FirstFarthest (a : ℕ → ℕ) (d : ℕ → Float) (c n : ℕ) (r : Farthest) : Type 0 where
  pub within : r.sample < n
  pub member : a r.sample ≡ c
  pub is : r.distance ≡ d r.sample
  pub none_farther : (s : ℕ) → s < n → a s ≡ c → T (not (lt r.distance (d s)))
  pub first : (s : ℕ) → s < r.sample → a s ≡ c → T (lt (d s) r.distance)
