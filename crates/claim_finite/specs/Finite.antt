-- Every arithmetic result of an update is finite: each one on the way, not only those that come back. `FiniteUpdate c`
-- says it of a call of update alone; proofs/UpdateLaw.antt proves it of every call that passes its checks.
-- (A comparison has no float for a result; the -1 and the -infinity
-- from which searches start are constants.) Definitions only.
use Rattle.std.specs.Prelude.{◌≡◌, ℕ, ◌/◌, ◌≤◌, ◌<◌, not, T, pos, length, get_or, Float, Some}
use Rattle.std.specs.Float.{binary64}
use Rattle.std.specs.Float.Ieee.{add, sub, div, le, of_int}
use Rattle.std.specs.Float.Ieee.Scale.{finite}
use Rattle.error.specs.Numbers.{completed}
use Rattle.ieee.specs.Bounds.{Upto}
use Rattle.lloyd_search.specs.Distance.{row_of}
use Rattle.lloyd_search.specs.Finite.{FiniteDistance}
use Rattle.lloyd_cells.specs.Cells.{count_to, cell_sum}
use Rattle.lloyd_cells.specs.Repair.{Cells, Terms, Repaired, donor_to, least_norm, residual_norm, shift, repair_to}
use Rattle.lloyd_cells.specs.Update.{old_distance, means, farthest_sample}
use Rattle.lloyd_update.specs.Alone.{Call, terms_of}

-- ---- S samples x of k coordinates, in the cells a of n, against the old codewords

-- each sample's distance to the old codeword of its cell, with all that it is made of; and in each cell, once the first
-- m samples have come, the sum of each coordinate and the distortion; and each sample's number as a float, since a
-- program may keep that of a farthest sample so
pub record FiniteGathering (k n S : ℕ) (x : ℕ → ℕ → Float) (a : ℕ → ℕ) (old : ℕ → ℕ → Float) : Type 0 where
  pub distances : (s : ℕ) → s < S → FiniteDistance k (x s) (old (a s))
  pub sums : (c j m : ℕ) → c < n → j < k → m ≤ S → T (finite (cell_sum a (λ s. x s j) c m))
  pub distortions : (c m : ℕ) → c < n → m ≤ S → T (finite (cell_sum a (old_distance k S x a old) c m))
  pub numbers : (s : ℕ) → s < S → T (finite (of_int binary64 (pos s)))

-- of each cell with samples: their count as a float, and the quotient by it at each coordinate
pub record FiniteMeans (k n S : ℕ) (x : ℕ → ℕ → Float) (a : ℕ → ℕ) : Type 0 where
  pub counts : (c : ℕ) → c < n → 0 < count_to a c S → T (finite (of_int binary64 (pos (count_to a c S))))
  pub quotients : (c j : ℕ) → c < n → j < k → 0 < count_to a c S
      → T (finite (div binary64 (cell_sum a (λ s. x s j) c S) (of_int binary64 (pos (count_to a c S)))))

-- ---- repairs

-- a donor's residual: its differences (at each coordinate), their squares, the sums of these, and the root
pub record FiniteResidual (k : ℕ) (far word : ℕ → Float) : Type 0 where
  pub squared : FiniteDistance k far word
  pub root : T (finite (residual_norm k far word))

-- at each coordinate: the quotient of the difference by the norm,
-- epsilon times it, and the two codewords that are made of it
pub record FiniteSplit (k : ℕ) (far word : ℕ → Float) (norm : Float) : Type 0 where
  pub quotients : (j : ℕ) → j < k → T (finite (div binary64 (sub binary64 (far j) (word j)) norm))
  pub products : (j : ℕ) → j < k → T (finite (shift (far j) (word j) norm))
  pub sums : (j : ℕ) → j < k → T (finite (add binary64 (word j) (shift (far j) (word j) norm)))
  pub differences : (j : ℕ) → j < k → T (finite (sub binary64 (word j) (shift (far j) (word j) norm)))

-- of donor c as it stands in r: its residual; and the split, which is made only where the norm is above the least
pub record FiniteRepair (k : ℕ) (far : ℕ → ℕ → Float) (r : Repaired) (c : ℕ) : Type 0 where
  pub residual : FiniteResidual k (far c) (r.cells.word c)
  pub split : T (not (le (residual_norm k (far c) (r.cells.word c)) least_norm))
      → FiniteSplit k (far c) (r.cells.word c) (residual_norm k (far c) (r.cells.word c))

-- of every repair: cell e is empty in its turn, when the repairs before it have come to r, and c is its donor
abbrev pub FiniteRepairs : Terms → (ℕ → ℕ → Float) → Cells → Type 0
FiniteRepairs t far start =
    (e c : ℕ) (r : Repaired) → e < t.cells → repair_to t far start e ≡ completed r → r.cells.tally e ≡ 0
    → donor_to r.cells.tally r.cells.distortion t.cells ≡ Some c → FiniteRepair t.dim far r c

-- ---- an update, in a refinement or alone
pub record FiniteStep (t : Terms) (S : ℕ) (x : ℕ → ℕ → Float) (a : ℕ → ℕ) (old : ℕ → ℕ → Float) : Type 0 where
  pub gathered : FiniteGathering t.dim t.cells S x a old
  pub divided : FiniteMeans t.dim t.cells S x a
  pub repaired : FiniteRepairs t (farthest_sample t.dim S x a old) (means t.dim S x a old)

abbrev pub FiniteUpdate : Call → Type 0
FiniteUpdate c = FiniteStep (terms_of c) (length c.samples / c.dim) (row_of c.dim c.samples)
    (λ s. get_or c.assignments s 0) (row_of c.dim c.codebook)

-- ---- how large codewords get

-- every codeword of a cell that is not empty is at most A in size, at each of k coordinates
abbrev pub WordsUpto : ℕ → ℕ → ℕ → Cells → Type 0
WordsUpto A k n st = (c j : ℕ) → c < n → j < k → 0 < st.tally c → Upto (st.word c j) A
