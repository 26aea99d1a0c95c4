-- A round of refinement: every sample goes to its nearest codeword, and the cells are what an update makes of that.
-- Definitions only.
use Rattle.std.specs.Prelude.{◌≡◌, ℕ, ◌+◌, ◌*◌, ◌≤◌, ◌<◌, List, [], length, get_or, Float}
use Rattle.std.specs.Float.{nan}
use Rattle.slices.specs.Lists.{tabulate}
use Rattle.lloyd_search.specs.Distance.{row_of}
use Rattle.lloyd_search.specs.Nearest.{nearest}
use Rattle.lloyd_cells.specs.declared.Places.{Places}
use Rattle.lloyd_cells.specs.Repair.{Cells, Terms}
use Rattle.lloyd_cells.specs.Update.{means, farthest_sample}
use Rattle.lloyd_cells.specs.Work.{places_at}
use Rattle.lloyd_repair.specs.declared.Numbers.{Numbers}
use Rattle.lloyd_repair.specs.declared.Numbers.TheVariants.{InInts}
use Rattle.lloyd_repair.specs.Running.{Running}

-- S samples of k coordinates against n codewords
module _ (k n S : ℕ) (samples codebook : List Float) where
  -- every sample's nearest codeword
  abbrev pub nearest_cells : List ℕ
  nearest_cells = tabulate S (λ s. (nearest k n (row_of k codebook) (row_of k samples s)).index)

  abbrev pub cell_of : ℕ → ℕ
  cell_of s = get_or nearest_cells s 0

  -- what the update of the round starts from: means, and the farthest samples
  abbrev pub means_of : Cells
  means_of = means k S (row_of k samples) cell_of (row_of k codebook)

  abbrev pub far_of : ℕ → ℕ → Float
  far_of = farthest_sample k S (row_of k samples) cell_of (row_of k codebook)

-- ---- the work of a refinement
-- Floats: the codebook of the round, the best codebook so far,
-- the words of the update, distortions, farthest distances.
abbrev pub places_of : ℕ → ℕ → Places
places_of n k = places_at (2 * (n * k)) (3 * (n * k)) n

-- Integers: the counts, then the numbers of the farthest samples.
abbrev pub numbers_of : ℕ → Numbers
numbers_of n = InInts n

-- a codebook of n codewords of k coordinates stands in the float work from `at` on
pub record Holding (n k at : ℕ) (codebook work : List Float) : Type 0 where
  pub size : length codebook ≡ n * k
  pub values : (i : ℕ) → i < n * k → get_or work (at + i) nan ≡ get_or codebook i nan

-- lengths and limits that a round needs
pub record Roomy (n k S : ℕ) (samples work : List Float) (ints : List ℕ) : Type 0 where
  pub some : 0 < k
  pub least : k ≤ 256
  pub any : 0 < n
  pub most : n ≤ 1048576
  pub rows : length samples ≡ S * k
  pub few : S ≤ 10000000
  pub floats : length work ≡ 3 * (n * k) + 2 * n
  pub integers : length ints ≡ 2 * n

-- before the first repair of a round over that codebook
abbrev pub AtFirst : ℕ → ℕ → ℕ → List Float → List Float → Terms → List Float → List ℕ → Type 0
AtFirst k n S samples codebook t work ints =
    Running (places_of n k) (numbers_of n) t samples (far_of k n S samples codebook) (means_of k n S samples codebook) 0
    (record { cells = means_of k n S samples codebook; events = [] }) work ints
