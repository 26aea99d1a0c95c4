-- The samples of a round, added up one by one in the lent work. Definitions only.
use Rattle.std.specs.Prelude.{◌≡◌, ℕ, ◌+◌, ◌*◌, ◌≤◌, ◌<◌, cond, List, length, get_or, set, take, Float}
use Rattle.std.specs.Float.{nan}
use Rattle.std.specs.Float.Ieee.{lt}
use Rattle.lloyd_search.specs.declared.Found.{Found}
use Rattle.lloyd_search.specs.Distance.{distance, vector_of, row_of}
use Rattle.lloyd_search.specs.Nearest.{nearest}
use Rattle.lloyd_cells.specs.Cells.{farthest}
use Rattle.lloyd_cells.specs.Update.{old_distance}
use Rattle.lloyd_cells.specs.Work.{Gathered, gather_work}
use Rattle.lloyd_round.specs.Round.{cell_of, places_of}

-- the codebook of a round: n codewords of k coordinates at the front of the float work
abbrev pub front : ℕ → ℕ → List Float → List Float
front n k work = take (n * k) work

-- the codeword nearest to x, and the distance to that codeword
abbrev pub nearest_in : ℕ → ℕ → List Float → (ℕ → Float) → Found
nearest_in n k codebook x =
    let c = (nearest k n (row_of k codebook) x).index in
    record { index = c; distance = distance k x (row_of k codebook c) }

-- ---- sample number s joins the cell of its nearest codeword
module _ (n k : ℕ) (sample : List Float) (work : List Float) where
  abbrev pub joins : Found
  joins = nearest_in n k (front n k work) (vector_of sample)

  abbrev pub join_work : List Float
  join_work = gather_work (places_of n k) k joins.index sample joins.distance work

  -- it is counted
  abbrev pub join_counts : List ℕ → List ℕ
  join_counts counts = set counts joins.index (get_or counts joins.index 0 + 1)

  -- and noted where it is farther than all before it
  abbrev pub join_numbers : ℕ → List ℕ → List ℕ
  join_numbers s numbers =
      cond (lt (get_or work ((places_of n k).farthest + joins.index) nan) joins.distance) (set numbers joins.index s) numbers

-- lengths and limits for that
pub record Addable (k s : ℕ) (work : List Float) (counts numbers : List ℕ) : Type 0 where
  pub some : 0 < k
  pub least : k ≤ 256
  pub any : 0 < length counts
  pub most : length counts ≤ 1048576
  pub few : s < 10000000
  pub floats : length work ≡ 3 * (length counts * k) + 2 * length counts
  pub integers : length numbers ≡ length counts
  pub upto : (c : ℕ) → c < length counts → get_or counts c 0 ≤ s

-- ---- of S samples the first s are added up, and the numbers of the farthest ones noted
module _ (k n S : ℕ) (samples codebook : List Float) where
  abbrev pub distance_of : ℕ → Float
  distance_of = old_distance k S (row_of k samples) (cell_of k n S samples codebook) (row_of k codebook)

pub record Added (k n S : ℕ) (samples codebook : List Float) (s : ℕ) (work : List Float) (counts numbers : List ℕ) : Type 0 where
  pub gathered : Gathered (places_of n k) n k (cell_of k n S samples codebook) (row_of k samples)
      (distance_of k n S samples codebook) s work counts
  pub noted : (c : ℕ) → c < n
      → get_or numbers c 0 ≡ (farthest (cell_of k n S samples codebook) (distance_of k n S samples codebook) c s).sample
