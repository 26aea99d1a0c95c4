-- How the lent work holds the cells of an update while it runs. Definitions only.
use Rattle.std.specs.Prelude.{◌≡◌, List, cond, ℕ, zero, suc, ◌+◌, ◌-◌, ◌*◌, ◌≤◌, ◌<◌, true, ltb, pos, length, get_or, set, Float}
use Rattle.std.specs.Float.{fin, nan, binary64}
use Rattle.std.specs.Float.Ieee.{add, sub, div, lt, of_int}
use Rattle.ieee.specs.Sum.{plus_zero}
use Rattle.slices.specs.Lists.{patched}
use Rattle.lloyd_search.specs.Distance.{vector_of}
use Rattle.lloyd_cells.specs.declared.Places.{Places}
use Rattle.lloyd_cells.specs.Cells.{count_to, cell_sum, farthest}
use Rattle.lloyd_cells.specs.Repair.{Cells, shift}

-- n farthest distances after n distortions
abbrev pub places_at : ℕ → ℕ → ℕ → Places
places_at words distortions n = record { words = words; distortions = distortions; farthest = distortions + n }

-- the three parts of the float work stand in this order, within
-- its length: n * k words, n distortions, n farthest distances
pub record Fit (p : Places) (n k L : ℕ) : Type 0 where
  pub some : 0 < k
  pub words : p.words + n * k ≤ p.distortions
  pub distortions : p.distortions + n ≤ p.farthest
  pub farthest : p.farthest + n ≤ L

-- what an update leaves alone in its float work: everything below the words, and between them and the distortions
pub record Kept (p : Places) (n k : ℕ) (before after : List Float) : Type 0 where
  pub size : length after ≡ length before
  pub below : (i : ℕ) → i < p.words → get_or after i nan ≡ get_or before i nan
  pub between : (i : ℕ) → p.words + n * k ≤ i → i < p.distortions → get_or after i nan ≡ get_or before i nan

-- the first s samples x, with distances d, are added up in their cells a
pub record Gathered (p : Places) (n k : ℕ) (a : ℕ → ℕ) (x : ℕ → ℕ → Float) (d : ℕ → Float) (s : ℕ) (work : List Float)
    (counts : List ℕ) : Type 0 where
  pub tally : (c : ℕ) → c < n → get_or counts c 0 ≡ count_to a c s
  pub sums : (c j : ℕ) → c < n → j < k → get_or work (p.words + (c * k + j)) nan ≡ cell_sum a (λ m. x m j) c s
  pub distortions : (c : ℕ) → c < n → get_or work (p.distortions + c) nan ≡ cell_sum a d c s
  pub distances : (c : ℕ) → c < n → get_or work (p.farthest + c) nan ≡ (farthest a d c s).distance

-- the work holds the cells st: every tally and distortion, and the codeword of each cell that is not empty
pub record Held (p : Places) (n k : ℕ) (st : Cells) (work : List Float) (counts : List ℕ) : Type 0 where
  pub tally : (c : ℕ) → c < n → get_or counts c 0 ≡ st.tally c
  pub words : (c j : ℕ) → c < n → j < k → 0 < st.tally c → get_or work (p.words + (c * k + j)) nan ≡ st.word c j
  pub distortions : (c : ℕ) → c < n → get_or work (p.distortions + c) nan ≡ st.distortion c

-- ---- what the steps of an update do to the work

-- float work w when nothing is added up yet: zeros, and n farthest distances of -1, below every distance
abbrev pub cleared : Places → ℕ → List Float → List Float
cleared p n w = patched (patched w p.words (p.farthest - p.words) (λ i. plus_zero)) p.farthest n (λ i. fin true 1 (pos 0))

-- float work w after a sample of k coordinates, at distance d, joins a cell
abbrev pub gather_work : Places → ℕ → ℕ → List Float → Float → List Float → List Float
gather_work p k cell sample d w =
    let w1 = patched w (p.words + cell * k) k
    (λ j. add binary64 (get_or w (p.words + cell * k + j) nan) (vector_of sample j)) in
    let w2 = set w1 (p.distortions + cell) (add binary64 (get_or w1 (p.distortions + cell) nan) d) in
    cond (lt (get_or w2 (p.farthest + cell) nan) d) (set w2 (p.farthest + cell) d) w2

-- float work w after the sums of the first i cells are divided by their counts, where those are not 0
unfoldable pub means_to : Places → ℕ → List ℕ → List Float → ℕ → List Float
means_to p k counts w zero = w
means_to p k counts w (suc i) =
    let v = means_to p k counts w i in
    cond (ltb 0 (get_or counts i 0))
    (patched v (p.words + i * k) k
    (λ j. div binary64 (get_or v (p.words + i * k + j) nan) (of_int binary64 (pos (get_or counts i 0))))) v

-- float work w, and the counts, after the donor c is split for the empty cell e
abbrev pub split_work : Places → ℕ → ℕ → ℕ → List Float → Float → List Float → List Float
split_work p k c e far norm w =
    let at = p.words + c * k in
    let w1 = patched w (p.words + e * k) k
    (λ j. add binary64 (get_or w (at + j) nan) (shift (vector_of far j) (get_or w (at + j) nan) norm)) in
    let w2 = patched w1 at k
    (λ j. sub binary64 (get_or w1 (at + j) nan) (shift (vector_of far j) (get_or w1 (at + j) nan) norm)) in
    set (set w2 (p.distortions + c) plus_zero) (p.distortions + e) plus_zero

abbrev pub split_counts : ℕ → ℕ → List ℕ → List ℕ
split_counts c e counts = set (set counts c (get_or counts c 0 - 1)) e 1
