-- One sample more is added up: its cell, its distance, and the number of its cell's farthest sample. Assumes nothing.
use mathlib.Core.Path.{◌≡◌, refl, sym, ap, ◌∙◌}
use Prim.Native.Nat.{ℕ, suc, ◌+◌, ◌-◌, ◌*◌, ◌≤◌, ◌<◌}
use native.Mathlib.Nat.{mul-le-mul, mul-le-mul_right, suc-mul}
use native.Mathlib.Numerals.{add-one}
use native.Mathlib.Omega.{arith}
use native.Mathlib.Decide.{ℕ_discrete}
use mathlib.Core.Bool.{Bool, true, false, cond}
use mathlib.Core.List.{List}
use lib.ListN.{length, get_or, set, take, drop}
use lib.Seq.{get_or-set_same, get_or-set_other, get_or-take, length-take-le, ext_get_or}
use lib.Ieee.{Float, nan, lt}
use Rattle.slices.proofs.TabulateLaw.{get_d_tabulate}
use Rattle.lloyd_search.specs.declared.Found.{Found}
use Rattle.lloyd_search.specs.Distance.{distance, vector_of, row_of}
use Rattle.lloyd_search.specs.Nearest.{nearest}
use Rattle.lloyd_search.proofs.NearestLaw.{index_below}
use Rattle.lloyd_search.proofs.Parts.{part_length, part_row, distance_ext, nearest_ext}
use Rattle.lloyd_cells.specs.declared.Places.{Places}
use Rattle.lloyd_cells.specs.Cells.{Farthest, farthest}
use Rattle.lloyd_cells.specs.Work.{Fit, Kept, Gathered}
use Rattle.lloyd_cells.proofs.CellsLaw.{count_to_upto, farthest_in, farthest_out}
use Rattle.lloyd_cells.proofs.WorkLaw.{kept_trans, gathered_next, gather_kept}
use Rattle.lloyd_round.specs.Round.{cell_of, places_of, Roomy}
use Rattle.lloyd_round.specs.Adding.{front, joins, join_work, join_counts, join_numbers, Addable, distance_of, Added}

-- the parts of the work
pub shape : (n k L : ℕ) → 0 < k → L ≡ 3 * (n * k) + 2 * n → Fit (places_of n k) n k L
shape n k L h e = record { some = h; words = omega arith; distortions = omega arith; farthest = omega arith }

-- a row lies within its rows
pub row_inside : (c n k : ℕ) → c < n → c * k + k ≤ n * k
row_inside c n k h = let m : suc c * k ≤ n * k = mul-le-mul_right k h in omega (arith, m, suc-mul c k)

-- the codeword that a search finds is one of them
pub found_below : (n k : ℕ) (codebook : List Float) (x : ℕ → Float) → 0 < n → (nearest k n (row_of k codebook) x).index < n
found_below n k codebook x h = index_below (λ i. distance k x (row_of k codebook i)) n h

-- its places are small numbers
pub places_small : (n k : ℕ) → n ≤ 1048576 → k ≤ 256 → 3 * (n * k) + n < 0x1_0000_0000_0000
places_small n k h g = omega (arith, mul-le-mul h g)

-- what leaves the front alone leaves the codebook alone
pub front_same : (n k : ℕ) (w v : List Float) → n * k ≤ length w → length v ≡ length w → ((i : ℕ) → i < n * k → get_or v i nan ≡ get_or w i nan) → front n k v ≡ front n k w
front_same n k w v room size same =
    let a = length-take-le (n * k) w room in
    let b = length-take-le (n * k) v (omega arith) in
    ext_get_or nan (front n k v) (front n k w) (b ∙ sym a)
    (λ i l. let m : i < n * k = omega arith in get_or-take (n * k) v i nan m ∙ same i m ∙ sym (get_or-take (n * k) w i nan m))

-- ---- in cells a, at distances d: the numbers of the farthest samples
module _ (p : Places) (n k : ℕ) (a : ℕ → ℕ) (x : ℕ → ℕ → Float) (d : ℕ → Float) (s cell : ℕ) (dist : Float) (work : List Float) (counts numbers : List ℕ) where
  abbrev noted : Bool → List ℕ
  noted b = cond b (set numbers cell s) numbers

  module _ (is : a s ≡ cell) (l : cell < n) (m : length numbers ≡ n) (dist_is : d s ≡ dist) (g : Gathered p n k a x d s work counts) (h : (c : ℕ) → c < n → get_or numbers c 0 ≡ (farthest a d c s).sample) where
    -- the cell's farthest sample, by the test
    own : (b : Bool) → lt (get_or work (p.farthest + cell) nan) dist ≡ b → farthest a d cell (suc s) ≡ cond b (record { sample = s; distance = d s }) (farthest a d cell s)
    own b t = farthest_in a cell s d is ∙ ap (λ (z : Bool). cond z (record { sample = s; distance = d s }) (farthest a d cell s)) test
      where
        test : lt (farthest a d cell s).distance (d s) ≡ b
        test = rw (← g.distances cell l, dist_is) t

    here : (b : Bool) → lt (get_or work (p.farthest + cell) nan) dist ≡ b → get_or (noted b) cell 0 ≡ (farthest a d cell (suc s)).sample
    here true t = get_or-set_same numbers cell s 0 (omega arith) ∙ ap (λ (z : Farthest). z.sample) (sym (own true t))
    here false t = h cell l ∙ ap (λ (z : Farthest). z.sample) (sym (own false t))

    elsewhere : (b : Bool) (c : ℕ) → c < n → (c ≡ cell → ⊥) → get_or (noted b) c 0 ≡ (farthest a d c s).sample
    elsewhere true c o q = get_or-set_other numbers cell c s 0 q ∙ h c o
    elsewhere false c o q = h c o

    pub noted_numbers : (b : Bool) → lt (get_or work (p.farthest + cell) nan) dist ≡ b → (c : ℕ) → c < n → get_or (noted b) c 0 ≡ (farthest a d c (suc s)).sample
    noted_numbers b t c o = elim (ℕ_discrete c cell) [
      | yes q ↦ rw q (here b t)
      | no q ↦ elsewhere b c o q ∙ ap (λ (z : Farthest). z.sample) (sym (farthest_out a c s d (λ f. q (sym f ∙ is))))
    ]

-- ---- sample s of a round, given as a list of its coordinates
module _ (k n S : ℕ) (samples : List Float) (s : ℕ) (sample work : List Float) (below : s < S) (row : (j : ℕ) → j < k → vector_of sample j ≡ row_of k samples s j) where
  abbrev codebook : List Float
  codebook = front n k work

  abbrev cell : ℕ
  cell = (joins n k sample work).index

  is_cell : cell_of k n S samples codebook s ≡ cell
  is_cell =
      get_d_tabulate S (λ i. (nearest k n (row_of k codebook) (row_of k samples i)).index) s 0 below
      ∙ ap (λ (f : Found). f.index) (nearest_ext k n (row_of k codebook) (row_of k samples s) (vector_of sample) (λ j m. sym (row j m)))

  is_distance : distance_of k n S samples codebook s ≡ (joins n k sample work).distance
  is_distance =
      ap (λ (c : ℕ). distance k (row_of k samples s) (row_of k codebook c)) is_cell
      ∙ distance_ext k (row_of k samples s) (row_of k codebook cell) (vector_of sample) (row_of k codebook cell) (λ j m. sym (row j m)) (λ j m. refl)

  cell_below : 0 < n → cell < n
  cell_below h = index_below (λ i. distance k (vector_of sample) (row_of k codebook i)) n h

  pub join_kept : 0 < n → Fit (places_of n k) n k (length work) → Kept (places_of n k) n k work (join_work n k sample work)
  join_kept h fit = gather_kept (places_of n k) n k cell sample (joins n k sample work).distance work fit (cell_below h)

  pub join_added : (counts numbers : List ℕ) → 0 < n → Fit (places_of n k) n k (length work) → n ≤ length counts → length numbers ≡ n → Added k n S samples codebook s work counts numbers
      → Added k n S samples codebook (s + 1) (join_work n k sample work) (join_counts n k sample work counts) (join_numbers n k sample work s numbers)
  join_added counts numbers h fit m q g =
      let p = places_of n k in
      let a = cell_of k n S samples codebook in
      let x = row_of k samples in
      let d = distance_of k n S samples codebook in
      let dist = (joins n k sample work).distance in
      rw (add-one s) (record {
        gathered = gathered_next p n k a x d s work counts cell sample dist fit g.gathered is_cell (cell_below h) m row is_distance;
        noted = noted_numbers p n k a x d s cell dist work counts numbers is_cell (cell_below h) q is_distance g.gathered g.noted (lt (get_or work (p.farthest + cell) nan) dist) refl;
      })

-- ---- the cell and the distance as a program has them
module _ (n k : ℕ) (sample work : List Float) (near : Found) (is-near : near ≡ joins n k sample work) where
  pub near_below : 0 < n → near.index < n
  near_below h = rw is-near (index_below (λ i. distance k (vector_of sample) (row_of k (front n k work) i)) n h)

-- ---- the next sample of a loop, after s of them
module _ {n k S : ℕ} {samples work₀ : List Float} {ints₀ : List ℕ} (good : Roomy n k S samples work₀ ints₀) (s : ℕ) (work : List Float) (counts numbers : List ℕ) (below : s < S)
    (tallies : length counts ≡ n) (places : length numbers ≡ n) (kept : Kept (places_of n k) n k work₀ work) (g : Added k n S samples (front n k work₀) s work counts numbers) where
  abbrev part : List Float
  part = take (s * k + k - s * k) (drop (s * k) samples)

  sample_fits : s * k + k ≤ length samples
  sample_fits = omega (arith, row_inside s S k below, good.rows)

  part-size : length part ≡ k
  part-size = part_length samples s k (s * k) refl sample_fits

  part_is : (j : ℕ) → j < k → vector_of part j ≡ row_of k samples s j
  part_is = part_row samples s k (s * k) refl

  fit : Fit (places_of n k) n k (length work)
  fit = shape n k (length work) good.some (kept.size ∙ good.floats)

  same_front : front n k work ≡ front n k work₀
  same_front = front_same n k work₀ work (omega (arith, good.floats)) kept.size (λ i l. kept.below i (omega arith))

  pub addable : Addable (length part) s work counts numbers
  addable = rw part-size (record {
    some = good.some;
    least = good.least;
    any = rw tallies good.any;
    most = rw tallies good.most;
    few = omega (arith, good.few);
    floats = rw tallies (kept.size ∙ good.floats);
    integers = places ∙ sym tallies;
    upto = λ c l. omega (arith, g.gathered.tally c (rw tallies at l), count_to_upto (cell_of k n S samples (front n k work₀)) c s);
  })

  module _ (after : List Float) (is-after : after ≡ join_work (length counts) (length part) part work) where
    joined : after ≡ join_work n k part work
    joined = is-after ∙ rw (tallies, part-size)

    pub next_kept : Kept (places_of n k) n k work₀ after
    next_kept = kept_trans (places_of n k) n k work₀ work after kept (rw joined (join_kept k n S samples s part work below part_is good.any fit))

    pub next_added : (left noted : List ℕ)
        → left ≡ join_counts (length counts) (length part) part work counts
        → noted ≡ join_numbers (length counts) (length part) part work s numbers
        → Added k n S samples (front n k work₀) (s + 1) after left noted
    next_added left noted e q =
        rw (joined, e, q, tallies, part-size, ← same_front)
        (join_added k n S samples s part work below part_is counts numbers good.any fit (omega arith) places (rw same_front g))
