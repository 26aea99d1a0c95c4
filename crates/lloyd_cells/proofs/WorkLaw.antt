-- How the lent work holds the cells of an update: a sample joins its cell, sums become means, a donor is split for an
-- empty cell. Each step keeps what the work means, and leaves the rest alone.
-- Assumes nothing.
use mathlib.Core.Path.{◌≡◌, refl, sym, ap, ◌∙◌, subst}
use mathlib.Core.Logic.{◌⊎◌, inl, inr}
use Prim.Native.Nat.{ℕ, zero, suc, ◌+◌, ◌-◌, ◌*◌, ◌<◌, ◌≤◌}
use native.Mathlib.Nat.{eq-or-lt_of_le, le_of_suc-le-suc, add_assoc, mul-le-mul_right}
use native.Mathlib.Omega.{arith}
use native.Mathlib.Decide.{ℕ_discrete, dec_lt}
use mathlib.Core.Bool.{Bool, true, false, cond}
use mathlib.Core.List.{List}
use lib.Arith.{digits_lt}
use lib.Dec.{ltb}
use lib.IntN.{pos}
use lib.ListN.{length, get_or, set, length-set}
use lib.Seq.{get_or-set_same, get_or-set_other}
use lib.Ieee.{Float, nan, fin, binary64, add, sub, div, lt, of_int}
use borrow.Author.Tests.{eq-eqb, ne_eqb, lt-ltb}
use Rattle.ieee.specs.Sum.{plus_zero}
use Rattle.slices.specs.Lists.{patched}
use Rattle.slices.proofs.ListLaw.{length-patched, patched_below, patched_above, patched_inside}
use Rattle.lloyd_search.specs.Distance.{vector_of}
use Rattle.lloyd_cells.specs.declared.Places.{Places}
use Rattle.lloyd_cells.specs.Cells.{count_to, cell_sum, Farthest, farthest}
use Rattle.lloyd_cells.specs.Repair.{Cells, shift, split, donor_to}
use Rattle.lloyd_cells.specs.Update.{old_distance, means}
use Rattle.lloyd_cells.specs.Work.{Fit, Kept, Gathered, Held, gather_work, means_to, split_work, split_counts}
use Rattle.lloyd_cells.proofs.CellsLaw.{count_to_in, count_to_out, cell_sum_in, cell_sum_out, farthest_in, farthest_out}
use Rattle.lloyd_cells.proofs.DonorLaw.{donor_to_ext}

-- what holds of both holds of the one that a test takes
either : {A : Type 0} (P : A → Type 0) (b : Bool) (x y : A) → P x → P y → P (cond b x y)
either P true x y h k = h
either P false x y h k = k

-- ---- rows of k values, from `base` on
-- a coordinate of row i stands before row c, or after it
rows_apart : (k c i j : ℕ) → (i ≡ c → ⊥) → j < k → (i * k + j < c * k) ⊎ (c * k + k ≤ i * k + j)
rows_apart k c i j o l = elim (dec_lt i c) [ yes m ↦ inl (omega (arith, mul-le-mul_right k m)) | no q ↦ inr (omega (arith, mul-le-mul_right k (later q))) ]
  where
    later : (i < c → ⊥) → suc c ≤ i
    later q = omega arith

module _ (base n k : ℕ) (w : List Float) (c : ℕ) (f : ℕ → Float) where
  pub row_same : (j : ℕ) → base + n * k ≤ length w → c < n → j < k → get_or (patched w (base + c * k) k f) (base + (c * k + j)) nan ≡ f j
  row_same j h l m =
      ap (λ (z : ℕ). get_or (patched w (base + c * k) k f) z nan) (sym (add_assoc base (c * k) j)) ∙ patched_inside w (base + c * k) k f j nan (omega (arith, mul-le-mul_right k l)) m

  pub row_other : (i j : ℕ) → (i ≡ c → ⊥) → j < k → get_or (patched w (base + c * k) k f) (base + (i * k + j)) nan ≡ get_or w (base + (i * k + j)) nan
  row_other i j o l = elim (rows_apart k c i j o l) [
    | inl m ↦ patched_below w (base + c * k) k f (base + (i * k + j)) nan (omega arith)
    | inr m ↦ patched_above w (base + c * k) k f (base + (i * k + j)) nan (omega arith)
  ]

  pub row_below : (i : ℕ) → i < base → get_or (patched w (base + c * k) k f) i nan ≡ get_or w i nan
  row_below i l = patched_below w (base + c * k) k f i nan (omega arith)

  pub row_above : (i : ℕ) → c < n → base + n * k ≤ i → get_or (patched w (base + c * k) k f) i nan ≡ get_or w i nan
  row_above i l h = patched_above w (base + c * k) k f i nan (omega (arith, mul-le-mul_right k l))

-- ---- what is left alone
pub kept_trans : (p : Places) (n k : ℕ) (u v w : List Float) → Kept p n k u v → Kept p n k v w → Kept p n k u w
kept_trans p n k u v w g h = record {
  size = h.size ∙ g.size;
  below = λ i l. h.below i l ∙ g.below i l;
  between = λ i l m. h.between i l m ∙ g.between i l m;
}

-- ---- a sample joins its cell
module _ (p : Places) (n k cell : ℕ) (sample : List Float) (dist : Float) (w : List Float) (fit : Fit p n k (length w)) (l : cell < n) where
  abbrev sums : ℕ → Float
  sums j = add binary64 (get_or w (p.words + cell * k + j) nan) (vector_of sample j)

  abbrev added : List Float
  added = patched w (p.words + cell * k) k sums

  abbrev summed : List Float
  summed = set added (p.distortions + cell) (add binary64 (get_or added (p.distortions + cell) nan) dist)

  abbrev is_farther : Bool
  is_farther = lt (get_or summed (p.farthest + cell) nan) dist

  abbrev joined : List Float
  joined = gather_work p k cell sample dist w

  added_size : length added ≡ length w
  added_size = length-patched w (p.words + cell * k) k sums

  summed_size : length summed ≡ length w
  summed_size = length-set added (p.distortions + cell) (add binary64 (get_or added (p.distortions + cell) nan) dist) ∙ added_size

  -- only one farthest distance, one distortion and one row change
  but_farthest : (i : ℕ) → (i ≡ p.farthest + cell → ⊥) → get_or joined i nan ≡ get_or summed i nan
  but_farthest i o =
      either (λ (z : List Float). get_or z i nan ≡ get_or summed i nan) is_farther (set summed (p.farthest + cell) dist) summed (get_or-set_other summed (p.farthest + cell) i dist nan o) refl

  but_row : (i : ℕ) → (i ≡ p.farthest + cell → ⊥) → (i ≡ p.distortions + cell → ⊥) → get_or joined i nan ≡ get_or added i nan
  but_row i o q = but_farthest i o ∙ get_or-set_other added (p.distortions + cell) i (add binary64 (get_or added (p.distortions + cell) nan) dist) nan q

  sum_same : (j : ℕ) → j < k → get_or joined (p.words + (cell * k + j)) nan ≡ add binary64 (get_or w (p.words + (cell * k + j)) nan) (vector_of sample j)
  sum_same j m =
      let r = digits_lt l m in
      but_row (p.words + (cell * k + j)) (λ e. omega arith) (λ e. omega arith) ∙ row_same p.words n k w cell sums j (omega arith) l m
      ∙ ap (λ (z : ℕ). add binary64 (get_or w z nan) (vector_of sample j)) (add_assoc p.words (cell * k) j)

  sum_other : (i j : ℕ) → (i ≡ cell → ⊥) → i < n → j < k → get_or joined (p.words + (i * k + j)) nan ≡ get_or w (p.words + (i * k + j)) nan
  sum_other i j o h m =
      let r = digits_lt h m in
      but_row (p.words + (i * k + j)) (λ e. omega arith) (λ e. omega arith) ∙ row_other p.words n k w cell sums i j o m

  distortion_same : get_or joined (p.distortions + cell) nan ≡ add binary64 (get_or w (p.distortions + cell) nan) dist
  distortion_same =
      let s = added_size in
      but_farthest (p.distortions + cell) (λ e. omega arith)
      ∙ get_or-set_same added (p.distortions + cell) (add binary64 (get_or added (p.distortions + cell) nan) dist) nan (omega arith)
      ∙ ap (λ (z : Float). add binary64 z dist) (row_above p.words n k w cell sums (p.distortions + cell) l (omega arith))

  distortion_other : (i : ℕ) → (i ≡ cell → ⊥) → i < n → get_or joined (p.distortions + i) nan ≡ get_or w (p.distortions + i) nan
  distortion_other i o h =
      but_row (p.distortions + i) (λ e. omega arith) (λ e. omega arith) ∙ row_above p.words n k w cell sums (p.distortions + i) l (omega arith)

  farthest_same : get_or joined (p.farthest + cell) nan ≡ cond (lt (get_or w (p.farthest + cell) nan) dist) dist (get_or w (p.farthest + cell) nan)
  farthest_same = go is_farther ∙ ap (λ (z : Float). cond (lt z dist) dist z) before
    where
      before : get_or summed (p.farthest + cell) nan ≡ get_or w (p.farthest + cell) nan
      before =
          get_or-set_other added (p.distortions + cell) (p.farthest + cell) (add binary64 (get_or added (p.distortions + cell) nan) dist) nan (λ e. omega arith)
          ∙ row_above p.words n k w cell sums (p.farthest + cell) l (omega arith)

      go : (b : Bool) → get_or (cond b (set summed (p.farthest + cell) dist) summed) (p.farthest + cell) nan ≡ cond b dist (get_or summed (p.farthest + cell) nan)
      go true = let s = summed_size in get_or-set_same summed (p.farthest + cell) dist nan (omega arith)
      go false = refl

  farthest_other : (i : ℕ) → (i ≡ cell → ⊥) → i < n → get_or joined (p.farthest + i) nan ≡ get_or w (p.farthest + i) nan
  farthest_other i o h =
      but_row (p.farthest + i) (λ e. omega arith) (λ e. omega arith) ∙ row_above p.words n k w cell sums (p.farthest + i) l (omega arith)

  pub gather_kept : Kept p n k w (gather_work p k cell sample dist w)
  gather_kept = record {
    size = either (λ (z : List Float). length z ≡ length w) is_farther (set summed (p.farthest + cell) dist) summed (length-set summed (p.farthest + cell) dist ∙ summed_size) summed_size;
    below = λ i h. but_row i (λ e. omega arith) (λ e. omega arith) ∙ row_below p.words n k w cell sums i h;
    between = λ i h m. but_row i (λ e. omega arith) (λ e. omega arith) ∙ row_above p.words n k w cell sums i l h;
  }

picked : (b : Bool) (r : Farthest) (s : ℕ) (y : Float) → cond b y r.distance ≡ (cond b (record { sample = s; distance = y }) r).distance
picked true r s y = refl
picked false r s y = refl

module _ (p : Places) (n k : ℕ) (a : ℕ → ℕ) (x : ℕ → ℕ → Float) (d : ℕ → Float) where
  pub gathered_start : (w : List Float) (counts : List ℕ)
      → ((c j : ℕ) → c < n → j < k → get_or w (p.words + (c * k + j)) nan ≡ plus_zero)
      → ((c : ℕ) → c < n → get_or w (p.distortions + c) nan ≡ plus_zero)
      → ((c : ℕ) → c < n → get_or w (p.farthest + c) nan ≡ fin true 1 (pos 0))
      → ((c : ℕ) → c < n → get_or counts c 0 ≡ 0)
      → Gathered p n k a x d 0 w counts
  unfolding count_to cell_sum farthest
  gathered_start w counts s t f z = record { tally = z; sums = s; distortions = t; distances = f }

  pub gathered_next : (s : ℕ) (w : List Float) (counts : List ℕ) (cell : ℕ) (sample : List Float) (dist : Float) → Fit p n k (length w) → Gathered p n k a x d s w counts
      → a s ≡ cell → cell < n → n ≤ length counts → ((j : ℕ) → j < k → vector_of sample j ≡ x s j) → d s ≡ dist
      → Gathered p n k a x d (suc s) (gather_work p k cell sample dist w) (set counts cell (get_or counts cell 0 + 1))
  gathered_next s w counts cell sample dist fit g i l h v q = record {
    tally = λ c m. elim (ℕ_discrete c cell) [
      | yes e ↦ rw e (get_or-set_same counts cell (get_or counts cell 0 + 1) 0 (omega arith) ∙ ap (λ (z : ℕ). z + 1) (g.tally cell l) ∙ sym (count_to_in a cell s i))
      | no o ↦ get_or-set_other counts cell c (get_or counts cell 0 + 1) 0 o ∙ g.tally c m ∙ sym (count_to_out a c s (λ f. o (sym f ∙ i)))
    ];
    sums = λ c j m r. elim (ℕ_discrete c cell) [
      | yes e ↦ rw e (sum_same p n k cell sample dist w fit l j r ∙ rw (g.sums cell j l r, v j r) (sym (cell_sum_in a cell s (λ u. x u j) i)))
      | no o ↦ sum_other p n k cell sample dist w fit l c j o m r ∙ g.sums c j m r ∙ sym (cell_sum_out a c s (λ u. x u j) (λ f. o (sym f ∙ i)))
    ];
    distortions = λ c m. elim (ℕ_discrete c cell) [
      | yes e ↦ rw e (distortion_same p n k cell sample dist w fit l ∙ rw (g.distortions cell l, ← q) (sym (cell_sum_in a cell s d i)))
      | no o ↦ distortion_other p n k cell sample dist w fit l c o m ∙ g.distortions c m ∙ sym (cell_sum_out a c s d (λ f. o (sym f ∙ i)))
    ];
    distances = λ c m. elim (ℕ_discrete c cell) [
      | yes e ↦
          rw e
          (farthest_same p n k cell sample dist w fit l
          ∙ rw (g.distances cell l, ← q) (picked (lt (farthest a d cell s).distance (d s)) (farthest a d cell s) s (d s) ∙ ap (λ (r : Farthest). r.distance) (sym (farthest_in a cell s d i))))
      | no o ↦ farthest_other p n k cell sample dist w fit l c o m ∙ g.distances c m ∙ ap (λ (r : Farthest). r.distance) (sym (farthest_out a c s d (λ f. o (sym f ∙ i))))
    ];
  }

  -- the three parts of the work decide
  pub gathered_same : (s : ℕ) (w v : List Float) (counts : List ℕ) → Gathered p n k a x d s w counts
      → ((i : ℕ) → p.words ≤ i → i < p.words + n * k → get_or v i nan ≡ get_or w i nan)
      → ((i : ℕ) → p.distortions ≤ i → i < p.distortions + n → get_or v i nan ≡ get_or w i nan)
      → ((i : ℕ) → p.farthest ≤ i → i < p.farthest + n → get_or v i nan ≡ get_or w i nan)
      → Gathered p n k a x d s v counts
  gathered_same s w v counts g f h e = record {
    tally = g.tally;
    sums = λ c j l m. f (p.words + (c * k + j)) (omega arith) (let r = digits_lt l m in omega arith) ∙ g.sums c j l m;
    distortions = λ c l. h (p.distortions + c) (omega arith) (omega arith) ∙ g.distortions c l;
    distances = λ c l. e (p.farthest + c) (omega arith) (omega arith) ∙ g.distances c l;
  }

-- ---- sums become means
module _ (p : Places) (n k : ℕ) (counts : List ℕ) (w : List Float) where
  -- the quotients of row i
  abbrev quotients : ℕ → List Float → ℕ → Float
  quotients i v j = div binary64 (get_or v (p.words + i * k + j) nan) (of_int binary64 (pos (get_or counts i 0)))

  -- what one row's division leaves alone
  divided : (P : List Float → Type 0) (i : ℕ) → P (patched (means_to p k counts w i) (p.words + i * k) k (quotients i (means_to p k counts w i))) → P (means_to p k counts w i) → P (means_to p k counts w (suc i))
  unfolding means_to
  divided P i h g = either P (ltb 0 (get_or counts i 0)) (patched (means_to p k counts w i) (p.words + i * k) k (quotients i (means_to p k counts w i))) (means_to p k counts w i) h g

  means_size : (i : ℕ) → length (means_to p k counts w i) ≡ length w
  unfolding means_to
  means_size zero = refl
  means_size (suc i) =
      divided (λ (z : List Float). length z ≡ length w) i (length-patched (means_to p k counts w i) (p.words + i * k) k (quotients i (means_to p k counts w i)) ∙ means_size i) (means_size i)

  means_below : (i q : ℕ) → q < p.words → get_or (means_to p k counts w i) q nan ≡ get_or w q nan
  unfolding means_to
  means_below zero q h = refl
  means_below (suc i) q h =
      divided (λ (z : List Float). get_or z q nan ≡ get_or w q nan) i (row_below p.words n k (means_to p k counts w i) i (quotients i (means_to p k counts w i)) q h ∙ means_below i q h) (means_below i q h)

  means_above : (i q : ℕ) → i ≤ n → p.words + n * k ≤ q → get_or (means_to p k counts w i) q nan ≡ get_or w q nan
  unfolding means_to
  means_above zero q l h = refl
  means_above (suc i) q l h =
      let g = means_above i q (omega arith) h in
      divided (λ (z : List Float). get_or z q nan ≡ get_or w q nan) i (row_above p.words n k (means_to p k counts w i) i (quotients i (means_to p k counts w i)) q l h ∙ g) g

  -- a row whose turn has not come
  means_later : (i c j : ℕ) → i ≤ c → j < k → get_or (means_to p k counts w i) (p.words + (c * k + j)) nan ≡ get_or w (p.words + (c * k + j)) nan
  unfolding means_to
  means_later zero c j l m = refl
  means_later (suc i) c j l m =
      let g = means_later i c j (omega arith) m in
      divided (λ (z : List Float). get_or z (p.words + (c * k + j)) nan ≡ get_or w (p.words + (c * k + j)) nan) i
      (row_other p.words n k (means_to p k counts w i) i (quotients i (means_to p k counts w i)) c j (λ e. omega arith) m ∙ g) g

  -- a row that has been divided
  abbrev Mean : ℕ → ℕ → List Float → Type 0
  Mean c j z = get_or z (p.words + (c * k + j)) nan ≡ div binary64 (get_or w (p.words + (c * k + j)) nan) (of_int binary64 (pos (get_or counts c 0)))

  mean_now : (c j : ℕ) → p.words + n * k ≤ length w → c < n → j < k → 0 < get_or counts c 0 → Mean c j (means_to p k counts w (suc c))
  unfolding means_to
  mean_now c j f l m h =
      let s = means_size c in
      rw (lt-ltb 0 (get_or counts c 0) h)
      (row_same p.words n k (means_to p k counts w c) c (quotients c (means_to p k counts w c)) j (omega arith) l m
      ∙ ap (λ (z : Float). div binary64 z (of_int binary64 (pos (get_or counts c 0))))
      (ap (λ (z : ℕ). get_or (means_to p k counts w c) z nan) (add_assoc p.words (c * k) j) ∙ means_later c c j (omega arith) m))

  mean_then : (i c j : ℕ) → p.words + n * k ≤ length w → i ≤ n → c < i → j < k → 0 < get_or counts c 0 → Mean c j (means_to p k counts w i)
  mean_then zero c j f b l m h = absurd (omega arith)
  mean_then (suc i) c j f b l m h = elim (eq-or-lt_of_le (le_of_suc-le-suc l)) [
    | inl e ↦ subst (λ (z : ℕ). Mean c j (means_to p k counts w (suc z))) e (mean_now c j f (omega arith) m h)
    | inr q ↦
        let g = mean_then i c j f (omega arith) q m h in
        divided (Mean c j) i (row_other p.words n k (means_to p k counts w i) i (quotients i (means_to p k counts w i)) c j (λ e. omega arith) m ∙ g) g
  ]

  pub means_kept : Kept p n k w (means_to p k counts w n)
  means_kept = record { size = means_size n; below = means_below n; between = λ i h l. means_above n i (omega arith) h }

pub held_means : (p : Places) (n k S : ℕ) (x : ℕ → ℕ → Float) (a : ℕ → ℕ) (old : ℕ → ℕ → Float) (w : List Float) (counts : List ℕ) → Fit p n k (length w)
    → Gathered p n k a x (old_distance k S x a old) S w counts → Held p n k (means k S x a old) (means_to p k counts w n) counts
held_means p n k S x a old w counts fit g = record {
  tally = g.tally;
  words = λ c j l m h.
      let t = g.tally c l in
      mean_then p n k counts w n c j (omega arith) (omega arith) l m (omega arith) ∙ rw (lt-ltb 0 (count_to a c S) h, g.sums c j l m, t);
  distortions = λ c l. means_above p n k counts w n (p.distortions + c) (omega arith) (omega arith) ∙ g.distortions c l;
}

-- ---- a donor is split for an empty cell
module _ (p : Places) (n k c e : ℕ) (far : List Float) (norm : Float) (w : List Float) (fit : Fit p n k (length w)) (cn : c < n) (en : e < n) (apart : c ≡ e → ⊥) where
  -- the empty cell's new codeword, and the donor's
  abbrev towards : ℕ → Float
  towards j = add binary64 (get_or w (p.words + c * k + j) nan) (shift (vector_of far j) (get_or w (p.words + c * k + j) nan) norm)

  abbrev filled : List Float
  filled = patched w (p.words + e * k) k towards

  abbrev away : ℕ → Float
  away j = sub binary64 (get_or filled (p.words + c * k + j) nan) (shift (vector_of far j) (get_or filled (p.words + c * k + j) nan) norm)

  abbrev parted : List Float
  parted = patched filled (p.words + c * k) k away

  abbrev cleared : List Float
  cleared = set parted (p.distortions + c) plus_zero

  filled_size : length filled ≡ length w
  filled_size = length-patched w (p.words + e * k) k towards

  parted_size : length parted ≡ length w
  parted_size = length-patched filled (p.words + c * k) k away ∙ filled_size

  cleared_size : length cleared ≡ length w
  cleared_size = length-set parted (p.distortions + c) plus_zero ∙ parted_size

  -- only two distortions and two rows change
  but_distortions : (i : ℕ) → (i ≡ p.distortions + c → ⊥) → (i ≡ p.distortions + e → ⊥) → get_or (split_work p k c e far norm w) i nan ≡ get_or parted i nan
  but_distortions i o q = get_or-set_other cleared (p.distortions + e) i plus_zero nan q ∙ get_or-set_other parted (p.distortions + c) i plus_zero nan o

  not_word : (i j m : ℕ) → i < n → j < k → p.words + (i * k + j) ≡ p.distortions + m → ⊥
  not_word i j m l h q = let r = digits_lt l h in omega arith

  donor-word : (j : ℕ) → j < k
      → get_or (split_work p k c e far norm w) (p.words + (c * k + j)) nan
      ≡ sub binary64 (get_or w (p.words + (c * k + j)) nan) (shift (vector_of far j) (get_or w (p.words + (c * k + j)) nan) norm)
  donor-word j m =
      let s = filled_size in
      but_distortions (p.words + (c * k + j)) (not_word c j c cn m) (not_word c j e cn m) ∙ row_same p.words n k filled c away j (omega arith) cn m
      ∙ ap (λ (z : Float). sub binary64 z (shift (vector_of far j) z norm))
      (ap (λ (z : ℕ). get_or filled z nan) (add_assoc p.words (c * k) j) ∙ row_other p.words n k w e towards c j apart m)

  empty-word : (j : ℕ) → j < k
      → get_or (split_work p k c e far norm w) (p.words + (e * k + j)) nan
      ≡ add binary64 (get_or w (p.words + (c * k + j)) nan) (shift (vector_of far j) (get_or w (p.words + (c * k + j)) nan) norm)
  empty-word j m =
      but_distortions (p.words + (e * k + j)) (not_word e j c en m) (not_word e j e en m)
      ∙ row_other p.words n k filled c away e j (λ q. apart (sym q)) m
      ∙ row_same p.words n k w e towards j (omega arith) en m
      ∙ ap (λ (z : ℕ). add binary64 (get_or w z nan) (shift (vector_of far j) (get_or w z nan) norm)) (add_assoc p.words (c * k) j)

  other_word : (i j : ℕ) → (i ≡ c → ⊥) → (i ≡ e → ⊥) → i < n → j < k → get_or (split_work p k c e far norm w) (p.words + (i * k + j)) nan ≡ get_or w (p.words + (i * k + j)) nan
  other_word i j o q l m =
      but_distortions (p.words + (i * k + j)) (not_word i j c l m) (not_word i j e l m)
      ∙ row_other p.words n k filled c away i j o m
      ∙ row_other p.words n k w e towards i j q m

  donor_distortion : get_or (split_work p k c e far norm w) (p.distortions + c) nan ≡ plus_zero
  donor_distortion =
      let s = parted_size in
      get_or-set_other cleared (p.distortions + e) (p.distortions + c) plus_zero nan (λ q. omega arith) ∙ get_or-set_same parted (p.distortions + c) plus_zero nan (omega arith)

  empty_distortion : get_or (split_work p k c e far norm w) (p.distortions + e) nan ≡ plus_zero
  empty_distortion = let s = cleared_size in get_or-set_same cleared (p.distortions + e) plus_zero nan (omega arith)

  -- the rest, from the end of the words on
  unparted : (i : ℕ) → p.words + n * k ≤ i → get_or parted i nan ≡ get_or w i nan
  unparted i h = row_above p.words n k filled c away i cn h ∙ row_above p.words n k w e towards i en h

  other_distortion : (i : ℕ) → (i ≡ c → ⊥) → (i ≡ e → ⊥) → get_or (split_work p k c e far norm w) (p.distortions + i) nan ≡ get_or w (p.distortions + i) nan
  other_distortion i o q = but_distortions (p.distortions + i) (λ r. omega arith) (λ r. omega arith) ∙ unparted (p.distortions + i) (omega arith)

  pub split_kept : Kept p n k w (split_work p k c e far norm w)
  split_kept = record {
    size = length-set cleared (p.distortions + e) plus_zero ∙ cleared_size;
    below = λ i l.
        but_distortions i (λ q. omega arith) (λ q. omega arith) ∙ row_below p.words n k filled c away i l ∙ row_below p.words n k w e towards i l;
    between = λ i h l. but_distortions i (λ q. omega arith) (λ q. omega arith) ∙ unparted i h;
  }

  module _ (f : ℕ → Float) (st : Cells) (counts : List ℕ) (g : Held p n k st w counts) (size : n ≤ length counts) (plenty : 1 < st.tally c) (far-is : (j : ℕ) → j < k → vector_of far j ≡ f j) where
    split_tally_lem : (i : ℕ) → i < n → get_or (split_counts c e counts) i 0 ≡ (split k f norm st c e).tally i
    split_tally_lem i l = elim (ℕ_discrete i c) [
      | yes q ↦
          rw (q, eq-eqb c c refl)
          (get_or-set_other (set counts c (get_or counts c 0 - 1)) e c 1 0 apart ∙ get_or-set_same counts c (get_or counts c 0 - 1) 0 (omega arith) ∙ ap (λ (z : ℕ). z - 1) (g.tally c cn))
      | no o ↦ elim (ℕ_discrete i e) [
        | yes q ↦ rw (q, ne_eqb e c (λ r. apart (sym r)), eq-eqb e e refl) (get_or-set_same (set counts c (get_or counts c 0 - 1)) e 1 0 (let s = length-set counts c (get_or counts c 0 - 1) in omega arith))
        | no r ↦ rw (ne_eqb i c o, ne_eqb i e r) (get_or-set_other (set counts c (get_or counts c 0 - 1)) e i 1 0 r ∙ get_or-set_other counts c i (get_or counts c 0 - 1) 0 o ∙ g.tally i l)
      ]
    ]

    split_word : (i j : ℕ) → i < n → j < k → 0 < (split k f norm st c e).tally i → get_or (split_work p k c e far norm w) (p.words + (i * k + j)) nan ≡ (split k f norm st c e).word i j
    split_word i j l m h = elim (ℕ_discrete i c) [
      | yes q ↦ rw (q, eq-eqb c c refl) (donor-word j m ∙ rw (g.words c j cn m (omega arith), far-is j m))
      | no o ↦ elim (ℕ_discrete i e) [
        | yes q ↦ rw (q, ne_eqb e c (λ r. apart (sym r)), eq-eqb e e refl) (empty-word j m ∙ rw (g.words c j cn m (omega arith), far-is j m))
        | no r ↦ rw (ne_eqb i c o, ne_eqb i e r) (other_word i j o r l m ∙ g.words i j l m (rw (ne_eqb i c o, ne_eqb i e r) at h))
      ]
    ]

    split_distortion : (i : ℕ) → i < n → get_or (split_work p k c e far norm w) (p.distortions + i) nan ≡ (split k f norm st c e).distortion i
    split_distortion i l = elim (ℕ_discrete i c) [
      | yes q ↦ rw (q, eq-eqb c c refl) donor_distortion
      | no o ↦ elim (ℕ_discrete i e) [
        | yes q ↦ rw (q, ne_eqb e c (λ r. apart (sym r)), eq-eqb e e refl) empty_distortion
        | no r ↦ rw (ne_eqb i c o, ne_eqb i e r) (other_distortion i o r ∙ g.distortions i l)
      ]
    ]

pub held_split : (p : Places) (n k c e : ℕ) (far : List Float) (norm : Float) (w : List Float) (f : ℕ → Float) (st : Cells) (counts : List ℕ) → Fit p n k (length w) → Held p n k st w counts
    → n ≤ length counts → c < n → e < n → (c ≡ e → ⊥) → 1 < st.tally c → ((j : ℕ) → j < k → vector_of far j ≡ f j)
    → Held p n k (split k f norm st c e) (split_work p k c e far norm w) (split_counts c e counts)
held_split p n k c e far norm w f st counts fit g size cn en apart plenty far-is = record {
  tally = split_tally_lem p n k c e far norm w fit cn en apart f st counts g size plenty far-is;
  words = split_word p n k c e far norm w fit cn en apart f st counts g size plenty far-is;
  distortions = split_distortion p n k c e far norm w fit cn en apart f st counts g size plenty far-is;
}

-- the donor found in the work is the cells' own
pub held_donor : (p : Places) (n k : ℕ) (st : Cells) (w : List Float) (counts : List ℕ) → Held p n k st w counts
    → donor_to (λ c. get_or counts c 0) (λ c. get_or w (p.distortions + c) nan) n ≡ donor_to st.tally st.distortion n
held_donor p n k st w counts g = donor_to_ext (λ c. get_or counts c 0) st.tally (λ c. get_or w (p.distortions + c) nan) st.distortion n g.tally g.distortions
