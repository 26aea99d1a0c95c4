-- An update over any terms of at most 256 coordinates and any
-- 10,000,000 samples, as a refinement makes it or a call alone.
-- Where samples are at most 2 ^ b, b at most 48, the codewords of cells that are not empty are at most 2 ^ b + e after
-- the turns of e cells, and they never pass 2 ^ 48.
-- Where the old codewords too are at most 2 ^ 48, every arithmetic result is finite. Assumes nothing.
use mathlib.Core.Path.{◌≡◌}
use Prim.Native.Nat.{ℕ, ◌+◌, ◌^◌, ◌≤◌, ◌<◌}
use native.Mathlib.Nat.{le_refl}
use native.Mathlib.Omega.{arith}
use mathlib.Core.Bool.{◌&&◌}
use mathlib.Core.List.{[], ◌∷◌}
use lib.Dec.{ltb}
use lib.Pow.{pow_mono}
use lib.Ieee.{Float}
use borrow.Author.Tests.{lt-ltb}
use Rattle.error.specs.Numbers.{completed, whole}
use Rattle.error.proofs.Outcomes.{passed}
use Rattle.ieee.specs.Bounds.{Upto}
use Rattle.ieee.proofs.Bound.{upto_mono}
use Rattle.profile.specs.declared.EmptyCellPolicy.{EmptyCellPolicy}
use Rattle.lloyd_search.proofs.FiniteLaw.{Bounded}
use Rattle.lloyd_cells.specs.Cells.{count_to, farthest}
use Rattle.lloyd_cells.specs.Repair.{Cells, Terms, Repaired, repair_to}
use Rattle.lloyd_cells.specs.Update.{old_distance, means, farthest_sample, fails_closed, empty_cells, updated}
use Rattle.lloyd_cells.proofs.CellsLaw.{count_to_upto, farthest_within}
use Rattle.lloyd_cells.proofs.TallyLaw.{tallied, tallied_some}
use Rattle.claim_finite.specs.Finite.{FiniteStep, WordsUpto}
use Rattle.claim_finite.proofs.GatherLaw.{cell_mean_upto, finite_means, finite_gathering}
use Rattle.claim_finite.proofs.WordsLaw.{never, by_one, words_after, finite_repairs}

module _ (t : Terms) (S : ℕ) (x : ℕ → ℕ → Float) (a : ℕ → ℕ) (old : ℕ → ℕ → Float) (few : t.dim ≤ 256) (many : S ≤ 10000000) where
  abbrev start : Cells
  start = means t.dim S x a old

  abbrev far : ℕ → ℕ → Float
  far = farthest_sample t.dim S x a old

  -- an accepted update has made all its repairs, and leaves no cell empty
  repairs : (policy : EmptyCellPolicy) (r : Repaired) → updated t policy S x a old ≡ completed r → repair_to t far start t.cells ≡ completed r
  unfolding updated
  repairs policy r h = (passed (fails_closed policy && ltb 0 (empty_cells start.tally t.cells)) 14 (whole (empty_cells start.tally t.cells) ∷ []) _ r h).1

  none_empty : (r : Repaired) → repair_to t far start t.cells ≡ completed r → (c : ℕ) → c < t.cells → 0 < r.cells.tally c
  none_empty r h = tallied_some (tallied t far start t.cells r (le_refl t.cells) h)

  module _ (b : ℕ) (small : b ≤ 48) (samples : (s : ℕ) → s < S → Bounded b t.dim (x s)) where
    means_upto : WordsUpto (2 ^ b) t.dim t.cells start
    means_upto c j l m some = rw (lt-ltb 0 (count_to a c S) some) (cell_mean_upto a (λ s. x s j) c S b (omega arith) many (λ s g. samples s g j m) some)

    far_upto : (c : ℕ) → 1 < start.tally c → Bounded 49 t.dim (far c)
    far_upto c p j m =
        let u = count_to_upto a c S in
        let q = (farthest a (old_distance t.dim S x a old) c S).sample in
        upto_mono (x q j) (2 ^ b) (2 ^ 49) (samples q (farthest_within a (old_distance t.dim S x a old) c S (omega arith)) j m) (pow_mono {i = b} {j = 49} (omega arith))

    -- ---- at most 1 more a turn, for up to 2 ^ 20 cells
    module _ (cells-few : t.cells ≤ 1048576) where
      pub words_upto : (e : ℕ) (r : Repaired) → e ≤ t.cells → repair_to t far start e ≡ completed r → WordsUpto (2 ^ b + e) t.dim t.cells r.cells
      words_upto =
          words_after t far start (λ e. 2 ^ b + e) few (by_one b t.cells small cells-few) far_upto
          (λ c j l m some. upto_mono (start.word c j) (2 ^ b) (2 ^ b + 0) (means_upto c j l m some) (omega arith))

      -- the codebook of an accepted update
      pub updated_upto : (policy : EmptyCellPolicy) (r : Repaired) → updated t policy S x a old ≡ completed r → (c j : ℕ) → c < t.cells → j < t.dim → Upto (r.cells.word c j) (2 ^ b + t.cells)
      updated_upto policy r h c j l m = let g = repairs policy r h in words_upto t.cells r (le_refl t.cells) g c j l m (none_empty r g c l)

    -- ---- 2 ^ 48 is never passed
    start_kept : WordsUpto (2 ^ 48) t.dim t.cells start
    start_kept c j l m some = upto_mono (start.word c j) (2 ^ b) (2 ^ 48) (means_upto c j l m some) (pow_mono small)

    pub words_kept : (e : ℕ) (r : Repaired) → e ≤ t.cells → repair_to t far start e ≡ completed r → WordsUpto (2 ^ 48) t.dim t.cells r.cells
    words_kept = words_after t far start (λ e. 2 ^ 48) few (never t.cells) far_upto start_kept

    pub updated_kept : (policy : EmptyCellPolicy) (r : Repaired) → updated t policy S x a old ≡ completed r → (c j : ℕ) → c < t.cells → j < t.dim → Upto (r.cells.word c j) (2 ^ 48)
    updated_kept policy r h c j l m = let g = repairs policy r h in words_kept t.cells r (le_refl t.cells) g c j l m (none_empty r g c l)

    -- ---- with old codewords of at most 2 ^ 48, and each assignment a cell
    samples_kept : (s : ℕ) → s < S → Bounded 48 t.dim (x s)
    samples_kept s l j m = upto_mono (x s j) (2 ^ b) (2 ^ 48) (samples s l j m) (pow_mono small)

    pub step_finite : ((c : ℕ) → c < t.cells → Bounded 48 t.dim (old c)) → ((s : ℕ) → s < S → a s < t.cells) → FiniteStep t S x a old
    step_finite words cells = record {
      gathered = finite_gathering t.dim t.cells S x a few many samples_kept old words cells;
      divided = finite_means t.dim t.cells S x a few many samples_kept;
      repaired = finite_repairs t far start (λ e. 2 ^ 48) few (never t.cells) far_upto start_kept;
    }
