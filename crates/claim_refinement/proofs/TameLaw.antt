-- Every codebook that a refinement reaches has n * k values of at most 2 ^ 48, whatever comes later. Assumes nothing.
use Rattle.std.specs.Prelude.{None}
use mathlib.Core.Path.{◌≡◌, subst}
use Prim.Native.Nat.{ℕ, zero, suc, ◌*◌, ◌≤◌, ◌<◌}
use mathlib.Core.List.{List}
use lib.Dec.{lit≤}
use lib.ListN.{length}
use lib.Ieee.{Float}
use Rattle.error.specs.Numbers.{completed}
use Rattle.error.proofs.Outcomes.{completed_same, then_completed}
use Rattle.slices.specs.Limit.{first_outside}
use Rattle.slices.proofs.TabulateLaw.{length-tabulate}
use Rattle.lloyd_search.specs.Distance.{row_of}
use Rattle.lloyd_cells.specs.Repair.{Repaired}
use Rattle.lloyd_round.specs.Round.{cell_of}
use Rattle.lloyd_update.specs.Alone.{update_limit}
use Rattle.lloyd_refine.specs.Refine.{Job, size_of, dim_of, count_of, restarts_of, iterations_of, round_terms, round_of, Trained, after_round, round_on, rounds_to, Best, trained_from, restarts_to}
use Rattle.lloyd_refine.proofs.CheckLaw.{Passed}
use Rattle.claim_finite.proofs.StepLaw.{updated_kept}
use Rattle.claim_refinement.specs.Refinement.{Reached}
use Rattle.claim_refinement.proofs.CourseLaw.{best_at, stand_at, stand_came, end_came}
use Rattle.claim_refinement.proofs.StandLaw.{rows_bounded, words_within, samples-within, start_length, start_within}

-- n codewords of k coordinates, each value at most 2 ^ 48
abbrev pub Tame : Job → List Float → Type 0
Tame j codebook = (length codebook ≡ size_of j * dim_of j) × (first_outside update_limit codebook ≡ None)

module _ (j : Job) (pass : Passed j) where
  -- what a completed round leaves, from whatever codebook
  round_tame : (r i : ℕ) (t : Trained) (u : Repaired) → round_of j r i (length t.events) t.codebook ≡ completed u → Tame j (after_round j t u).codebook
  round_tame r i t u h =
      let n = size_of j in
      let k = dim_of j in
      let shape = pass.valid.shape in (
        length-tabulate (n * k) _,
        words_within n k u.cells.word shape.some_block
            (updated_kept (round_terms j r i (length t.events)) (count_of j) (row_of k j.samples) (cell_of k n (count_of j) j.samples t.codebook) (row_of k t.codebook) shape.block_most pass.valid.settings.samples_most 48 (lit≤ tt)
            (rows_bounded 48 (count_of j) k j.samples (samples-within j pass) pass.samples_length) j.profile.empty_cell_policy u h),
      )

  pub rounds_tame : (r i : ℕ) (b : Best) (t : Trained) → r < restarts_of j → rounds_to j r (trained_from j r b) i ≡ completed t → Tame j t.codebook
  unfolding rounds_to
  rounds_tame r zero b t l h = subst (λ (x : Trained). Tame j x.codebook) (completed_same _ _ h) (start_length j pass r, start_within j pass r l)
  rounds_tame r (suc i) b t l h =
      let (s, p, q) = then_completed (rounds_to j r (trained_from j r b) i) (round_on j r i) t h in
      let (u, o, e) = then_completed (round_of j r i (length s.events) s.codebook) (λ u. completed (after_round j s u)) t q in
      subst (λ (x : Trained). Tame j x.codebook) (completed_same _ _ e) (round_tame r i s u o)

  pub reached_tame : (r i : ℕ) (t : Trained) → r < restarts_of j → Reached j r i t → Tame j t.codebook
  reached_tame r i t l h = rounds_tame r i h.best t l h.rounds

  -- in an accepted refinement, what stands before each round and at the end
  pub stand_tame : (b : Best) → restarts_to j (restarts_of j) ≡ completed b → (r i : ℕ) → r < restarts_of j → i ≤ iterations_of j → Tame j (stand_at j r i).codebook
  stand_tame b done r i l m = rounds_tame r i (best_at j r) (stand_at j r i) l (stand_came j r (iterations_of j) _ (end_came j (restarts_of j) b done r l) i m)
