-- The best codebook of each number of restarts has n * k values
-- of at most 2 ^ 48, and its error is finite. Assumes nothing.
use Rattle.std.specs.Prelude.{Some}
use mathlib.Core.Path.{◌≡◌, subst}
use Prim.Native.Nat.{ℕ, zero, suc, ◌≤◌}
use native.Mathlib.Nat.{le_of_lt}
use mathlib.Core.Bool.{Bool, true, false, cond}
use mathlib.Core.List.{List}
use lib.Dec.{T}
use lib.Ieee.{Float, lt}
use lib.Ieee.Scale.{finite}
use Rattle.error.specs.Numbers.{completed}
use Rattle.error.proofs.Outcomes.{completed_same, then_completed}
use Rattle.lloyd_refine.specs.Refine.{Job, restarts_of, iterations_of, Trained, rounds_to, error_of, Best, trained_from, after_restart, restart_on, restarts_to}
use Rattle.lloyd_refine.proofs.CheckLaw.{Passed}
use Rattle.claim_refinement.proofs.StandLaw.{initial-within}
use Rattle.claim_refinement.proofs.TameLaw.{Tame, rounds_tame}
use Rattle.claim_refinement.proofs.WinsLaw.{error_finite}

module _ (j : Job) (pass : Passed j) where
  pub initial_tame : Tame j j.initial
  initial_tame = (pass.initial_length, initial-within j pass)

  -- ---- the best of the start and the first r restarts
  abbrev pub TameBest : Best → Type 0
  TameBest b = Tame j b.codebook × T (finite b.error)

  error_is_finite : (codebook : List Float) → Tame j codebook → T (finite (error_of j codebook))
  error_is_finite codebook (e, h) = (error_finite j pass codebook e h).quotient

  either : (r : ℕ) (b : Best) (t : Trained) → TameBest b → Tame j t.codebook → TameBest (after_restart j r b t)
  either r b t h k = go (lt (error_of j t.codebook) b.error)
    where
      go : (q : Bool) → TameBest (cond q
          (record { codebook = t.codebook; error = error_of j t.codebook; winner = Some r; events = t.events })
          (record { codebook = b.codebook; error = b.error; winner = b.winner; events = t.events }))
      go true = (k, error_is_finite t.codebook k)
      go false = h

  pub best_tame : (r : ℕ) (b : Best) → r ≤ restarts_of j → restarts_to j r ≡ completed b → TameBest b
  unfolding restarts_to
  best_tame zero b l h = subst TameBest (completed_same _ _ h) (initial_tame, error_is_finite j.initial initial_tame)
  best_tame (suc r) b l h =
      let (a, p, q) = then_completed (restarts_to j r) (restart_on j r) b h in
      let (t, o, e) = then_completed (rounds_to j r (trained_from j r a) (iterations_of j)) (λ t. completed (after_restart j r a t)) b q in
      subst TameBest (completed_same _ _ e) (either r a t (best_tame r a (le_of_lt l) p) (rounds_tame j pass r (iterations_of j) a t l o))
