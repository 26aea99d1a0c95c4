-- Errors are finite, and the report of an accepted refinement passes its own test. Assumes nothing.
use Rattle.std.specs.Prelude.{Option, None, Some}
use mathlib.Core.Path.{◌≡◌, refl}
use Prim.Native.Nat.{ℕ, suc, ◌<◌}
use native.Mathlib.Nat.{le_refl}
use native.Mathlib.Omega.{arith}
use mathlib.Core.Bool.{true}
use lib.Dec.{T, eqb, ltb, lt→ltb}
use lib.ListN.{length}
use lib.Ieee.Bits.{is_true}
use lib.Ieee.Scale.{finite}
use borrow.Author.Tests.{eq-eqb}
use Rattle.error.specs.Numbers.{completed}
use Rattle.error.proofs.Outcomes.{then_completed}
use Rattle.profile.proofs.Bytes.{equal_same}
use Rattle.lloyd_refine.specs.Refine.{Job, restarts_of, refine_checks, error_of, Best, refine_of, refinement}
use Rattle.lloyd_refine.specs.Report.{winner_below, report_schema, report_test}
use Rattle.lloyd_refine.proofs.CheckLaw.{checks_passed}
use Rattle.claim_refinement.specs.Refinement.{place_of}
use Rattle.claim_refinement.proofs.RefinementLaw.{refinement_law}
use Rattle.claim_finite_refinement.specs.FiniteRefinement.{FiniteErrors, FiniteReport}
use Rattle.claim_finite_refinement.proofs.BestLaw.{best_tame}
use Rattle.claim_finite_refinement.proofs.FiniteRefinementLaw.{refinement_finite}

pub errors_finite : (j : Job) → refine_checks j ≡ completed tt → FiniteErrors j
errors_finite j h = let f = refinement_finite j h in record { init = f.init.quotient; ends = λ r t l s. (f.ends r t l s).quotient }

same : (n : ℕ) → eqb n n ≡ true
same n = eq-eqb n n refl

-- a winner that is one of the candidates passes the test
one_below : (restarts : ℕ) (w : (Option ℕ)) → place_of w < suc restarts → winner_below restarts w ≡ true
one_below restarts None l = refl
one_below restarts (Some r) l = is_true (ltb r restarts) (lt→ltb r restarts (omega arith))

module _ (j : Job) (b : Best) where
  report : T (finite (error_of j j.initial)) → T (finite b.error) → winner_below (restarts_of j) b.winner ≡ true → FiniteReport j b
  unfolding report_test
  report init best below =
      let p = j.profile in
      record {
        init_mse = init;
        best_mse = best;
        test = rw (equal_same report_schema, same p.lloyd_restarts, same p.lloyd_iterations, same p.training_samples, same p.codebook_seed, below, is_true (finite (error_of j j.initial)) init, is_true (finite b.error) best, same (length b.events));
      }

  pub report_finite : refinement j ≡ completed b → FiniteReport j b
  report_finite h =
      let (u, checks, done) = then_completed (refine_checks j) (λ (u : Unit). refine_of j) b h in
      report (errors_finite j checks).init (best_tame j (checks_passed j checks) (restarts_of j) b (le_refl (restarts_of j)) done).1 (one_below (restarts_of j) b.winner (refinement_law j b h).wins.one_of)
