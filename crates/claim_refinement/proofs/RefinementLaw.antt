-- Demand 3 on refinement: `any_refinement`, at the end, for any job.
-- Assumes nothing.
use mathlib.Core.Path.{◌≡◌}
use native.Mathlib.Omega.{arith}
use Rattle.error.specs.Numbers.{completed}
use Rattle.error.proofs.Outcomes.{then_completed}
use Rattle.lloyd_refine.specs.Refine.{Job, restarts_of, iterations_of, refine_checks, restarts_to, refine_of, Best, refinement}
use Rattle.lloyd_refine.proofs.CheckLaw.{checks_passed}
use Rattle.claim_refinement.specs.Refinement.{AcceptedRefinement, AnyRefinement}
use Rattle.claim_refinement.proofs.DonorLaw.{no_donor}
use Rattle.claim_refinement.proofs.CourseLaw.{course_of, best_came, end_came, ran}
use Rattle.claim_refinement.proofs.WinsLaw.{wins}
use Rattle.claim_refinement.proofs.RoundsLaw.{rounds, logged}
use Rattle.claim_refinement.proofs.RefusedLaw.{refused_refinement}

module _ (j : Job) where
  accepted : (b : Best) → refine_checks j ≡ completed tt → restarts_to j (restarts_of j) ≡ completed b → AcceptedRefinement j b
  accepted b checks done =
      let pass = checks_passed j checks in
      let R = restarts_of j in
      record {
        course = course_of j;
        ran = ran j b done;
        wins = wins j pass b done;
        restarts = λ r l. rounds j pass r (iterations_of j) l (best_came j R b done r (omega arith)) _ (end_came j R b done r l);
        logged = logged j pass b checks done;
        written = λ before. rw (checks, done);
      }

  pub refinement_law : (b : Best) → refinement j ≡ completed b → AcceptedRefinement j b
  refinement_law b h = let (u, p, q) = then_completed (refine_checks j) (λ (u : Unit). refine_of j) b h in accepted b p q

  pub any_refinement : AnyRefinement j
  any_refinement = record { accepts = refinement_law; donor = no_donor j; refuses = λ checks n vs. refused_refinement j n vs checks }
