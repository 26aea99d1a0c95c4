-- What is ready is so for the job that the terms make. Assumes nothing.
use mathlib.Core.Path.{◌≡◌, refl, sym, subst}
use Prim.Native.Nat.{ℕ}
use mathlib.Core.List.{List}
use lib.Ieee.{Float}
use Rattle.error.specs.Numbers.{completed}
use Rattle.lloyd_refine.specs.declared.RefineTerms.{RefineTerms}
use Rattle.lloyd_refine.specs.declared.RefineState.{RefineState}
use Rattle.lloyd_refine.specs.Refine.{Job, refine_checks}
use Rattle.lloyd_refine.specs.Standing.{MatchesRound, Matches}
use Rattle.lloyd_refine.specs.Pauses.{Over}
use Rattle.lloyd_steps.specs.Steps.{AtRound, ReadyRound, ReadyEnd, ReadyOver, ReadyJob}
use Rattle.lloyd_refine.proofs.CheckLaw.{Passed, checks_passed}
use Rattle.lloyd_refine.proofs.TurnLaw.{job_for, round_for, is_job, is_round}

-- the job that the terms make is called with them
pub fits : (j : Job) (terms : RefineTerms) → Matches (job_for j terms) terms
fits j terms = record { round = record { profile = refl; samples = refl; slots = refl }; initial = refl; matrices = refl }

pub fits_round : (j : Job) (terms : RefineTerms) → MatchesRound (round_for j terms) terms
fits_round j terms = record { profile = refl; samples = refl; slots = refl }

module _ {terms : RefineTerms} {work : List Float} {ints : List ℕ} {s : RefineState} where
  module _ (q : ReadyRound terms work ints s) where
    abbrev pub round_job : Job
    round_job = round_for q.job terms

    pub round_stands : AtRound round_job q.b q.t s work ints
    round_stands = subst (λ (z : Job). AtRound z q.b q.t s work ints) (sym (is_round q.matches)) q.standing

  module _ (q : ReadyEnd terms work ints s) where
    abbrev pub end_job : Job
    end_job = job_for q.job terms

    pub end_stands : AtRound end_job q.b q.t s work ints
    end_stands = subst (λ (z : Job). AtRound z q.b q.t s work ints) (sym (is_job q.matches)) q.standing

  module _ (q : ReadyOver terms work ints s) where
    abbrev pub over_job : Job
    over_job = job_for q.job terms

    pub over_stands : Over over_job q.events work ints s
    over_stands = subst (λ (z : Job). Over z q.events work ints s) (sym (is_job q.matches)) q.over

module _ {terms : RefineTerms} {floats integers : ℕ} (q : ReadyJob terms floats integers) where
  abbrev pub first_job : Job
  first_job = job_for q.job terms

  pub first_checked : refine_checks first_job ≡ completed tt
  first_checked = subst (λ (z : Job). refine_checks z ≡ completed tt) (sym (is_job q.matches)) q.checked

  pub first_passed : Passed first_job
  first_passed = checks_passed first_job first_checked
