-- What an update is told as the host hands it in, and a refinement's report as it hands it in and gets it back.
-- Definitions only.
use Rattle.std.specs.Prelude.{ℕ, cond, List, [], ◌∷◌, eqb, Float, Option, None, Some}
use Rattle.std.specs.Borrow.{Bor}
use Rattle.error.specs.Numbers.{Value, real, Outcome, completed, refused}
use Rattle.lloyd_update.specs.declared.UpdateTerms.{UpdateTerms}
use Rattle.lloyd_refine.specs.declared.LloydReport.{LloydReport}
use Rattle.ffi_profile.specs.Choices.{policy_at}

-- the terms of these; an unknown number is the policy that repairs nothing
abbrev pub terms_from : Bor (List Float) → Bor (List ℕ) → (n k policy_number restart iteration : ℕ) → UpdateTerms
terms_from samples assignments n k policy_number restart iteration = record {
  samples = samples;
  assignments = assignments;
  codebook_size = n;
  block_dim = k;
  policy = policy_at policy_number;
  restart = restart;
  iteration = iteration;
}

-- whether a restart won
abbrev pub won_of : Option ℕ → ℕ
won_of None = 0
won_of (Some r) = 1

-- its number, and 0 where the start was kept, as the Rust's best_restart has it
abbrev pub number_of : Option ℕ → ℕ
number_of None = 0
number_of (Some r) = r

-- the winner of these two: the number is not read where the start was kept, and what is neither 0 nor 1 is a restart,
-- which can be refused
abbrev pub winner_from : (won number : ℕ) → Option ℕ
winner_from won number = cond (eqb won 0) None (Some number)

-- the report of these members
abbrev pub report_from : (restarts iterations samples : ℕ) (initial best : Float) (winner : Option ℕ)
    (repaired used seed : ℕ) → LloydReport
report_from restarts iterations samples initial best winner repaired used seed = record {
  restarts = restarts;
  iterations = iterations;
  training_samples = samples;
  init_mse = initial;
  best_mse = best;
  best_restart = winner;
  empty_cells_repaired = repaired;
  events_used = used;
  seed = seed;
}

-- its two errors
abbrev pub errors_in : LloydReport → List Value
errors_in r = real r.init_mse ∷ real r.best_mse ∷ []

-- its other members
unfoldable pub members_of : LloydReport → List ℕ
members_of r = r.restarts ∷ r.iterations ∷ r.training_samples ∷ won_of r.best_restart ∷
    number_of r.best_restart ∷ r.empty_cells_repaired ∷ r.events_used ∷ r.seed ∷ []

-- what the room for them holds afterwards
abbrev pub report_after : Outcome LloydReport → List ℕ → List ℕ
report_after (completed r) old = members_of r
report_after (refused n values) old = old
