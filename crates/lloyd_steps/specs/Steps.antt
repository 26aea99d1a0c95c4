-- How a refinement stands between two rounds, and what its steps ask. Definitions only.
use Rattle.std.specs.Prelude.{◌≡◌, ℕ, ◌-◌, ◌*◌, ◌≤◌, ◌<◌, Ok, List, length, Float, None}
use Rattle.error.specs.Numbers.{completed}
use Rattle.profile.specs.declared.FibQuantProfile.{FibQuantProfile}
use Rattle.lloyd_events.specs.declared.LloydRepairEvent.{LloydRepairEvent}
use Rattle.lloyd_round.specs.Round.{Holding}
use Rattle.lloyd_refine.specs.declared.RefineTerms.{RefineTerms}
use Rattle.lloyd_refine.specs.declared.RefineState.{RefineState}
use Rattle.lloyd_refine.specs.declared.Pause.{Pause}
use Rattle.lloyd_refine.specs.Refine.{Job, size_of, dim_of, restarts_of, iterations_of, refine_checks, Trained, rounds_to, trained_from, error_of, Best, restarts_to}
use Rattle.lloyd_refine.specs.Standing.{MatchesRound, Matches}
use Rattle.lloyd_refine.specs.Pauses.{Over, Pausing}

-- how many rounds are left, this one among them
abbrev pub rounds_left : FibQuantProfile → RefineState → ℕ
rounds_left p s = (p.lloyd_restarts - s.restart) * p.lloyd_iterations - s.iteration

-- restart 0 and its round 0, where the initial codebook's error is e
abbrev pub first_state : Float → RefineState
first_state e = record {
  restart = 0;
  iteration = 0;
  next = 0;
  before = 0;
  made = 0;
  init_mse = e;
  best_mse = e;
  best_restart = None;
}

-- Between two rounds: earlier restarts came to b, the rounds of this one to t.
pub record AtRound (j : Job) (b : Best) (t : Trained) (s : RefineState) (work : List Float) (ints : List ℕ) : Type 0 where
  pub checked : refine_checks j ≡ completed tt
  pub floats : length work ≡ j.float_work
  pub integers : length ints ≡ j.integer_work
  pub restart_below : s.restart < restarts_of j
  pub rounds_upto : s.iteration ≤ iterations_of j
  pub bests : restarts_to j s.restart ≡ completed b
  pub rounds : rounds_to j s.restart (trained_from j s.restart b) s.iteration ≡ completed t
  pub current : Holding (size_of j) (dim_of j) 0 t.codebook work
  pub kept : Holding (size_of j) (dim_of j) (size_of j * dim_of j) b.codebook work
  pub first : s.next ≡ 0
  pub earlier : s.before ≡ length t.events
  pub made : s.made ≡ 0
  pub init : s.init_mse ≡ error_of j j.initial
  pub best : s.best_mse ≡ b.error
  pub winner : s.best_restart ≡ b.winner

-- ---- some refinement stands there
pub record ReadyRound (terms : RefineTerms) (work : List Float) (ints : List ℕ) (s : RefineState) : Type 0 where
  pub job : Job
  pub b : Best
  pub t : Trained
  pub matches : MatchesRound job terms
  pub standing : AtRound job b t s work ints
  pub below : s.iteration < terms.given.profile.lloyd_iterations

pub record ReadyOver (terms : RefineTerms) (work : List Float) (ints : List ℕ) (s : RefineState) : Type 0 where
  pub job : Job
  pub events : List LloydRepairEvent
  pub matches : Matches job terms
  pub over : Over job events work ints s

pub record ReadyEnd (terms : RefineTerms) (work : List Float) (ints : List ℕ) (s : RefineState) : Type 0 where
  pub job : Job
  pub b : Best
  pub t : Trained
  pub matches : Matches job terms
  pub standing : AtRound job b t s work ints
  pub last : s.iteration ≡ terms.given.profile.lloyd_iterations

pub record ReadyPause (terms : RefineTerms) (work : List Float) (ints : List ℕ) (q : Pause) : Type 0 where
  pub job : Job
  pub events : List LloydRepairEvent
  pub matches : Matches job terms
  pub stands : Pausing job events work ints (Ok q)

pub record ReadyJob (terms : RefineTerms) (floats integers : ℕ) : Type 0 where
  pub job : Job
  pub matches : Matches job terms
  pub checked : refine_checks job ≡ completed tt
  pub float_work : floats ≡ job.float_work
  pub integer_work : integers ≡ job.integer_work
