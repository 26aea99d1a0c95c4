-- Where a refinement stands between two steps, and what its work then holds. Definitions only.
use Rattle.std.specs.Prelude.{◌≡◌, ℕ, ◌*◌, ◌<◌, List, [], ◌∷◌, ◌++◌, length, Float, Result, Ok, Err}
use Rattle.error.specs.Numbers.{completed, and_then, outcome}
use Rattle.profile.specs.declared.FibQuantProfile.{FibQuantProfile}
use Rattle.lloyd_events.specs.declared.LloydRepairEvent.{LloydRepairEvent}
use Rattle.lloyd_cells.specs.Repair.{Cells, Repaired, repair_to}
use Rattle.lloyd_repair.specs.Running.{Running}
use Rattle.lloyd_round.specs.Round.{means_of, far_of, places_of, numbers_of, Holding}
use Rattle.lloyd_refine.specs.declared.RefineTerms.{RefineTerms}
use Rattle.lloyd_refine.specs.declared.RefineState.{RefineState}
use Rattle.lloyd_refine.specs.declared.RefineRepair.{RefineRepair}
use Rattle.lloyd_refine.specs.declared.RefineStep.{RefineStep}
use Rattle.lloyd_refine.specs.declared.RefineStep.TheVariants.{Made, Done}
use Rattle.lloyd_refine.specs.declared.LloydReport.{LloydReport}
use Rattle.error.specs.declared.Refusal.{Refusal}
use Rattle.lloyd_refine.specs.Refine.{Job, size_of, dim_of, count_of, restarts_of, iterations_of, refine_checks, round_terms, round_of, Trained, rounds_to, trained_from, error_of, Best, restarts_to, refinement}
use Rattle.lloyd_refine.specs.Report.{report_of}

-- the job that the arguments make
abbrev pub job_of : FibQuantProfile → List ℕ → List ℕ → Float → List Float → List Float → List Float → ℕ → ℕ → ℕ → ℕ → Job
job_of profile schema algorithm log2 initial samples matrices codewords floats integers slots = record {
  profile = profile;
  schema = schema;
  algorithm = algorithm;
  log2 = log2;
  initial = initial;
  samples = samples;
  matrices = matrices;
  codewords = codewords;
  float_work = floats;
  integer_work = integers;
  slots = slots;
}

-- the job of what a refinement is told, and of the lengths of its buffers
abbrev pub job_told : RefineTerms → ℕ → ℕ → ℕ → Job
job_told t codewords floats integers =
    job_of t.given.profile t.given.schema.now t.given.rotation_algorithm.now t.given.log2 t.initial.now t.samples.now t.matrices.now codewords floats integers t.slots

-- what the update of a round over a codebook starts from
abbrev pub round_means : Job → List Float → Cells
round_means j = means_of (dim_of j) (size_of j) (count_of j) j.samples

abbrev pub round_far : Job → List Float → ℕ → ℕ → Float
round_far j = far_of (dim_of j) (size_of j) (count_of j) j.samples

-- The refinement stands in a round: earlier restarts came to b, earlier
-- rounds of this restart to t, the repairs of this round so far to u.
pub record InRound (j : Job) (b : Best) (t : Trained) (u : Repaired) (s : RefineState) (work : List Float)
    (ints : List ℕ) : Type 0 where
  pub checked : refine_checks j ≡ completed tt
  pub floats : length work ≡ j.float_work
  pub integers : length ints ≡ j.integer_work
  pub restart_below : s.restart < restarts_of j
  pub round_below : s.iteration < iterations_of j
  pub bests : restarts_to j s.restart ≡ completed b
  pub rounds : rounds_to j s.restart (trained_from j s.restart b) s.iteration ≡ completed t
  pub repairs : round_of j s.restart s.iteration (length t.events) t.codebook
      ≡ repair_to (round_terms j s.restart s.iteration (length t.events)) (round_far j t.codebook)
      (round_means j t.codebook) (size_of j)
  pub running : Running (places_of (size_of j) (dim_of j)) (numbers_of (size_of j))
      (round_terms j s.restart s.iteration (length t.events)) j.samples (round_far j t.codebook)
      (round_means j t.codebook) s.next u work ints
  pub current : Holding (size_of j) (dim_of j) 0 t.codebook work
  pub kept : Holding (size_of j) (dim_of j) (size_of j * dim_of j) b.codebook work
  pub earlier : s.before ≡ length t.events
  pub made : s.made ≡ length u.events
  pub init : s.init_mse ≡ error_of j j.initial
  pub best : s.best_mse ≡ b.error
  pub winner : s.best_restart ≡ b.winner

-- a repair was made; its event waits to be written after `events`
pub record Going (j : Job) (events : List LloydRepairEvent) (work : List Float) (ints : List ℕ)
    (made : RefineRepair) : Type 0 where
  pub b : Best
  pub t : Trained
  pub u : Repaired
  pub standing : InRound j b t u made.state work ints
  pub last : t.events ++ u.events ≡ events ++ (made.event ∷ [])
  pub room : length events < j.slots

-- the refinement has come to its end after its checks, and `events` are its events
pub record Ended (j : Job) (events : List LloydRepairEvent) (work : List Float)
    (answer : Result LloydReport Refusal) : Type 0 where
  pub answers : outcome answer ≡ and_then (refinement j) (λ b. completed (report_of j b))
  pub done : (b : Best) → refinement j ≡ completed b → (events ≡ b.events)
      × Holding (size_of j) (dim_of j) (size_of j * dim_of j) b.codebook work
  pub checked : refine_checks j ≡ completed tt

-- either
abbrev pub RefineProgress : Job → List LloydRepairEvent → List Float → List ℕ → Result RefineStep Refusal → Type 0
RefineProgress j events work ints (Ok (Made m)) = Going j events work ints m
RefineProgress j events work ints (Ok (Done r)) = Ended j events work (Ok r)
RefineProgress j events work ints (Err x) = Ended j events work (Err x)

-- what a job was called with, as far as its rounds read it
pub record MatchesRound (j : Job) (terms : RefineTerms) : Type 0 where
  pub profile : j.profile ≡ terms.given.profile
  pub samples : j.samples ≡ terms.samples.now
  pub slots : j.slots ≡ terms.slots

-- what a job was called with
pub record Matches (j : Job) (terms : RefineTerms) : Type 0 where
  pub round : MatchesRound j terms
  pub initial : j.initial ≡ terms.initial.now
  pub matrices : j.matrices ≡ terms.matrices.now

-- some refinement is going on
pub record ReadyRefine (terms : RefineTerms) (work : List Float) (ints : List ℕ) (made : RefineRepair) : Type 0 where
  pub job : Job
  pub events : List LloydRepairEvent
  pub matches : Matches job terms
  pub going : Going job events work ints made
