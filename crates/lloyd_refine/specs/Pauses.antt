-- How the steps of a refinement go from round to round and from restart to restart. Definitions only.
use Rattle.std.specs.Prelude.{◌≡◌, ℕ, ◌+◌, List, ◌++◌, Float, Some, Option, None, Result, Ok, Err}
use Rattle.profile.specs.declared.FibQuantProfile.{FibQuantProfile}
use Rattle.lloyd_events.specs.declared.LloydRepairEvent.{LloydRepairEvent}
use Rattle.lloyd_cells.specs.Repair.{Repaired}
use Rattle.error.specs.declared.Refusal.{Refusal}
use Rattle.lloyd_repair.specs.declared.Repair.{Repair}
use Rattle.lloyd_refine.specs.declared.LloydReport.{LloydReport}
use Rattle.lloyd_refine.specs.declared.RefineTerms.{RefineTerms}
use Rattle.lloyd_refine.specs.declared.RefineState.{RefineState}
use Rattle.lloyd_refine.specs.declared.RefineStep.TheVariants.{Made, Done}
use Rattle.lloyd_refine.specs.declared.Pause.{Pause}
use Rattle.lloyd_refine.specs.declared.Pause.TheVariants.{RoundOver, At}
use Rattle.lloyd_refine.specs.Refine.{Job, size_of, Trained, Best}
use Rattle.lloyd_refine.specs.Standing.{InRound, RefineProgress, MatchesRound}

-- the report of what a refinement has found so far
abbrev pub report_in : FibQuantProfile → RefineState → LloydReport
report_in p s = record {
  restarts = p.lloyd_restarts;
  iterations = p.lloyd_iterations;
  training_samples = p.training_samples;
  init_mse = s.init_mse;
  best_mse = s.best_mse;
  best_restart = s.best_restart;
  empty_cells_repaired = s.before;
  events_used = s.before;
  seed = p.codebook_seed;
}

-- the cell whose turn is next, and how many repairs of the round were made
abbrev pub at_cell : ℕ → ℕ → RefineState → RefineState
at_cell next made s = record s { next = next; made = made }

-- what a turn of the repairs that is not refused makes of a state
abbrev pub paused : FibQuantProfile → RefineState → Option Repair → Pause
paused f s (Some x) = At (Made (record { event = x.event; state = at_cell x.next (s.made + 1) s }))
paused f s None = RoundOver (at_cell f.codebook_size s.made s)

-- a state after s, where there is one, stands in its round
abbrev pub InSameRound : RefineState → Result Pause Refusal → Type 0
InSameRound s (Ok (RoundOver t)) = (t.restart ≡ s.restart) × (t.iteration ≡ s.iteration)
InSameRound s (Ok (At (Made m))) = (m.state.restart ≡ s.restart) × (m.state.iteration ≡ s.iteration)
InSameRound s (Ok (At (Done r))) = Unit
InSameRound s (Err x) = Unit

-- this restart's end, of error e, is the best so far
abbrev pub with_best : Float → RefineState → RefineState
with_best e s = record s { best_mse = e; best_restart = Some s.restart }

-- every cell of a round has had its turn, and `events` are all events so far
pub record Over (j : Job) (events : List LloydRepairEvent) (work : List Float) (ints : List ℕ)
    (s : RefineState) : Type 0 where
  pub b : Best
  pub t : Trained
  pub u : Repaired
  pub standing : InRound j b t u s work ints
  pub all : s.next ≡ size_of j
  pub so_far : t.events ++ u.events ≡ events

-- a round is over, or the refinement waits or has stopped
abbrev pub Pausing : Job → List LloydRepairEvent → List Float → List ℕ → Result Pause Refusal → Type 0
Pausing j events work ints (Ok (RoundOver s)) = Over j events work ints s
Pausing j events work ints (Ok (At s)) = RefineProgress j events work ints (Ok s)
Pausing j events work ints (Err x) = RefineProgress j events work ints (Err x)

-- ---- some refinement stands there
pub record ReadyIn (terms : RefineTerms) (work : List Float) (ints : List ℕ) (s : RefineState) : Type 0 where
  pub job : Job
  pub b : Best
  pub t : Trained
  pub u : Repaired
  pub matches : MatchesRound job terms
  pub standing : InRound job b t u s work ints
