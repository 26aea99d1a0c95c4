-- `refine::write_repairs`: where a turn begins. Assumes nothing.
use Rattle.std.proofs.Common.{◌≡◌, ℕ, ◌-◌, Ok, List, length, Float}
use Rattle.error.specs.Numbers.{completed}
use Rattle.lloyd_events.specs.declared.LloydRepairEvent.{LloydRepairEvent}
use Rattle.lloyd_events.proofs.Log.{logged}
use Rattle.lloyd_refine.specs.declared.RefineStep.{RefineStep}
use Rattle.lloyd_refine.specs.Refine.{Job, refine_checks}
use Rattle.lloyd_refine.specs.Standing.{RefineProgress, Matches}
use Rattle.refine.proofs.write_repairs.Given as goal

-- after the repairs of `events`, which stand first in the slots
pub record Turn (j : Job) (slots₀ : List LloydRepairEvent) (work : List Float) (ints : List ℕ) (slots : List LloydRepairEvent) (used : ℕ) (s : RefineStep) : Type 0 where
  pub events : List LloydRepairEvent
  pub progress : RefineProgress j events work ints (Ok s)
  pub is_used : used ≡ length events
  pub is_log : slots ≡ logged events slots₀

abbrev pub invariant-loop-step : goal.invariant-loop-step
invariant-loop-step l = (j : Job) → Matches j l.terms → refine_checks j ≡ completed tt → length l.fn.work ≡ j.float_work → length l.fn.ints ≡ j.integer_work → Turn j l.fn.events l.work l.ints l.events l.used l.step

abbrev pub decreases-loop-step : goal.decreases-loop-step
decreases-loop-step l = l.terms.slots - l.used
