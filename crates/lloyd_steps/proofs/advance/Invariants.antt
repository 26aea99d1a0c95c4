use Rattle.std.specs.Prelude.{Ok}
use mathlib.Core.Path.{◌≡◌}
use mathlib.Core.List.{List}
use Prim.Native.Nat.{ℕ, suc}
use lib.ListN.{length}
use Rattle.profile.specs.declared.FibQuantProfile.{FibQuantProfile}
use Rattle.lloyd_events.specs.declared.LloydRepairEvent.{LloydRepairEvent}
use Rattle.lloyd_refine.specs.declared.Pause.{Pause}
use Rattle.lloyd_refine.specs.declared.Pause.TheVariants.{RoundOver, At}
use Rattle.lloyd_refine.specs.Refine.{Job}
use Rattle.lloyd_refine.specs.Standing.{Matches}
use Rattle.lloyd_refine.specs.Pauses.{Pausing}
use Rattle.lloyd_steps.specs.Steps.{rounds_left}
use Rattle.lloyd_steps.proofs.advance.Given as goal

-- the turns left
abbrev pub turns_left : FibQuantProfile → Pause → ℕ
turns_left p (RoundOver s) = suc (rounds_left p s)
turns_left p (At x) = 0

abbrev pub invariant-loop-pause : goal.invariant-loop-pause
invariant-loop-pause l = (length l.work ≡ length l.initial.work) × (length l.ints ≡ length l.initial.ints) × ((j : Job) (events : List LloydRepairEvent) → Matches j l.terms → Pausing j events l.initial.work l.initial.ints (Ok l.initial.pause) → Pausing j events l.work l.ints (Ok l.pause))

abbrev pub decreases-loop-pause : goal.decreases-loop-pause
decreases-loop-pause l = turns_left l.terms.given.profile l.pause
