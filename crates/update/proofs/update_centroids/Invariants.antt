-- `update::update_centroids`: where a turn begins. Assumes nothing.
use Rattle.std.proofs.Common.{◌≡◌, ℕ, ◌-◌, List, [], length, Float}
use Rattle.lloyd_events.specs.declared.LloydRepairEvent.{LloydRepairEvent}
use Rattle.lloyd_events.proofs.Log.{logged}
use Rattle.error.specs.declared.Refusal.{Refusal}
use Rattle.lloyd_update.specs.declared.Step.{Step}
use Rattle.lloyd_update.specs.declared.Step.TheVariants.{Refused}
use Rattle.lloyd_update.specs.Alone.{Call}
use Rattle.lloyd_update.specs.Progress.{call_of, UpdateProgress}
use Rattle.update.proofs.update_centroids.Given as goal

-- after the repairs of `events`, which stand first in the slots
pub record Turn (c : Call) (work₀ : List Float) (counts₀ : List ℕ) (slots₀ : List LloydRepairEvent)
    (work : List Float) (counts : List ℕ) (slots : List LloydRepairEvent) (used : ℕ) (s : Step) : Type 0 where
  pub events : List LloydRepairEvent
  pub progress : UpdateProgress c events work counts s
  pub early : (x : Refusal) → s ≡ Refused x → (work ≡ work₀) × (counts ≡ counts₀) × (events ≡ [])
  pub is_used : used ≡ length events
  pub is_log : slots ≡ logged events slots₀

abbrev pub invariant-loop-s : goal.invariant-loop-s
invariant-loop-s l =
    Turn (call_of l.t l.fn.codebook (length l.fn.work) (length l.fn.counts) (length l.fn.events)) l.fn.work l.fn.counts l.fn.events l.work l.counts l.events l.used l.s

abbrev pub decreases-loop-s : goal.decreases-loop-s
decreases-loop-s l = l.slots - l.used
