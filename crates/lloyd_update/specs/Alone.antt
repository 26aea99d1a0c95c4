-- Update called alone: its checks in document 01's order, and what it leaves in every lent buffer. Definitions only.
use Rattle.std.specs.Prelude.{ℕ, ◌+◌, ◌*◌, ◌/◌, false, cond, not, leb, List, [], ◌∷◌, ◌++◌, length, drop, replicate, pos, ◌==◌, nat_le, slice_index, Float, Option, None, Some}
use Rattle.std.specs.Float.{fin}
use Rattle.error.specs.Names.{assignment_slice, event_slice, float_work_slice, initial_slice, integer_work_slice, samples_slice}
use Rattle.error.specs.Numbers.{Outcome, completed, refused, and_then, whole, leaves}
use Rattle.slices.specs.First.{first_where}
use Rattle.slices.specs.Limit.{first_outside, bounded}
use Rattle.slices.specs.Lists.{words_of}
use Rattle.profile.specs.declared.EmptyCellPolicy.{EmptyCellPolicy}
use Rattle.lloyd_search.specs.Distance.{row_of}
use Rattle.lloyd_search.specs.Shape.{codebook_shaped, samples_shaped}
use Rattle.lloyd_events.specs.declared.LloydRepairEvent.{LloydRepairEvent}
use Rattle.lloyd_events.specs.Events.{zero_event}
use Rattle.lloyd_cells.specs.Repair.{Terms, Repaired}
use Rattle.lloyd_cells.specs.Update.{updated}

-- what a call of update alone is given, but the contents of work and event slots
pub record Call : Type 0 where
  pub size : ℕ
  pub dim : ℕ
  pub codebook : List Float
  pub samples : List Float
  pub assignments : List ℕ
  pub policy : EmptyCellPolicy
  pub restart : ℕ
  pub iteration : ℕ
  pub float_work : ℕ
  pub integer_work : ℕ
  pub slots : ℕ

-- 2 ^ 48
abbrev pub update_limit : Float
update_limit = fin false 1 (pos 48)

-- 11 at the first assignment that is no cell, with its value and the number of cells
abbrev pub only_cells : List ℕ → ℕ → Option ℕ → Outcome Unit
only_cells cells n None = completed tt
only_cells cells n (Some s) = refused 11 (whole (slice_index cells s) ∷ whole n ∷ [])

-- 18 for the codebook, then the samples; then 11
unfoldable pub value_checks : ℕ → List Float → List Float → List ℕ → Outcome Unit
value_checks n codebook samples assignments =
    bounded initial_slice (first_outside update_limit codebook)
    (bounded samples_slice (first_outside update_limit samples)
    (only_cells assignments n (first_where (λ s. leb n (slice_index assignments s)) (length assignments))))

unfoldable pub update_checks : Call → Outcome Unit
update_checks c =
    let n = c.size in
    let k = c.dim in
    cond (not (codebook_shaped n k (length c.codebook))) (refused 7 (whole initial_slice ∷ []))
    (cond (not (samples_shaped k (length c.samples))) (refused 7 (whole samples_slice ∷ []))
    (cond (not (c.float_work == 2 * (n * k) + 2 * n)) (refused 7 (whole float_work_slice ∷ []))
    (cond (not (c.integer_work == n)) (refused 7 (whole integer_work_slice ∷ []))
    (cond (not (nat_le c.slots 1048576)) (refused 7 (whole event_slice ∷ []))
    (cond (not (length c.assignments == length c.samples / k)) (refused 7 (whole assignment_slice ∷ []))
    (value_checks n c.codebook c.samples c.assignments))))))

abbrev pub terms_of : Call → Terms
terms_of c = record {
  dim = c.dim;
  cells = c.size;
  restart = c.restart;
  iteration = c.iteration;
  free = c.slots;
  shown = c.slots;
}

-- the update itself, once the checks have passed
abbrev pub update_of : Call → Outcome Repaired
update_of c = updated (terms_of c) c.policy (length c.samples / c.dim) (row_of c.dim c.samples)
    (λ s. slice_index c.assignments s) (row_of c.dim c.codebook)

-- what the call comes to
abbrev pub update_alone : Call → Outcome Repaired
update_alone c = and_then (update_checks c) (λ u. update_of c)

-- ---- the buffers afterwards

abbrev pub codebook_after : Call → List Float
codebook_after c = leaves (update_checks c) (update_of c) c.codebook (λ r. words_of c.size c.dim r.cells.word)
    c.codebook

-- work that was lent is zeroed once the update has begun
abbrev pub work_after : {A : Type 0} → A → Call → List A → List A
work_after nought c work =
    leaves (update_checks c) (update_of c) work (λ r. replicate (length work) nought) (replicate (length work) nought)

-- the events stand in order from the first slot on, and the slots after them are left alone
abbrev pub slots_after : Call → List LloydRepairEvent → List LloydRepairEvent
slots_after c slots = leaves (update_checks c) (update_of c) slots (λ r. r.events ++ drop (length r.events) slots)
    (replicate (length slots) zero_event)
