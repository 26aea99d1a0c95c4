-- How far an update called alone has come. Definitions only.
use Rattle.std.specs.Prelude.{◌≡◌, ℕ, suc, ◌+◌, ◌*◌, ◌/◌, ◌<◌, ◌≤◌, List, [], ◌∷◌, ◌++◌, length, pos, slice_index, slice_index_or, Float, Result}
use Rattle.std.specs.Float.{nan, binary64}
use Rattle.std.specs.Float.Ieee.{of_int}
use Rattle.error.specs.Numbers.{completed, refusal, outcome, and_then}
use Rattle.error.specs.declared.Refusal.{Refusal}
use Rattle.lloyd_search.specs.Distance.{row_of}
use Rattle.lloyd_events.specs.declared.LloydRepairEvent.{LloydRepairEvent}
use Rattle.lloyd_cells.specs.declared.Places.{Places}
use Rattle.lloyd_cells.specs.Cells.{farthest}
use Rattle.lloyd_cells.specs.Repair.{Cells, Repaired, repair_to}
use Rattle.lloyd_cells.specs.Update.{means, farthest_sample, old_distance}
use Rattle.lloyd_cells.specs.Work.{places_at, Gathered}
use Rattle.lloyd_repair.specs.declared.Numbers.{Numbers}
use Rattle.lloyd_repair.specs.declared.Numbers.TheVariants.{InFloats}
use Rattle.lloyd_repair.specs.Running.{Running}
use Rattle.lloyd_update.specs.declared.UpdateTerms.{UpdateTerms}
use Rattle.lloyd_repair.specs.declared.Repair.{Repair}
use Rattle.lloyd_update.specs.declared.Step.{Step}
use Rattle.lloyd_update.specs.declared.Step.TheVariants.{Refused, Made, Stopped}
use Rattle.lloyd_update.specs.Alone.{Call, terms_of, update_checks, update_of, update_alone}

-- Update alone lends 2 * n * k + 2 * n floats: the words, room for the
-- numbers of the farthest samples, the distortions, the farthest distances.
abbrev pub places_of : ℕ → ℕ → Places
places_of n k = places_at 0 (2 * (n * k)) n

abbrev pub numbers_of : ℕ → ℕ → Numbers
numbers_of n k = InFloats (n * k)

-- the call that the arguments make
abbrev pub call_of : UpdateTerms → List Float → ℕ → ℕ → ℕ → Call
call_of t codebook floats integers slots = record {
  size = t.codebook_size;
  dim = t.block_dim;
  codebook = codebook;
  samples = t.samples.now;
  assignments = t.assignments.now;
  policy = t.policy;
  restart = t.restart;
  iteration = t.iteration;
  float_work = floats;
  integer_work = integers;
  slots = slots;
}

-- what a call gives the definitions of an update
abbrev pub samples_of : Call → ℕ
samples_of c = length c.samples / c.dim

abbrev pub sample_of : Call → ℕ → ℕ → Float
sample_of c = row_of c.dim c.samples

abbrev pub cell_of : Call → ℕ → ℕ
cell_of c s = slice_index c.assignments s

abbrev pub old_word_of : Call → ℕ → ℕ → Float
old_word_of c = row_of c.dim c.codebook

abbrev pub start_cells : Call → Cells
start_cells c = means c.dim (samples_of c) (sample_of c) (cell_of c) (old_word_of c)

abbrev pub far_of : Call → ℕ → ℕ → Float
far_of c = farthest_sample c.dim (samples_of c) (sample_of c) (cell_of c) (old_word_of c)

abbrev pub distance_of : Call → ℕ → Float
distance_of c = old_distance c.dim (samples_of c) (sample_of c) (cell_of c) (old_word_of c)

-- the first s samples are added up, and the numbers of the farthest ones noted
pub record Added (c : Call) (s : ℕ) (work : List Float) (counts : List ℕ) : Type 0 where
  pub gathered : Gathered (places_of c.size c.dim) c.size c.dim (cell_of c) (sample_of c)
      (distance_of c) s work counts
  pub numbers : (cell : ℕ) → cell < c.size
      → slice_index_or work (c.size * c.dim + cell) nan
      ≡ of_int binary64 (pos (farthest (cell_of c) (distance_of c) cell s).sample)

-- the cells below `next` have had their turn, which came to r, and the work holds it
pub record Under (c : Call) (next : ℕ) (r : Repaired) (work : List Float) (counts : List ℕ) : Type 0 where
  pub checked : update_checks c ≡ completed tt
  pub repairs : update_of c ≡ repair_to (terms_of c) (far_of c) (start_cells c) c.size
  pub running : Running (places_of c.size c.dim) (numbers_of c.size c.dim) (terms_of c) c.samples (far_of c)
      (start_cells c) next r work counts

-- a repair was made; its event waits to be written after `events`
pub record Going (c : Call) (events : List LloydRepairEvent) (work : List Float) (counts : List ℕ)
    (made : Repair) : Type 0 where
  pub r : Repaired
  pub under : Under c made.next r work counts
  pub last : r.events ≡ events ++ (made.event ∷ [])
  pub room : length events < c.slots

-- the update has come to its end after its checks, and `events` are its events
pub record Ended (c : Call) (events : List LloydRepairEvent) (work : List Float) (counts : List ℕ)
    (answer : Result ℕ Refusal) : Type 0 where
  pub answers : outcome answer ≡ and_then (update_alone c) (λ r. completed (length r.events))
  pub done : (r : Repaired) → update_alone c ≡ completed r → (events ≡ r.events) × Under c c.size r work counts
  pub checked : update_checks c ≡ completed tt

-- one of them, or the checks refused it
abbrev pub UpdateProgress : Call → List LloydRepairEvent → List Float → List ℕ → Step → Type 0
UpdateProgress c events work counts (Refused x) = update_checks c ≡ refusal x
UpdateProgress c events work counts (Made r) = Going c events work counts r
UpdateProgress c events work counts (Stopped a) = Ended c events work counts a

-- the numbers that a call was made with
pub record Matches (c : Call) (t : UpdateTerms) (most : ℕ) : Type 0 where
  pub size : c.size ≡ t.codebook_size
  pub dim : c.dim ≡ t.block_dim
  pub restart : c.restart ≡ t.restart
  pub iteration : c.iteration ≡ t.iteration
  pub samples : c.samples ≡ t.samples.now
  pub slots : c.slots ≡ most

-- some update is going on
pub record ReadyUpdate (t : UpdateTerms) (slots m : ℕ) (work : List Float) (counts : List ℕ) (made : Repair) : Type 0 where
  pub call : Call
  pub events : List LloydRepairEvent
  pub matches : Matches call t slots
  pub going : Going call events work counts made
  pub used : m ≡ suc (length events)

-- the same, at the cell whose turn is next
pub record ReadyAt (t : UpdateTerms) (slots m : ℕ) (work : List Float) (counts : List ℕ) (next : ℕ) : Type 0 where
  pub call : Call
  pub r : Repaired
  pub matches : Matches call t slots
  pub under : Under call next r work counts
  pub used : m ≡ length r.events

-- what the samples of a call that passed its checks can be added to: lengths, cells and a limit
pub record Addable (n k : ℕ) (codebook samples : List Float) (assignments : List ℕ) (work : List Float)
    (counts : List ℕ) : Type 0 where
  pub some : 0 < k
  pub least : k ≤ 256
  pub most : n ≤ 1048576
  pub words : length codebook ≡ n * k
  pub rows : length samples ≡ length assignments * k
  pub few : length assignments ≤ 10000000
  pub cells : (s : ℕ) → s < length assignments → slice_index assignments s < n
  pub floats : length work ≡ 2 * (n * k) + 2 * n
  pub integers : length counts ≡ n
  pub start : (c : ℕ) → c < n → slice_index counts c ≡ 0
