-- Refinement: its checks in document 01's order, the rounds of a restart,
-- the restarts, and the codebook of the least error. Definitions only.
use Rattle.std.specs.Prelude.{ℕ, zero, suc, ◌+◌, ◌-◌, ◌*◌, ◌/◌, ◌%◌, false, not, cond, List, [], ◌∷◌, ◌++◌, eqb, leb, pos, length, get_or, replicate, take, drop, Float, Option, None, Some}
use Rattle.std.specs.Float.{fin, nan, binary32}
use Rattle.std.specs.Float.Ieee.{lt}
use Rattle.error.specs.Names.{codewords_slice, event_slice, float_work_slice, initial_slice, integer_work_slice, matrix_slice, samples_slice}
use Rattle.error.specs.Numbers.{Outcome, completed, refused, and_then, also, whole, leaves}
use Rattle.slices.specs.Limit.{first_outside, bounded}
use Rattle.slices.specs.Lists.{tabulate, words_of}
use Rattle.narrow.specs.Pack.{narrow_to}
use Rattle.profile.specs.declared.FibQuantProfile.{FibQuantProfile}
use Rattle.profile.specs.Checks.{validity}
use Rattle.rotation.specs.Apply.{applied_at}
use Rattle.lloyd_search.specs.Distance.{row_of}
use Rattle.lloyd_search.specs.Nearest.{mean_error}
use Rattle.lloyd_events.specs.declared.LloydRepairEvent.{LloydRepairEvent}
use Rattle.lloyd_events.specs.Events.{zero_event}
use Rattle.lloyd_cells.specs.Repair.{Terms, Repaired}
use Rattle.lloyd_cells.specs.Update.{updated}
use Rattle.lloyd_round.specs.Round.{cell_of}

-- ---- what a refinement is given, but the contents of the buffers that it writes; of these the lengths
pub record Job : Type 0 where
  pub profile : FibQuantProfile
  pub schema : List ℕ
  pub algorithm : List ℕ
  pub log2 : Float
  pub initial : List Float
  pub samples : List Float
  pub matrices : List Float
  pub codewords : ℕ
  pub float_work : ℕ
  pub integer_work : ℕ
  pub slots : ℕ

-- N, k, S, R, I
abbrev pub size_of : Job → ℕ
size_of j = j.profile.codebook_size

abbrev pub dim_of : Job → ℕ
dim_of j = j.profile.block_dim

abbrev pub count_of : Job → ℕ
count_of j = j.profile.training_samples

abbrev pub restarts_of : Job → ℕ
restarts_of j = j.profile.lloyd_restarts

abbrev pub iterations_of : Job → ℕ
iterations_of j = j.profile.lloyd_iterations

-- ---- the checks

-- 2 ^ 20
abbrev pub refine_limit : Float
refine_limit = fin false 1 (pos 20)

-- how long the lent work is: slices 7 and 8
pub record Room : Type 0 where
  pub floats : ℕ
  pub integers : ℕ

-- document 02's K10: floats for the round's codebook, the best one, the words of the update, and a distortion and a
-- farthest distance for each cell; integers for a count and the number of a farthest sample for each
abbrev pub room_of : Job → Room
room_of j = record { floats = 3 * (size_of j * dim_of j) + 2 * size_of j; integers = 2 * size_of j }

unfoldable pub length_checks : Room → Job → Outcome Unit
length_checks room j =
    let n = size_of j in
    let k = dim_of j in
    cond (not (eqb (length j.initial) (n * k))) (refused 7 (whole initial_slice ∷ []))
    (cond (not (eqb (length j.samples) (count_of j * k))) (refused 7 (whole samples_slice ∷ []))
    (cond (not (eqb (length j.matrices) ((restarts_of j - 1) * (k * k)))) (refused 7 (whole matrix_slice ∷ []))
    (cond (not (eqb j.codewords (n * k))) (refused 7 (whole codewords_slice ∷ []))
    (cond (not (eqb j.float_work room.floats)) (refused 7 (whole float_work_slice ∷ []))
    (cond (not (eqb j.integer_work room.integers)) (refused 7 (whole integer_work_slice ∷ []))
    (cond (not (leb j.slots 1048576)) (refused 7 (whole event_slice ∷ []))
    (completed tt)))))))

-- 18 for the initial codebook, then the samples, then the matrices
unfoldable pub value_checks : Job → Outcome Unit
value_checks j =
    bounded initial_slice (first_outside refine_limit j.initial)
    (bounded samples_slice (first_outside refine_limit j.samples)
    (bounded matrix_slice (first_outside refine_limit j.matrices)
    (completed tt)))

-- all checks, with the lengths of a room
abbrev pub checks_in : Room → Job → Outcome Unit
checks_in room j =
    also (validity j.profile j.schema j.algorithm j.log2) (also (length_checks room j) (value_checks j))

unfoldable pub refine_checks : Job → Outcome Unit
refine_checks j = checks_in (room_of j) j

-- ---- the rounds of a restart

-- round i of restart r, with `used` of the event slots used
abbrev pub round_terms : Job → ℕ → ℕ → ℕ → Terms
round_terms j r i used = record {
  dim = dim_of j;
  cells = size_of j;
  restart = r;
  iteration = i;
  free = j.slots - used;
  shown = j.slots;
}

-- a round gives every sample its nearest codeword, then updates
abbrev pub round_of : Job → ℕ → ℕ → ℕ → List Float → Outcome Repaired
round_of j r i used codebook =
    updated (round_terms j r i used) j.profile.empty_cell_policy (count_of j) (row_of (dim_of j) j.samples)
    (cell_of (dim_of j) (size_of j) (count_of j) j.samples codebook) (row_of (dim_of j) codebook)

-- a codebook, and the events of all rounds before, those of earlier restarts too
pub record Trained : Type 0 where
  pub codebook : List Float
  pub events : List LloydRepairEvent

abbrev pub after_round : Job → Trained → Repaired → Trained
after_round j t u = record { codebook = words_of (size_of j) (dim_of j) u.cells.word; events = t.events ++ u.events }

abbrev pub round_on : Job → ℕ → ℕ → Trained → Outcome Trained
round_on j r i t = and_then (round_of j r i (length t.events) t.codebook) (λ u. completed (after_round j t u))

-- the first i rounds of restart r
unfoldable pub rounds_to : Job → ℕ → Trained → ℕ → Outcome Trained
rounds_to j r t zero = completed t
rounds_to j r t (suc i) = and_then (rounds_to j r t i) (round_on j r i)

-- ---- the restarts

-- matrix r, the first lent being 1, stored row by row
abbrev pub matrix_of : Job → ℕ → List Float
matrix_of j r = take (dim_of j * dim_of j) (drop ((r - 1) * (dim_of j * dim_of j)) j.matrices)

-- codeword c of the initial codebook
abbrev pub initial_word : Job → ℕ → List Float
initial_word j c = take (dim_of j) (drop (c * dim_of j) j.initial)

-- where restart r starts: the initial codebook, rotated by matrix r where r is not 0
abbrev pub rotated : Job → ℕ → List Float
rotated j r = tabulate (size_of j * dim_of j)
    (λ i. applied_at (dim_of j) (matrix_of j r) (initial_word j (i / dim_of j)) (i % dim_of j))

abbrev pub start_of : Job → ℕ → List Float
start_of j r = cond (eqb r 0) j.initial (rotated j r)

-- the mean error of a codebook over the samples
abbrev pub error_of : Job → List Float → Float
error_of j codebook = mean_error (dim_of j) (size_of j) (row_of (dim_of j) codebook) (row_of (dim_of j) j.samples) (count_of j)

-- the best codebook so far with its error, and all events so far
pub record Best : Type 0 where
  pub codebook : List Float
  pub error : Float
  pub winner : Option ℕ
  pub events : List LloydRepairEvent

abbrev pub start_best : Job → Best
start_best j = record { codebook = j.initial; error = error_of j j.initial; winner = None; events = [] }

-- the end t of restart r beside the best before it: a strictly smaller error wins
abbrev pub after_restart : Job → ℕ → Best → Trained → Best
after_restart j r b t = cond (lt (error_of j t.codebook) b.error)
    (record { codebook = t.codebook; error = error_of j t.codebook; winner = Some r; events = t.events })
    (record { codebook = b.codebook; error = b.error; winner = b.winner; events = t.events })

-- restart r, after earlier ones that came to b
abbrev pub trained_from : Job → ℕ → Best → Trained
trained_from j r b = record { codebook = start_of j r; events = b.events }

abbrev pub restart_on : Job → ℕ → Best → Outcome Best
restart_on j r b = and_then (rounds_to j r (trained_from j r b) (iterations_of j)) (λ t. completed (after_restart j r b t))

-- the first r restarts
unfoldable pub restarts_to : Job → ℕ → Outcome Best
restarts_to j zero = completed (start_best j)
restarts_to j (suc r) = and_then (restarts_to j r) (restart_on j r)

-- the refinement itself, once the checks have passed
abbrev pub refine_of : Job → Outcome Best
refine_of j = restarts_to j (restarts_of j)

-- what the call comes to
abbrev pub refinement : Job → Outcome Best
refinement j = and_then (refine_checks j) (λ u. refine_of j)

-- ---- the buffers afterwards

-- codewords narrow to binary32 at the end
abbrev pub narrowed : List Float → List Float
narrowed codebook = tabulate (length codebook) (λ i. narrow_to binary32 (get_or codebook i nan))

abbrev pub codewords_after : Job → List Float → List Float
codewords_after j codewords = leaves (refine_checks j) (refine_of j) codewords (λ b. narrowed b.codebook) codewords

abbrev pub work_after : {A : Type 0} → A → Job → List A → List A
work_after nought j work =
    leaves (refine_checks j) (refine_of j) work (λ b. replicate (length work) nought) (replicate (length work) nought)

abbrev pub slots_after : Job → List LloydRepairEvent → List LloydRepairEvent
slots_after j slots = leaves (refine_checks j) (refine_of j) slots (λ b. b.events ++ drop (length b.events) slots)
    (replicate (length slots) zero_event)
