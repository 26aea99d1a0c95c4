-- What demand 3 claims of a refinement: `AnyRefinement`, at the end; proofs/RefinementLaw.antt proves it of every job.
-- It speaks of `refinement`, `round_of`, `start_of`, `error_of`, `report_of`, `codewords_after` and `slots_after`, the
-- definitions for refine's own contract, and of histories as crate claim_history has them.
-- Document 01's terms: the start is candidate 0, the end of restart
-- r is candidate r + 1; the error is measured before narrowing.
-- Definitions only.
use Rattle.std.specs.Prelude.{◌≡◌, ◌⊎◌, ◌↔◌, ℕ, zero, suc, ◌+◌, ◌-◌, ◌*◌, ◌<◌, ◌≤◌, not, List, [], ◌∷◌, T, length, get_or, take, drop, Float, Option, None, Some}
use Rattle.std.specs.Float.{nan, binary64}
use Rattle.std.specs.Float.Ieee.{mul, lt}
use Rattle.std.specs.Float.Ieee.Scale.{finite}
use Rattle.error.specs.Numbers.{Value, Outcome, completed, refused, whole}
use Rattle.ieee.specs.Sum.{sum_to}
use Rattle.slices.specs.Lists.{tabulate}
use Rattle.lloyd_search.specs.Distance.{distance, row_of}
use Rattle.lloyd_search.specs.Nearest.{Least}
use Rattle.lloyd_events.specs.declared.LloydRepairEvent.{LloydRepairEvent}
use Rattle.lloyd_cells.specs.Repair.{Repaired}
use Rattle.lloyd_round.specs.Round.{nearest_cells}
use Rattle.lloyd_update.specs.Alone.{Call, update_checks, update_alone}
use Rattle.lloyd_refine.specs.declared.LloydReport.{LloydReport}
use Rattle.lloyd_refine.specs.Refine.{Job, size_of, dim_of, count_of, restarts_of, iterations_of, Trained, round_of, after_round, rounds_to, start_of, error_of, Best, trained_from, restarts_to, refine_checks, refinement, narrowed, codewords_after, slots_after}
use Rattle.lloyd_refine.specs.Report.{report_of}
use Rattle.claim_history.specs.History.{Request, call_with, after, answers, Tallies, History}

-- ---- the course of a refinement
-- `stand r i` is what stands before round i of restart r: the codebook, and the events of all rounds before, those of
-- earlier restarts too. At i = I it is the end of restart r. `repairs r i` is what round i of restart r comes to.
pub record Course : Type 0 where
  pub stand : ℕ → ℕ → Trained
  pub repairs : ℕ → ℕ → Repaired

-- value i of codeword w, turned by matrix r, the first lent being 1, stored
-- row by row: products and sums rounded, in the order of row i from +0
abbrev pub turned_at : Job → ℕ → ℕ → ℕ → Float
turned_at j r w i = sum_to
    (λ m. mul binary64 (get_or j.matrices ((r - 1) * (dim_of j * dim_of j) + (i * dim_of j + m)) nan)
    (get_or j.initial (w * dim_of j + m) nan)) (dim_of j)

-- it is the course by document 01's rounds, and b has its events
pub record Ran (j : Job) (c : Course) (b : Best) : Type 0 where
  pub starts : (r : ℕ) → r < restarts_of j → (c.stand r 0).codebook ≡ start_of j r
  -- restart 0 starts at the initial codebook, every later one at the initial codebook turned by its matrix
  pub first_start : (c.stand 0 0).codebook ≡ j.initial
  pub later_starts : (r w i : ℕ) → 0 < r → r < restarts_of j → w < size_of j → i < dim_of j
      → get_or (c.stand r 0).codebook (w * dim_of j + i) nan ≡ turned_at j r w i
  pub rounds : (r i : ℕ) → r < restarts_of j → i < iterations_of j
      → round_of j r i (length (c.stand r i).events) (c.stand r i).codebook ≡ completed (c.repairs r i)
  pub next : (r i : ℕ) → r < restarts_of j → i < iterations_of j
      → c.stand r (suc i) ≡ after_round j (c.stand r i) (c.repairs r i)
  -- as the definitions for refine's contract go on from round to round
  pub came : (r i : ℕ) → r < restarts_of j → i ≤ iterations_of j → rounds_to j r (c.stand r 0) i ≡ completed (c.stand r i)
  -- events are gathered from round to round and from restart to restart
  pub first_events : (c.stand 0 0).events ≡ []
  pub more_events : (r : ℕ) → suc r < restarts_of j → (c.stand (suc r) 0).events ≡ (c.stand r (iterations_of j)).events
  pub last_events : (r : ℕ) → suc r ≡ restarts_of j → b.events ≡ (c.stand r (iterations_of j)).events

-- ---- which codebook is returned
-- the start, then the ends of restarts 0, 1, .., R - 1
abbrev pub candidate : Job → Course → ℕ → List Float
candidate j c zero = j.initial
candidate j c (suc r) = (c.stand r (iterations_of j)).codebook

-- the place of the winner among them
abbrev pub place_of : Option ℕ → ℕ
place_of None = 0
place_of (Some r) = suc r

-- the error of candidate p
abbrev pub error_at : Job → Course → ℕ → Float
error_at j c p = error_of j (candidate j c p)

-- of all restarts r is the first of least error, and that is below the start's
pub record FirstOfLeast (j : Job) (c : Course) (r : ℕ) : Type 0 where
  pub below : r < restarts_of j
  pub start_more : T (lt (error_at j c (suc r)) (error_at j c 0))
  pub none_less : (q : ℕ) → q < restarts_of j → T (not (lt (error_at j c (suc q)) (error_at j c (suc r))))
  pub earlier_more : (q : ℕ) → q < r → T (lt (error_at j c (suc r)) (error_at j c (suc q)))

-- of the finite errors of the candidates the least is returned, with its codebook: every
-- other has no less, every earlier one more; and the report that the caller reads says which
pub record Wins (j : Job) (c : Course) (returned : List Float) (report : LloydReport) : Type 0 where
  pub one_of : place_of report.best_restart < suc (restarts_of j)
  pub codebook : returned ≡ candidate j c (place_of report.best_restart)
  pub error : report.best_mse ≡ error_of j returned
  pub start_error : report.init_mse ≡ error_of j j.initial
  pub finite_errors : (p : ℕ) → p < suc (restarts_of j) → T (finite (error_at j c p))
  pub none_less : (p : ℕ) → p < suc (restarts_of j) → T (not (lt (error_at j c p) report.best_mse))
  pub earlier_more : (p : ℕ) → p < place_of report.best_restart → T (lt report.best_mse (error_at j c p))
  -- document 02's K6: the start was kept exactly where no restart's error is below its own
  pub start_kept : (report.best_restart ≡ None)
      ↔ ((q : ℕ) → q < restarts_of j → T (not (lt (error_at j c (suc q)) report.init_mse)))
  -- the two errors tell it too: they are equal exactly there
  pub errors_tell : (report.best_restart ≡ None) ↔ (report.best_mse ≡ report.init_mse)
  -- restart q won exactly where it is the first of least error, below the start's
  pub restart_won : (q : ℕ) → (report.best_restart ≡ Some q) ↔ FirstOfLeast j c q

-- ---- how far a refinement comes
-- t stands before round i of restart r, or at the restart's end where i is I: the earlier restarts and the earlier
-- rounds are completed. What comes later may be refused.
pub record Reached (j : Job) (r i : ℕ) (t : Trained) : Type 0 where
  pub best : Best
  pub restarts : restarts_to j r ≡ completed best
  pub rounds : rounds_to j r (trained_from j r best) i ≡ completed t

-- ---- the rounds of a restart are a history
-- round i of restart r where t stands, as a request to update
-- alone: nearest codewords as assignments, and the slots still free
abbrev pub round_request : Job → ℕ → ℕ → Trained → Request
round_request j r i t = record {
  size = size_of j;
  dim = dim_of j;
  samples = j.samples;
  assignments = nearest_cells (dim_of j) (size_of j) (count_of j) j.samples t.codebook;
  policy = j.profile.empty_cell_policy;
  restart = r;
  iteration = i;
  float_work = 2 * (size_of j * dim_of j) + 2 * size_of j;
  integer_work = size_of j;
  slots = j.slots - length t.events;
}

-- and as the call that it makes there
abbrev pub round_call_at : Job → Course → ℕ → ℕ → Call
round_call_at j c r i = call_with (round_request j r i (c.stand r i)) (c.stand r i).codebook

-- the first i rounds of restart r
abbrev pub requests_to : Job → Course → ℕ → ℕ → List Request
requests_to j c r i = tabulate i (λ m. round_request j r m (c.stand r m))

-- the distance of sample s to codeword w where t stands
abbrev pub to_word : Job → Trained → ℕ → ℕ → Float
to_word j t s w = distance (dim_of j) (row_of (dim_of j) j.samples s) (row_of (dim_of j) t.codebook w)

-- the first n rounds of restart r, all of them completed
pub record Rounds (j : Job) (c : Course) (r n : ℕ) : Type 0 where
  -- the refinement comes to each of them, and to what stands after the last
  pub reached : (i : ℕ) → i ≤ n → Reached j r i (c.stand r i)
  -- from the restart's start the updates leave the codebooks of its course
  pub codebooks : (i : ℕ) → i ≤ n → after (requests_to j c r i) (start_of j r) ≡ (c.stand r i).codebook
  -- the assignment of a sample is the first codeword that none is strictly nearer than
  pub nearest_words : (i s : ℕ) → i ≤ n → s < count_of j
      → let w = get_or (round_request j r i (c.stand r i)).assignments s 0 in
      Least (to_word j (c.stand r i) s) (size_of j) (record { index = w; distance = to_word j (c.stand r i) s w })
  -- each is accepted, with the repairs of its round
  pub accepted : answers (requests_to j c r n) (start_of j r) ≡ tabulate n (λ i. completed (c.repairs r i))
  -- so that all that is claimed of a history holds of them
  pub history : History (requests_to j c r n) (start_of j r)

-- where the refinement is accepted, the events of each round of restart r stand in the slots that it leaves, from the
-- round's first free one on, and the round's book (document 01's term for the tallies) is in order
pub record Logged (j : Job) (c : Course) (r : ℕ) : Type 0 where
  pub events : (i : ℕ) → i < iterations_of j → (slots : List LloydRepairEvent)
      → take (length (c.repairs r i).events) (drop (length (c.stand r i).events) (slots_after j slots))
      ≡ (c.repairs r i).events
  pub tallies : (i : ℕ) → i < iterations_of j → (slots : List LloydRepairEvent)
      → Tallies (round_call_at j c r i) (drop (length (c.stand r i).events) (slots_after j slots))
      (length (c.repairs r i).events)

-- ---- a refused refinement
-- the refusal n, vs of a refinement beside what the update alone comes to: the
-- same 14 or 16; or 19, which there shows the slots still free and here all slots
abbrev pub SameRefusal : Job → Trained → ℕ → List Value → Outcome Repaired → Type 0
SameRefusal j t n vs o =
    (((n ≡ 14) ⊎ (n ≡ 16)) × (o ≡ refused n vs))
    ⊎ ((n ≡ 19) × (vs ≡ whole j.slots ∷ []) × (o ≡ refused 19 (whole (j.slots - length t.events) ∷ [])))

-- ---- what is claimed
-- of an accepted refinement
pub record AcceptedRefinement (j : Job) (b : Best) : Type 0 where
  pub course : Course
  pub ran : Ran j course b
  pub wins : Wins j course b.codebook (report_of j b)
  -- the rounds of each restart are a history, and its events stand in the slots
  pub restarts : (r : ℕ) → r < restarts_of j → Rounds j course r (iterations_of j)
  pub logged : (r : ℕ) → r < restarts_of j → Logged j course r
  -- the caller's codewords become that codebook, narrowed
  pub written : (before : List Float) → codewords_after j before ≡ narrowed b.codebook

-- of one refused after its checks: the rounds that were completed are a history, restart by restart, and it came to a
-- round that update alone refuses too, past its own checks; crate claim_rule says what that refusal means
pub record RefusedRefinement (j : Job) (n : ℕ) (vs : List Value) : Type 0 where
  pub course : Course
  pub in_restart : ℕ
  pub in_round : ℕ
  pub restart_below : in_restart < restarts_of j
  pub round_below : in_round < iterations_of j
  pub restarts : (r : ℕ) → r < in_restart → Rounds j course r (iterations_of j)
  pub rounds : Rounds j course in_restart in_round
  -- with the refused one as the last call
  pub history : History (requests_to j course in_restart (suc in_round)) (start_of j in_restart)
  pub checked : update_checks (round_call_at j course in_restart in_round) ≡ completed tt
  pub refusal : SameRefusal j (course.stand in_restart in_round) n vs
      (update_alone (round_call_at j course in_restart in_round))

-- of any
pub record AnyRefinement (j : Job) : Type 0 where
  pub accepts : (b : Best) → refinement j ≡ completed b → AcceptedRefinement j b
  -- samples are at least as many as codewords, so "no donor" never comes
  pub donor : (vs : List Value) → refinement j ≡ refused 15 vs → ⊥
  pub refuses : refine_checks j ≡ completed tt → (n : ℕ) (vs : List Value) → refinement j ≡ refused n vs
      → RefusedRefinement j n vs
