-- How a restart ends, how the next one starts, and how the refinement comes to its end. Assumes nothing.
use Rattle.std.specs.Prelude.{Some, Ok}
use mathlib.Core.Path.{◌≡◌, refl, sym, ap, ◌∙◌, subst}
use Prim.Native.Nat.{ℕ, ◌+◌, ◌-◌, ◌*◌, ◌/◌, ◌%◌, ◌≤◌, ◌<◌}
use native.Mathlib.Nat.{mul-div_cancel, zero-add, mul-le-mul_right}
use native.Mathlib.Numerals.{add-one}
use native.Mathlib.Omega.{arith}
use mathlib.Core.Bool.{Bool, true, false, cond}
use mathlib.Core.List.{List}
use lib.ListN.{length, get_or, take}
use lib.Seq.{ext_get_or, get_or-take, length-take-le}
use lib.Ieee.{Float, nan, lt}
use borrow.Author.Tests.{ne_eqb}
use Rattle.error.specs.Numbers.{Outcome, completed, and_then}
use Rattle.error.proofs.Outcomes.{completed_same}
use Rattle.slices.specs.Lists.{patched}
use Rattle.slices.proofs.ListLaw.{length-patched, patched_inside, patched_above}
use Rattle.slices.proofs.TabulateLaw.{length-tabulate, get_d_tabulate}
use Rattle.rotation.specs.Apply.{applied_at}
use Rattle.lloyd_search.specs.Distance.{row_of}
use Rattle.lloyd_search.specs.Nearest.{mean_error}
use Rattle.lloyd_round.specs.Round.{Holding}
use Rattle.lloyd_refine.specs.declared.RefineState.{RefineState}
use Rattle.lloyd_refine.specs.Refine.{Job, size_of, dim_of, count_of, restarts_of, iterations_of, refine_checks, Trained, rounds_to, matrix_of, initial_word, rotated, start_of, trained_from, error_of, Best, after_restart, restarts_to, refine_of, refinement}
use Rattle.lloyd_refine.specs.Report.{report_of}
use Rattle.lloyd_refine.specs.Standing.{Ended}
use Rattle.lloyd_refine.specs.Pauses.{report_in, with_best}
use Rattle.lloyd_steps.specs.Steps.{AtRound}
use Rattle.lloyd_refine.proofs.CheckLaw.{checks_passed}
use Rattle.lloyd_refine.proofs.EventLaw.{after_events, bests_within}

-- ---- what a passed job's numbers give
module _ (j : Job) (h : refine_checks j ≡ completed tt) where
  pub sample_count_lem : length j.samples / dim_of j ≡ count_of j
  sample_count_lem = let p = checks_passed j h in ap (λ (z : ℕ). z / dim_of j) p.samples_length ∙ mul-div_cancel (count_of j) p.valid.shape.some_block

  pub can_measure : (0 < dim_of j) × (0 < length j.samples / dim_of j) × (length j.samples ≡ length j.samples / dim_of j * dim_of j)
  can_measure =
      let p = checks_passed j h in
      let v = p.valid in
      let c = sample_count_lem in
      (v.shape.some_block, omega (arith, v.shape.book_least, v.settings.samples_least), p.samples_length ∙ ap (λ (z : ℕ). z * dim_of j) (sym c))

  -- the error of a codebook, as it is measured
  pub measured : (codebook : List Float) → mean_error (dim_of j) (size_of j) (row_of (dim_of j) codebook) (row_of (dim_of j) j.samples) (length j.samples / dim_of j) ≡ error_of j codebook
  measured codebook = ap (mean_error (dim_of j) (size_of j) (row_of (dim_of j) codebook) (row_of (dim_of j) j.samples)) sample_count_lem

-- a codebook at the start of the work is its first part
pub held_first : (n k : ℕ) (codebook work : List Float) → n * k ≤ length work → Holding n k 0 codebook work → take (n * k) work ≡ codebook
held_first n k codebook work l q =
    let e = length-take-le (n * k) work l in
    ext_get_or nan (take (n * k) work) codebook (e ∙ sym q.size)
    (λ i m. let b : i < n * k = omega arith in get_or-take (n * k) work i nan b ∙ ap (λ (z : ℕ). get_or work z nan) (sym (zero-add i)) ∙ q.values i b)

-- ---- a restart ends

-- The restarts so far came to b, and its codebook stands in the work.
pub record Kept (j : Job) (r : ℕ) (b : Best) (s : RefineState) (work : List Float) : Type 0 where
  pub floats : length work ≡ j.float_work
  pub bests : restarts_to j r ≡ completed b
  pub kept : Holding (size_of j) (dim_of j) (size_of j * dim_of j) b.codebook work
  pub first : s.next ≡ 0
  pub earlier : s.before ≡ length b.events
  pub made : s.made ≡ 0
  pub init : s.init_mse ≡ error_of j j.initial
  pub best : s.best_mse ≡ b.error
  pub winner : s.best_restart ≡ b.winner

-- the error that keep_better measures, and what it makes of state and work
abbrev pub error_in : Job → List Float → Float
error_in j work = mean_error (dim_of j) (size_of j) (row_of (dim_of j) (take (size_of j * dim_of j) work)) (row_of (dim_of j) j.samples) (length j.samples / dim_of j)

abbrev copied : Job → List Float → List Float
copied j work = patched work (size_of j * dim_of j) (size_of j * dim_of j) (λ i. get_or work (0 + i) nan)

module _ {j : Job} {b : Best} {t : Trained} {s : RefineState} {work : List Float} {ints : List ℕ} (h : AtRound j b t s work ints) (last : s.iteration ≡ iterations_of j) where
  pub room : 2 * (size_of j * dim_of j) ≤ length work
  room = omega (arith, h.floats, (checks_passed j h.checked).floats)

  is_error : error_in j work ≡ error_of j t.codebook
  is_error =
      let r = room in
      ap (λ (z : List Float). mean_error (dim_of j) (size_of j) (row_of (dim_of j) z) (row_of (dim_of j) j.samples) (length j.samples / dim_of j)) (held_first (size_of j) (dim_of j) t.codebook work (omega arith) h.current)
      ∙ measured j h.checked t.codebook

  abbrev after : Best
  after = after_restart j s.restart b t

  bests_after : restarts_to j (s.restart + 1) ≡ completed after
  unfolding restarts_to
  bests_after =
      let e : rounds_to j s.restart (trained_from j s.restart b) (iterations_of j) ≡ completed t = subst (λ (z : ℕ). rounds_to j s.restart (trained_from j s.restart b) z ≡ completed t) last h.rounds in
      rw (add-one s.restart, h.bests, e)

  copied_values : (i : ℕ) → i < size_of j * dim_of j → get_or (copied j work) (size_of j * dim_of j + i) nan ≡ get_or t.codebook i nan
  copied_values i l =
      let r = room in
      patched_inside work (size_of j * dim_of j) (size_of j * dim_of j) (λ m. get_or work (0 + m) nan) i nan (omega arith) l ∙ h.current.values i l

  -- by whether the error is less
  by_test : (z : Bool) → lt (error_in j work) s.best_mse ≡ z → Kept j (s.restart + 1) after (cond z (with_best (error_in j work) s) s) (cond z (copied j work) work)
  by_test true e =
      let q : lt (error_of j t.codebook) b.error ≡ true = ap (λ (x : Float). lt x b.error) (sym is_error) ∙ ap (lt (error_in j work)) (sym h.best) ∙ e in
      let w : after ≡ record { codebook = t.codebook; error = error_of j t.codebook; winner = Some s.restart; events = t.events } = rw q in
      record {
        floats = length-patched work (size_of j * dim_of j) (size_of j * dim_of j) (λ i. get_or work (0 + i) nan) ∙ h.floats;
        bests = bests_after;
        kept = subst (λ (x : Best). Holding (size_of j) (dim_of j) (size_of j * dim_of j) x.codebook (copied j work)) (sym w) (record { size = h.current.size; values = copied_values });
        first = h.first;
        earlier = h.earlier ∙ ap length (sym (after_events j s.restart b t));
        made = h.made;
        init = h.init;
        best = is_error ∙ ap (λ (x : Best). x.error) (sym w);
        winner = ap (λ (x : Best). x.winner) (sym w);
      }
  by_test false e =
      let q : lt (error_of j t.codebook) b.error ≡ false = ap (λ (x : Float). lt x b.error) (sym is_error) ∙ ap (lt (error_in j work)) (sym h.best) ∙ e in
      let w : after ≡ record { codebook = b.codebook; error = b.error; winner = b.winner; events = t.events } = rw q in
      record {
        floats = h.floats;
        bests = bests_after;
        kept = subst (λ (x : Best). Holding (size_of j) (dim_of j) (size_of j * dim_of j) x.codebook work) (sym w) h.kept;
        first = h.first;
        earlier = h.earlier ∙ ap length (sym (after_events j s.restart b t));
        made = h.made;
        init = h.init;
        best = h.best ∙ ap (λ (x : Best). x.error) (sym w);
        winner = h.winner ∙ ap (λ (x : Best). x.winner) (sym w);
      }

  pub restart_ended : (r : RefineState) (new : List Float) → r ≡ cond (lt (error_in j work) s.best_mse) (with_best (error_in j work) s) s → new ≡ cond (lt (error_in j work) s.best_mse) (copied j work) work
      → Kept j (s.restart + 1) after r new
  restart_ended r new p q = rw (p, q) (by_test (lt (error_in j work) s.best_mse) refl)

-- ---- the next restart

-- the state in which restart r begins
abbrev pub started_at : ℕ → RefineState → RefineState
started_at r s = record s { restart = r; iteration = 0 }

-- its number does not matter to what is kept
pub kept_started : {j : Job} {r : ℕ} {b : Best} {s : RefineState} {work : List Float} → Kept j r b s work → Kept j r b (started_at r s) work
kept_started h = record { floats = h.floats; bests = h.bests; kept = h.kept; first = h.first; earlier = h.earlier; made = h.made; init = h.init; best = h.best; winner = h.winner }

pub few_events : {j : Job} {r : ℕ} {b : Best} {s : RefineState} {work : List Float} → Kept j r b s work → refine_checks j ≡ completed tt → s.before ≤ 1048576
few_events {j} {r} {b} h checked = omega (arith, h.earlier, bests_within j r b h.bests, (checks_passed j checked).slots_upto)

module _ {j : Job} {r : ℕ} {b : Best} {s : RefineState} {work : List Float} (h : Kept j r b s work) (checked : refine_checks j ≡ completed tt) (ints : List ℕ) (integers : length ints ≡ j.integer_work) (below : r < restarts_of j) where
  -- a start that stands in the work
  pub starts : (new : List Float) → length new ≡ length work → Holding (size_of j) (dim_of j) 0 (start_of j r) new → ((i : ℕ) → size_of j * dim_of j ≤ i → get_or new i nan ≡ get_or work i nan)
      → AtRound j b (trained_from j r b) (started_at r s) new ints
  unfolding rounds_to
  starts new size current above = record {
    checked = checked;
    floats = size ∙ h.floats;
    integers = integers;
    restart_below = below;
    rounds_upto = omega arith;
    bests = h.bests;
    rounds = refl;
    current = current;
    kept = record { size = h.kept.size; values = λ i m. above (size_of j * dim_of j + i) (omega arith) ∙ h.kept.values i m };
    first = h.first;
    earlier = h.earlier;
    made = h.made;
    init = h.init;
    best = h.best;
    winner = h.winner;
  }

  abbrev rotated_at : ℕ → Float
  rotated_at i = applied_at (dim_of j) (matrix_of j r) (initial_word j (i / dim_of j)) (i % dim_of j)

  pub restart_starts : (0 < r) → (new : List Float) → new ≡ patched work 0 (size_of j * dim_of j) rotated_at → AtRound j b (trained_from j r b) (started_at r s) new ints
  restart_starts some new is =
      let p = checks_passed j checked in
      let n = size_of j * dim_of j in
      let l : n ≤ length work = omega (arith, h.floats, p.floats) in
      let e : start_of j r ≡ rotated j r = ap (λ (z : Bool). cond z j.initial (rotated j r)) (ne_eqb r 0 (λ z. omega arith)) in
      starts new (ap length is ∙ length-patched work 0 n rotated_at)
      (subst (λ (z : List Float). Holding (size_of j) (dim_of j) 0 z new) (sym e)
      (record { size = length-tabulate n rotated_at; values = λ i m. ap (λ (z : List Float). get_or z (0 + i) nan) is ∙ patched_inside work 0 n rotated_at i nan (omega arith) m ∙ sym (get_d_tabulate n rotated_at i nan m) }))
      (λ i m. ap (λ (z : List Float). get_or z i nan) is ∙ patched_above work 0 n rotated_at i nan (omega arith))

  -- its matrix is lent
  pub matrix_lent : 0 < r → r * (dim_of j * dim_of j) ≤ length j.matrices
  matrix_lent some = let m : r ≤ restarts_of j - 1 = omega arith in omega (arith, mul-le-mul_right (dim_of j * dim_of j) m, (checks_passed j checked).matrices_length)

-- ---- the end
module _ {j : Job} {b : Best} {s : RefineState} {work : List Float} (h : Kept j (restarts_of j) b s work) (checked : refine_checks j ≡ completed tt) where
  pub refined : Ended j b.events work (Ok (report_in j.profile s))
  refined =
      let is : refinement j ≡ completed b = ap (λ (o : Outcome Unit). and_then o (λ u. refine_of j)) checked ∙ h.bests in record {
        answers = ap completed same ∙ sym (ap (λ (o : Outcome Best). and_then o (λ x. completed (report_of j x))) is);
        done = λ x e. subst (λ (y : Best). (b.events ≡ y.events) × Holding (size_of j) (dim_of j) (size_of j * dim_of j) y.codebook work) (completed_same b x (sym is ∙ e)) (refl, h.kept);
        checked = checked;
      }
    where
      same : report_in j.profile s ≡ report_of j b
      same = rw (h.init, h.best, h.winner, h.earlier)
