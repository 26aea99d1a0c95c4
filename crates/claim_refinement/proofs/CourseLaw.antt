-- The course of a refinement: what stands before each of its rounds, and what each comes to. It is document 01's, round
-- after round, as far as the refinement comes.
-- Assumes nothing.
use mathlib.Core.Path.{◌≡◌, refl, sym, ap, ◌∙◌}
use mathlib.Core.Logic.{inl, inr}
use Prim.Native.Nat.{ℕ, zero, suc, ◌+◌, ◌-◌, ◌*◌, ◌/◌, ◌%◌, ◌≤◌, ◌<◌}
use native.Mathlib.Nat.{le_refl, eq-or-lt_of_le, le_of_suc-le-suc, div-eq_of_lt, mod-eq_of_lt, mul-add-div_right, mul-add-mod_self_right}
use native.Mathlib.Omega.{arith}
use mathlib.Core.Bool.{Bool, true, false, cond}
use mathlib.Core.List.{List, []}
use lib.ListN.{length, get_or, drop}
use lib.Seq.{get_or-take, get_or-drop}
use lib.Ieee.{nan, lt}
use borrow.Author.Tests.{ne_eqb}
use Rattle.error.specs.Numbers.{Outcome, completed, refused, and_then}
use Rattle.error.proofs.Outcomes.{completed_same, then_completed}
use Rattle.ieee.proofs.Bound.{sum_to_ext}
use Rattle.slices.proofs.TabulateLaw.{get_d_tabulate}
use Rattle.rotation.specs.Apply.{applied_at}
use Rattle.lloyd_search.proofs.Parts.{row_place}
use Rattle.lloyd_events.specs.declared.LloydRepairEvent.{LloydRepairEvent}
use Rattle.lloyd_cells.specs.Repair.{Repaired}
use Rattle.lloyd_round.specs.Round.{means_of}
use Rattle.lloyd_refine.specs.Refine.{Job, size_of, dim_of, count_of, restarts_of, iterations_of, Trained, round_of, after_round, round_on, rounds_to, matrix_of, initial_word, rotated, start_of, error_of, Best, start_best, trained_from, after_restart, restart_on, restarts_to}
use Rattle.claim_refinement.specs.Refinement.{Course, turned_at, Ran}

-- ---- what a completed outcome holds
module _ {A : Type 0} where
  abbrev held : A → Outcome A → A
  held other (completed x) = x
  held other (refused n vs) = other

  holds : (other : A) (o : Outcome A) (x : A) → o ≡ completed x → o ≡ completed (held other o)
  holds other o x h = h ∙ ap (λ (q : Outcome A). completed (held other q)) (sym h)

-- the values of a start, by those of the matrices and of the initial codebook
turned : (j : Job) (r w i : ℕ) → w < size_of j → i < dim_of j → get_or (rotated j r) (w * dim_of j + i) nan ≡ turned_at j r w i
turned j r w i u v =
    let n = size_of j in
    let k = dim_of j in
    let some : 0 < k = omega arith in
    let word : (w * k + i) / k ≡ w = mul-add-div_right some w i ∙ ap (λ (z : ℕ). w + z) (div-eq_of_lt v) ∙ omega arith in
    let row : (w * k + i) % k ≡ i = mul-add-mod_self_right w k i ∙ mod-eq_of_lt v in
    get_d_tabulate (n * k) (λ m. applied_at k (matrix_of j r) (initial_word j (m / k)) (m % k)) (w * k + i) nan (row_place w n k i (n * k) u v refl)
    ∙ rw (word, row)
    (sum_to_ext _ _ k (λ m l.
    rw (
      get_or-take (k * k) (drop ((r - 1) * (k * k)) j.matrices) (i * k + m) nan (row_place i k k m (k * k) v l refl),
      get_or-drop ((r - 1) * (k * k)) j.matrices (i * k + m) nan,
      get_or-take k (drop (w * k) j.initial) m nan l,
      get_or-drop (w * k) j.initial m nan,
    )))

module _ (j : Job) where
  abbrev R : ℕ
  R = restarts_of j

  abbrev I : ℕ
  I = iterations_of j

  -- what the first r restarts come to
  abbrev pub best_at : ℕ → Best
  best_at r = held (start_best j) (restarts_to j r)

  abbrev pub rounds_at : ℕ → ℕ → Outcome Trained
  rounds_at r i = rounds_to j r (trained_from j r (best_at r)) i

  abbrev pub stand_at : ℕ → ℕ → Trained
  stand_at r i = held (trained_from j r (best_at r)) (rounds_at r i)

  abbrev pub outcome_at : ℕ → ℕ → Outcome Repaired
  outcome_at r i = round_of j r i (length (stand_at r i).events) (stand_at r i).codebook

  abbrev pub repairs_at : ℕ → ℕ → Repaired
  repairs_at r i = held (record { cells = means_of (dim_of j) (size_of j) (count_of j) j.samples j.initial; events = [] }) (outcome_at r i)

  abbrev pub course_of : Course
  course_of = record { stand = stand_at; repairs = repairs_at }

  -- ---- what is completed was completed before
  restarts_before : (n r : ℕ) (b : Best) → r ≤ n → restarts_to j n ≡ completed b → (a : Best) × (restarts_to j r ≡ completed a)
  unfolding restarts_to
  restarts_before zero r b l h = elim (eq-or-lt_of_le l) [ inl e ↦ (b, rw e h) | inr m ↦ absurd (omega arith) ]
  restarts_before (suc n) r b l h = elim (eq-or-lt_of_le l) [
    | inl e ↦ (b, rw e h)
    | inr m ↦ let (a, p, q) = then_completed (restarts_to j n) (restart_on j n) b h in restarts_before n r a (le_of_suc-le-suc m) p
  ]

  rounds_before : (r : ℕ) (t : Trained) (n i : ℕ) (e : Trained) → i ≤ n → rounds_to j r t n ≡ completed e → (s : Trained) × (rounds_to j r t i ≡ completed s)
  unfolding rounds_to
  rounds_before r t zero i e l h = elim (eq-or-lt_of_le l) [ inl q ↦ (e, rw q h) | inr m ↦ absurd (omega arith) ]
  rounds_before r t (suc n) i e l h = elim (eq-or-lt_of_le l) [
    | inl q ↦ (e, rw q h)
    | inr m ↦ let (a, p, q) = then_completed (rounds_to j r t n) (round_on j r n) e h in rounds_before r t n i a (le_of_suc-le-suc m) p
  ]

  same_events : (q : Bool) (x y : Best) (events : List LloydRepairEvent) → x.events ≡ events → y.events ≡ events → (cond q x y).events ≡ events
  same_events true x y events h k = h
  same_events false x y events h k = k

  -- ---- restart r, whose first n rounds are completed
  module _ (r n : ℕ) (e : Trained) (come : rounds_at r n ≡ completed e) where
    pub stand_came : (i : ℕ) → i ≤ n → rounds_at r i ≡ completed (stand_at r i)
    stand_came i m =
        let (s, h) = rounds_before r (trained_from j r (best_at r)) n i e m come in
        holds (trained_from j r (best_at r)) (rounds_at r i) s h

    module _ (i : ℕ) (m : i < n) where
      went : (u : Repaired) × (outcome_at r i ≡ completed u) × (completed (after_round j (stand_at r i) u) ≡ completed (stand_at r (suc i)))
      unfolding rounds_to
      went =
          then_completed (outcome_at r i) (λ u. completed (after_round j (stand_at r i) u)) (stand_at r (suc i))
          (sym (ap (λ (o : Outcome Trained). and_then o (round_on j r i)) (stand_came i (omega arith))) ∙ stand_came (suc i) m)

      pub round_came : outcome_at r i ≡ completed (repairs_at r i)
      round_came = holds _ (outcome_at r i) went.0 went.1

      pub stand_next : stand_at r (suc i) ≡ after_round j (stand_at r i) (repairs_at r i)
      stand_next = sym (completed_same _ _ went.2) ∙ ap (λ (u : Repaired). after_round j (stand_at r i) u) (completed_same _ _ (sym went.1 ∙ round_came))

  -- ---- the first n restarts, all of them completed
  module _ (n : ℕ) (b : Best) (done : restarts_to j n ≡ completed b) where
    pub best_came : (r : ℕ) → r ≤ n → restarts_to j r ≡ completed (best_at r)
    best_came r l = let (a, h) = restarts_before n r b l done in holds (start_best j) (restarts_to j r) a h

    pub best_last : best_at n ≡ b
    best_last = ap (held (start_best j)) done

    module _ (r : ℕ) (l : r < n) where
      -- restart r, from what the earlier ones came to
      restarted : restart_on j r (best_at r) ≡ completed (best_at (suc r))
      unfolding restarts_to
      restarted = sym (ap (λ (o : Outcome Best). and_then o (restart_on j r)) (best_came r (omega arith))) ∙ best_came (suc r) l

      ended : (t : Trained) × (rounds_at r I ≡ completed t) × (completed (after_restart j r (best_at r) t) ≡ completed (best_at (suc r)))
      ended = then_completed (rounds_at r I) (λ t. completed (after_restart j r (best_at r) t)) (best_at (suc r)) restarted

      pub end_came : rounds_at r I ≡ completed (stand_at r I)
      end_came = stand_came r I ended.0 ended.1 I (le_refl I)

      pub best_next : best_at (suc r) ≡ after_restart j r (best_at r) (stand_at r I)
      best_next = sym (completed_same _ _ ended.2) ∙ ap (λ (t : Trained). after_restart j r (best_at r) t) (completed_same _ _ (sym ended.1 ∙ end_came))

      events_next : (best_at (suc r)).events ≡ (stand_at r I).events
      events_next = ap (λ (x : Best). x.events) best_next ∙ same_events (lt (error_of j (stand_at r I).codebook) (best_at r).error) _ _ (stand_at r I).events refl refl

  -- ---- all of them
  module _ (b : Best) (done : restarts_to j R ≡ completed b) where
    starts : (r : ℕ) → r < R → (stand_at r 0).codebook ≡ start_of j r
    unfolding rounds_to
    starts r l = refl

    later_starts : (r w i : ℕ) → 0 < r → r < R → w < size_of j → i < dim_of j → get_or (stand_at r 0).codebook (w * dim_of j + i) nan ≡ turned_at j r w i
    unfolding rounds_to
    later_starts r w i o l u v = rw (ne_eqb r 0 (λ e. omega arith)) (turned j r w i u v)

    more_events : (r : ℕ) → suc r < R → (stand_at (suc r) 0).events ≡ (stand_at r I).events
    unfolding rounds_to
    more_events r l = events_next R b done r (omega arith)

    pub ran : Ran j course_of b
    unfolding rounds_to restarts_to
    ran = record {
      starts = starts;
      first_start = refl;
      later_starts = later_starts;
      rounds = λ r i l m. round_came r I _ (end_came R b done r l) i m;
      next = λ r i l m. stand_next r I _ (end_came R b done r l) i m;
      came = λ r i l m. stand_came r I _ (end_came R b done r l) i m;
      first_events = refl;
      more_events = more_events;
      last_events = λ r e. ap (λ (x : Best). x.events) (sym (best_last R b done) ∙ ap best_at (sym e)) ∙ events_next R b done r (rw (← e) (le_refl (suc r)));
    }
