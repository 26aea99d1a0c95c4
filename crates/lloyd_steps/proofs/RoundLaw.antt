-- How a round begins, and how it ends. Assumes nothing.
use Rattle.std.specs.Prelude.{Err}
use mathlib.Core.Path.{◌≡◌, refl, sym, ap, ◌∙◌, subst}
use Prim.Native.Nat.{ℕ, ◌+◌, ◌*◌, ◌/◌, ◌%◌, ◌≤◌, ◌<◌}
use native.Mathlib.Nat.{mod-lt, div-add-mod', div-lt_iff_lt-mul}
use native.Mathlib.Numerals.{add-one}
use native.Mathlib.Omega.{arith}
use mathlib.Core.List.{List, [], ◌∷◌}
use lib.ListN.{length, get_or, take, length-append}
use lib.Seq.{get_or-take, length-take-le}
use lib.Ieee.{Float, nan}
use borrow.Author.Tests.{lt-ltb, le-ltb}
use Rattle.error.specs.declared.Refusal.TheVariants.{EmptyCells}
use Rattle.error.specs.Numbers.{Outcome, completed, refused, and_then, whole}
use Rattle.slices.specs.Lists.{patched, words_of}
use Rattle.slices.proofs.ListLaw.{length-patched, patched_inside, patched_above}
use Rattle.slices.proofs.TabulateLaw.{length-tabulate, get_d_tabulate}
use Rattle.profile.specs.declared.EmptyCellPolicy.{EmptyCellPolicy}
use Rattle.profile.specs.declared.EmptyCellPolicy.TheVariants.{SplitHighestDistortion, FailClosed}
use Rattle.lloyd_cells.specs.Cells.{count_to}
use Rattle.lloyd_cells.specs.Repair.{Repaired, repair_to}
use Rattle.lloyd_cells.specs.Update.{empty_cells, updated}
use Rattle.lloyd_cells.proofs.CellsLaw.{count_to_ext}
use Rattle.lloyd_cells.proofs.TallyLaw.{tallied, tallied_some}
use Rattle.lloyd_repair.specs.Running.{Running}
use Rattle.lloyd_round.specs.Round.{places_of, numbers_of, Holding, Roomy, AtFirst}
use Rattle.lloyd_refine.specs.declared.RefineState.{RefineState}
use Rattle.lloyd_refine.specs.Refine.{Job, size_of, dim_of, count_of, iterations_of, round_terms, round_of, Trained, after_round, rounds_to, trained_from, Best}
use Rattle.lloyd_refine.specs.Standing.{round_means, round_far, InRound, Ended}
use Rattle.lloyd_steps.specs.Steps.{AtRound}
use Rattle.lloyd_refine.proofs.CheckLaw.{checks_passed}
use Rattle.lloyd_refine.proofs.EventLaw.{refused_by}
use Rattle.lloyd_refine.proofs.TurnLaw.{not_refined}

-- ---- the policy for empty cells
module _ (j : Job) (r i used : ℕ) (codebook : List Float) where
  abbrev repairs_of : Outcome Repaired
  repairs_of = repair_to (round_terms j r i used) (round_far j codebook) (round_means j codebook) (size_of j)

  abbrev empty_of : ℕ
  empty_of = empty_cells (round_means j codebook).tally (size_of j)

  split_round : j.profile.empty_cell_policy ≡ SplitHighestDistortion → round_of j r i used codebook ≡ repairs_of
  unfolding updated
  split_round h = rw h

  none_empty : empty_of ≤ 0 → j.profile.empty_cell_policy ≡ FailClosed → round_of j r i used codebook ≡ repairs_of
  unfolding updated
  none_empty l h = rw (h, le-ltb 0 empty_of l)

  some_empty : 0 < empty_of → j.profile.empty_cell_policy ≡ FailClosed → round_of j r i used codebook ≡ refused 14 (whole empty_of ∷ [])
  unfolding updated
  some_empty l h = rw (h, lt-ltb 0 empty_of l)

  -- the repairs come unless the policy forbids empty cells and there are some
  open_round : (empty : ℕ) → empty ≡ empty_of → (j.profile.empty_cell_policy ≡ FailClosed → empty ≤ 0) → round_of j r i used codebook ≡ repairs_of
  open_round empty e l = go j.profile.empty_cell_policy refl
    where
      go : (p : EmptyCellPolicy) → j.profile.empty_cell_policy ≡ p → round_of j r i used codebook ≡ repairs_of
      go SplitHighestDistortion h = split_round h
      go FailClosed h = none_empty (subst (λ (z : ℕ). z ≤ 0) e (l h)) h

  closed_refuses : (empty : ℕ) → empty ≡ empty_of → 0 < empty → j.profile.empty_cell_policy ≡ FailClosed → round_of j r i used codebook ≡ refused 14 (whole empty ∷ [])
  closed_refuses empty e l h = some_empty (subst (λ (z : ℕ). 0 < z) e l) h ∙ ap (λ (z : ℕ). refused 14 (whole z ∷ [])) (sym e)

-- no repair has been made yet
abbrev pub unrepaired : Job → List Float → Repaired
unrepaired j codebook = record { cells = round_means j codebook; events = [] }

-- ---- a round begins
module _ {j : Job} {b : Best} {t : Trained} {s : RefineState} {work : List Float} {ints : List ℕ} (h : AtRound j b t s work ints) where
  pub roomy : Roomy (size_of j) (dim_of j) (count_of j) j.samples work ints
  roomy =
      let p = checks_passed j h.checked in
      let v = p.valid in
      record {
        some = v.shape.some_block;
        least = v.shape.block_most;
        any = omega (arith, v.shape.book_least);
        most = v.shape.book_most;
        rows = p.samples_length;
        few = v.settings.samples_most;
        floats = h.floats ∙ p.floats;
        integers = h.integers ∙ p.integers;
      }

  module _ (after : List Float) (left : List ℕ) (size : length after ≡ length work) (below : (i : ℕ) → i < 2 * (size_of j * dim_of j) → get_or after i nan ≡ get_or work i nan) (same : length left ≡ length ints)
      (first : AtFirst (dim_of j) (size_of j) (count_of j) j.samples t.codebook (round_terms j s.restart s.iteration (length t.events)) after left) where
    still : (at : ℕ) (codebook : List Float) → at ≤ size_of j * dim_of j → Holding (size_of j) (dim_of j) at codebook work → Holding (size_of j) (dim_of j) at codebook after
    still at codebook l q = record { size = q.size; values = λ i m. below (at + i) (omega arith) ∙ q.values i m }

    counted : (empty : ℕ) → empty ≡ count_to (λ i. get_or (take (size_of j) left) i 0) 0 (length (take (size_of j) left)) → empty ≡ empty_of j s.restart s.iteration (length t.events) t.codebook
    counted empty e =
        e ∙ ap (count_to (λ i. get_or (take (size_of j) left) i 0) 0) (length-take-le (size_of j) left first.counts)
        ∙ count_to_ext (λ i. get_or (take (size_of j) left) i 0) (round_means j t.codebook).tally 0 (size_of j) (λ i l. get_or-take (size_of j) left i 0 l ∙ first.held.tally i l)

    pub in_round : s.iteration < iterations_of j → (empty : ℕ) → empty ≡ count_to (λ i. get_or (take (size_of j) left) i 0) 0 (length (take (size_of j) left)) → (j.profile.empty_cell_policy ≡ FailClosed → empty ≤ 0)
        → InRound j b t (unrepaired j t.codebook) s after left
    in_round l empty e allowed = record {
      checked = h.checked;
      floats = size ∙ h.floats;
      integers = same ∙ h.integers;
      restart_below = h.restart_below;
      round_below = l;
      bests = h.bests;
      rounds = h.rounds;
      repairs = open_round j s.restart s.iteration (length t.events) t.codebook empty (counted empty e) allowed;
      running =
          subst (λ (z : ℕ). Running (places_of (size_of j) (dim_of j)) (numbers_of (size_of j)) (round_terms j s.restart s.iteration (length t.events)) j.samples (round_far j t.codebook) (round_means j t.codebook) z (unrepaired j t.codebook) after left) (sym h.first) first;
      current = still 0 t.codebook (omega arith) h.current;
      kept = still (size_of j * dim_of j) b.codebook (omega arith) h.kept;
      earlier = h.earlier;
      made = h.made;
      init = h.init;
      best = h.best;
      winner = h.winner;
    }

    -- or it is refused, as its policy forbids empty cells
    pub closed : s.iteration < iterations_of j → (empty : ℕ) → empty ≡ count_to (λ i. get_or (take (size_of j) left) i 0) 0 (length (take (size_of j) left)) → 0 < empty → j.profile.empty_cell_policy ≡ FailClosed
        → Ended j t.events after (Err (EmptyCells empty))
    closed l empty e some policy =
        not_refined j t.events after (EmptyCells empty) h.checked
        (refused_by j (EmptyCells empty) s.restart s.iteration b t h.checked h.restart_below l h.bests h.rounds
        (closed_refuses j s.restart s.iteration (length t.events) t.codebook empty (counted empty e) some policy))

-- ---- a round ends

-- the state after a round
abbrev pub ended : RefineState → RefineState
ended s = record s { iteration = s.iteration + 1; next = 0; before = s.before + s.made; made = 0 }

module _ {j : Job} {b : Best} {t : Trained} {u : Repaired} {s : RefineState} {work : List Float} {ints : List ℕ} (h : InRound j b t u s work ints) (all : s.next ≡ size_of j) where
  came : repairs_of j s.restart s.iteration (length t.events) t.codebook ≡ completed u
  came = ap (repair_to (round_terms j s.restart s.iteration (length t.events)) (round_far j t.codebook) (round_means j t.codebook)) (sym all) ∙ h.running.came

  filled : (c : ℕ) → c < size_of j → 0 < u.cells.tally c
  filled c l = tallied_some (tallied (round_terms j s.restart s.iteration (length t.events)) (round_far j t.codebook) (round_means j t.codebook) (size_of j) u (omega arith) came) c l

  one_more : rounds_to j s.restart (trained_from j s.restart b) (s.iteration + 1) ≡ completed (after_round j t u)
  unfolding rounds_to
  one_more = rw (add-one s.iteration, h.rounds) (ap (λ (o : Outcome Repaired). and_then o (λ u. completed (after_round j t u))) (h.repairs ∙ came))

  module _ (after : List Float) (is : after ≡ patched work 0 (size_of j * dim_of j) (λ i. get_or work (2 * (size_of j * dim_of j) + i) nan)) where
    room : 2 * (size_of j * dim_of j) ≤ length work
    room = omega (arith, h.floats, (checks_passed j h.checked).floats)

    word : (i : ℕ) → i < size_of j * dim_of j → get_or after (0 + i) nan ≡ get_or (words_of (size_of j) (dim_of j) u.cells.word) i nan
    word i l =
        let n = size_of j in
        let k = dim_of j in
        let v = (checks_passed j h.checked).valid in
        let some : 0 < k = v.shape.some_block in
        let c : i / k < n = (div-lt_iff_lt-mul some).1 l in
        let r = room in
        ap (λ (z : List Float). get_or z (0 + i) nan) is
        ∙ patched_inside work 0 (n * k) (λ m. get_or work (2 * (n * k) + m) nan) i nan (omega arith) l
        ∙ ap (λ (z : ℕ). get_or work (2 * (n * k) + z) nan) (sym (div-add-mod' i k))
        ∙ h.running.held.words (i / k) (i % k) c (mod-lt i some) (filled (i / k) c)
        ∙ sym (get_d_tabulate (n * k) (λ m. u.cells.word (m / k) (m % k)) i nan l)

    above : (i : ℕ) → size_of j * dim_of j ≤ i → get_or after i nan ≡ get_or work i nan
    above i l = ap (λ (z : List Float). get_or z i nan) is ∙ patched_above work 0 (size_of j * dim_of j) (λ m. get_or work (2 * (size_of j * dim_of j) + m) nan) i nan (omega arith)

    pub round_ended : AtRound j b (after_round j t u) (ended s) after ints
    round_ended = record {
      checked = h.checked;
      floats = ap length is ∙ length-patched work 0 (size_of j * dim_of j) (λ m. get_or work (2 * (size_of j * dim_of j) + m) nan) ∙ h.floats;
      integers = h.integers;
      restart_below = h.restart_below;
      rounds_upto = omega (arith, h.round_below);
      bests = h.bests;
      rounds = one_more;
      current = record { size = length-tabulate (size_of j * dim_of j) (λ m. u.cells.word (m / dim_of j) (m % dim_of j)); values = word };
      kept = record { size = h.kept.size; values = λ i m. above (size_of j * dim_of j + i) (omega arith) ∙ h.kept.values i m };
      first = refl;
      earlier = omega (arith, h.earlier, h.made, length-append t.events u.events);
      made = refl;
      init = h.init;
      best = h.best;
      winner = h.winner;
    }
