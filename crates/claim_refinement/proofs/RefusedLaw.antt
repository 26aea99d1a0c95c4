-- A refinement that is refused after its checks: the rounds before are a history, it came to a round, and update alone
-- refuses that round too, by the same number. Assumes nothing.
use Rattle.std.specs.Prelude.{Option, None, Some}
use mathlib.Core.Path.{◌≡◌, refl, sym, ap, ◌∙◌, subst}
use mathlib.Core.Logic.{◌⊎◌, inl, inr}
use Prim.Native.Nat.{ℕ, zero, suc, ◌-◌, ◌≤◌, ◌<◌}
use native.Mathlib.Nat.{le_of_lt, le_refl}
use native.Mathlib.Omega.{arith}
use mathlib.Core.Bool.{Bool, true, false, ◌&&◌, cond}
use mathlib.Core.List.{List, [], ◌∷◌}
use lib.Dec.{eqb, leb, ltb}
use lib.ListN.{length}
use lib.Ieee.{Float, le}
use Rattle.error.specs.Numbers.{Value, Outcome, completed, refused, and_then, whole}
use Rattle.error.proofs.Outcomes.{never, then_refused, completed_same}
use Rattle.profile.specs.declared.EmptyCellPolicy.{EmptyCellPolicy}
use Rattle.lloyd_search.specs.Distance.{row_of}
use Rattle.lloyd_cells.specs.Repair.{Cells, Terms, Repaired, donor_to, least_norm, residual_norm, repair_by, turn, repair_to}
use Rattle.lloyd_cells.specs.Update.{means, farthest_sample, fails_closed, empty_cells, updated}
use Rattle.lloyd_cells.proofs.TallyLaw.{split_by}
use Rattle.lloyd_round.specs.Round.{cell_of}
use Rattle.lloyd_update.specs.Alone.{update_checks, update_of, update_alone}
use Rattle.lloyd_refine.specs.Refine.{Job, size_of, dim_of, count_of, restarts_of, iterations_of, refine_checks, round_terms, round_of, Trained, after_round, round_on, rounds_to, start_of, Best, trained_from, after_restart, restart_on, restarts_to, refine_of, refinement}
use Rattle.lloyd_refine.proofs.CheckLaw.{Passed, checks_passed}
use Rattle.claim_history.specs.History.{call_with}
use Rattle.claim_history.proofs.HistoryLaw.{history}
use Rattle.claim_refinement.specs.Refinement.{round_request, requests_to, Reached, SameRefusal, RefusedRefinement}
use Rattle.claim_refinement.proofs.DonorLaw.{round_donor}
use Rattle.claim_refinement.proofs.AloneLaw.{showing, repairs_shown, round_call, count_is, checks_pass}
use Rattle.claim_refinement.proofs.CourseLaw.{best_at, rounds_at, stand_at, course_of, stand_came, best_came, best_last, end_came}
use Rattle.claim_refinement.proofs.TameLaw.{reached_tame}
use Rattle.claim_refinement.proofs.RoundsLaw.{rounds}

-- ---- an update that is refused is refused whatever number refusal 19 shows, which it shows then
-- the refusal n, vs where 19 shows s, beside the outcome where it shows m
abbrev Alike : ℕ → ℕ → ℕ → List Value → Outcome Repaired → Type 0
Alike s m n vs o = (((n ≡ 14) ⊎ ((n ≡ 15) ⊎ (n ≡ 16))) × (o ≡ refused n vs)) ⊎ ((n ≡ 19) × (vs ≡ whole s ∷ []) × (o ≡ refused 19 (whole m ∷ [])))

-- a refusal stays
stays : (s m n : ℕ) (vs : List Value) (o : Outcome Repaired) (f : Repaired → Outcome Repaired) → Alike s m n vs o → Alike s m n vs (and_then o f)
stays s m n vs o f (inl (q, e)) = inl (q, ap (λ (x : Outcome Repaired). and_then x f) e)
stays s m n vs o f (inr (q, v, e)) = inr (q, v, ap (λ (x : Outcome Repaired). and_then x f) e)

module _ (t : Terms) (m : ℕ) (far : ℕ → ℕ → Float) (n : ℕ) (vs : List Value) where
  module _ (e : ℕ) (r : Repaired) where
    repair_alike : (d : Option ℕ) → repair_by t far e r d ≡ refused n vs → Alike t.shown m n vs (repair_by (showing t m far) far e r d)
    repair_alike None h = let q : 15 ≡ n = cc in inl (inr (inl (sym q)), h)
    repair_alike (Some c) h = go (le (residual_norm t.dim (far c) (r.cells.word c)) least_norm) (leb t.free (length r.events)) h
      where
        go : (a b : Bool) → cond a (refused 16 (whole c ∷ [])) (cond b (refused 19 (whole t.shown ∷ [])) (completed (split_by t far e r c))) ≡ refused n vs
            → Alike t.shown m n vs (cond a (refused 16 (whole c ∷ [])) (cond b (refused 19 (whole m ∷ [])) (completed (split_by t far e r c))))
        go true b k = let q : 16 ≡ n = cc in inl (inr (inr (sym q)), k)
        go false true k = let q : 19 ≡ n = cc in let v : whole t.shown ∷ [] ≡ vs = cc in inr (sym q, sym v, refl)
        go false false k = absurd (never n vs (split_by t far e r c) (sym k))

    turn_alike : turn t far e r ≡ refused n vs → Alike t.shown m n vs (turn (showing t m far) far e r)
    turn_alike h = go (eqb (r.cells.tally e) 0) h
      where
        go : (b : Bool) → cond b (repair_by t far e r (donor_to r.cells.tally r.cells.distortion t.cells)) (completed r) ≡ refused n vs
            → Alike t.shown m n vs (cond b (repair_by (showing t m far) far e r (donor_to r.cells.tally r.cells.distortion t.cells)) (completed r))
        go true k = repair_alike (donor_to r.cells.tally r.cells.distortion t.cells) k
        go false k = absurd (never n vs r (sym k))

  repairs_alike : (st : Cells) (e : ℕ) → repair_to t far st e ≡ refused n vs → Alike t.shown m n vs (repair_to (showing t m far) far st e)
  unfolding repair_to
  repairs_alike st zero h = absurd (never n vs _ (sym h))
  repairs_alike st (suc e) h = elim (then_refused (repair_to t far st e) (turn t far e) n vs h) [
    | inl p ↦ stays t.shown m n vs (repair_to (showing t m far) far st e) (turn (showing t m far) far e) (repairs_alike st e p)
    | inr (x, p, q) ↦ rw (repairs_shown t m far st e x p) (turn_alike e x q)
  ]

updated_alike : (t : Terms) (m : ℕ) (policy : EmptyCellPolicy) (S : ℕ) (x : ℕ → ℕ → Float) (a : ℕ → ℕ) (old : ℕ → ℕ → Float) (n : ℕ) (vs : List Value)
    → updated t policy S x a old ≡ refused n vs → Alike t.shown m n vs (updated (showing t m (farthest_sample t.dim S x a old)) policy S x a old)
unfolding updated
updated_alike t m policy S x a old n vs h = go (fails_closed policy && ltb 0 none) h
  where
    st : Cells
    st = means t.dim S x a old

    far : ℕ → ℕ → Float
    far = farthest_sample t.dim S x a old

    none : ℕ
    none = empty_cells (means t.dim S x a old).tally t.cells

    go : (b : Bool) → cond b (refused 14 (whole none ∷ [])) (repair_to t far st t.cells) ≡ refused n vs
        → Alike t.shown m n vs (cond b (refused 14 (whole none ∷ [])) (repair_to (showing t m far) far st t.cells))
    go true k = let q : 14 ≡ n = cc in inl (inl (sym q), k)
    go false k = repairs_alike t m far n vs st t.cells k

-- ---- the round that was refused
module _ (j : Job) (n : ℕ) (vs : List Value) where
  abbrev round_at : ℕ → ℕ → Trained → Outcome Repaired
  round_at r i t = round_of j r i (length t.events) t.codebook

  refused_round : (r : ℕ) (from : Trained) (i : ℕ) → i ≤ iterations_of j → rounds_to j r from i ≡ refused n vs
      → (m : ℕ) × (t : Trained) × (m < iterations_of j) × (rounds_to j r from m ≡ completed t) × (round_at r m t ≡ refused n vs)
  unfolding rounds_to
  refused_round r from zero l h = absurd (never n vs from (sym h))
  refused_round r from (suc i) l h = elim (then_refused (rounds_to j r from i) (round_on j r i) n vs h) [
    | inl p ↦ refused_round r from i (le_of_lt l) p
    | inr (s, p, q) ↦ elim (then_refused (round_at r i s) (λ u. completed (after_round j s u)) n vs q) [
      | inl o ↦ (i, s, l, p, o)
      | inr (u, a, o) ↦ absurd (never n vs (after_round j s u) (sym o))
    ]
  ]

  refused_restart : (r : ℕ) → r ≤ restarts_of j → restarts_to j r ≡ refused n vs
      → (m : ℕ) × (i : ℕ) × (t : Trained) × (m < restarts_of j) × (i < iterations_of j) × Reached j m i t × (round_at m i t ≡ refused n vs)
  unfolding restarts_to
  refused_restart zero l h = absurd (never n vs _ (sym h))
  refused_restart (suc r) l h = elim (then_refused (restarts_to j r) (restart_on j r) n vs h) [
    | inl p ↦ refused_restart r (le_of_lt l) p
    | inr (b, p, q) ↦ elim (then_refused (rounds_to j r (trained_from j r b) (iterations_of j)) (λ t. completed (after_restart j r b t)) n vs q) [
      | inl o ↦
          let (i, t, m, a, k) = refused_round r (trained_from j r b) (iterations_of j) (le_refl (iterations_of j)) o in
          (r, i, t, l, m, record { best = b; restarts = p; rounds = a }, k)
      | inr (t, a, o) ↦ absurd (never n vs (after_restart j r b t) (sym o))
    ]
  ]

  module _ (pass : Passed j) (r i : ℕ) (t : Trained) (l : r < restarts_of j) (come : Reached j r i t) (h : round_at r i t ≡ refused n vs) where
    abbrev call-of : Outcome Repaired
    call-of = update_of (round_call j pass r i t (reached_tame j pass r i t l come).0 (reached_tame j pass r i t l come).1)

    alike : Alike j.slots (j.slots - length t.events) n vs call-of
    alike =
        rw (count_is j pass r i t (reached_tame j pass r i t l come).0 (reached_tame j pass r i t l come).1)
        (updated_alike (round_terms j r i (length t.events)) (j.slots - length t.events) j.profile.empty_cell_policy (count_of j) (row_of (dim_of j) j.samples) (cell_of (dim_of j) (size_of j) (count_of j) j.samples t.codebook) (row_of (dim_of j) t.codebook) n vs h)

    no_15 : n ≡ 15 → ⊥
    no_15 q = round_donor j pass r i (length t.events) t.codebook vs (rw (← q) h)

    same : (o : Outcome Repaired) → Alike j.slots (j.slots - length t.events) n vs o → SameRefusal j t n vs o
    same o (inl (inl q, e)) = inl (inl q, e)
    same o (inl (inr (inl q), e)) = absurd (no_15 q)
    same o (inl (inr (inr q), e)) = inl (inr q, e)
    same o (inr k) = inr k

  -- what stands before round i of restart r in the course of the refinement
  came : (r i : ℕ) (t : Trained) → Reached j r i t → (restarts_to j r ≡ completed (best_at j r)) × (rounds_at j r i ≡ completed t)
  came r i t h =
      let same = sym (best_last j r h.best h.restarts) in
      (h.restarts ∙ ap completed same, ap (λ (b : Best). rounds_to j r (trained_from j r b) i) (sym same) ∙ h.rounds)

  module _ (checks : refine_checks j ≡ completed tt) (r i : ℕ) (t : Trained) (l : r < restarts_of j) (m : i < iterations_of j) (come : Reached j r i t) (h : round_at r i t ≡ refused n vs) where
    pass : Passed j
    pass = checks_passed j checks

    stands : t ≡ stand_at j r i
    stands = let c = came r i t come in completed_same _ _ (sym c.1 ∙ stand_came j r i t c.1 i (le_refl i))

    refused_there : RefusedRefinement j n vs
    refused_there =
        let c = came r i t come in
        let tame = reached_tame j pass r i t l come in
        let ok = checks_pass j pass r i t tame.0 tame.1 in
        let no : SameRefusal j t n vs (update_alone (round_call j pass r i t tame.0 tame.1)) = rw ok (same pass r i t l come h _ (alike pass r i t l come h)) in
        record {
          course = course_of j;
          in_restart = r;
          in_round = i;
          restart_below = l;
          round_below = m;
          restarts = λ s o. rounds j pass s (iterations_of j) (omega arith) (best_came j r come.best come.restarts s (omega arith)) _ (end_came j r come.best come.restarts s o);
          rounds = rounds j pass r i l c.0 t c.1;
          history = history (requests_to j (course_of j) r (suc i)) (start_of j r);
          checked = subst (λ (x : Trained). update_checks (call_with (round_request j r i x) x.codebook) ≡ completed tt) stands ok;
          refusal = subst (λ (x : Trained). SameRefusal j x n vs (update_alone (call_with (round_request j r i x) x.codebook))) stands no;
        }

  pub refused_refinement : refine_checks j ≡ completed tt → refinement j ≡ refused n vs → RefusedRefinement j n vs
  refused_refinement passed h =
      let after : refine_of j ≡ refused n vs = sym (ap (λ (o : Outcome Unit). and_then o (λ u. refine_of j)) passed) ∙ h in
      let (r, i, t, l, m, come, k) = refused_restart (restarts_of j) (le_refl (restarts_of j)) after in
      refused_there passed r i t l m come k
