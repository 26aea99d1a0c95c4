-- The events of a refinement fit the slots, and a round that is refused refuses the refinement. Assumes nothing.
use mathlib.Core.Path.{◌≡◌, refl, ap, ◌∙◌, subst}
use Prim.Native.Nat.{ℕ, zero, suc, ◌+◌, ◌-◌, ◌≤◌, ◌<◌}
use native.Mathlib.Nat.{add-suc, add-zero}
use native.Mathlib.Omega.{arith}
use mathlib.Core.Bool.{Bool, true, false, cond, ◌&&◌}
use mathlib.Core.List.{List}
use lib.Dec.{ltb}
use lib.ListN.{length, length-append}
use lib.Ieee.{Float, lt}
use Rattle.error.specs.declared.Refusal.{Refusal}
use Rattle.error.specs.Numbers.{Value, Outcome, completed, refused, refusal, and_then}
use Rattle.error.proofs.Outcomes.{passed, completed_same, then_completed}
use Rattle.error.proofs.Refusals.{by_refusal}
use Rattle.profile.specs.declared.EmptyCellPolicy.{EmptyCellPolicy}
use Rattle.lloyd_events.specs.declared.LloydRepairEvent.{LloydRepairEvent}
use Rattle.lloyd_cells.specs.Repair.{Terms, Repaired, repair_to}
use Rattle.lloyd_cells.specs.Update.{means, farthest_sample, fails_closed, empty_cells, updated}
use Rattle.lloyd_update.proofs.RepairsLaw.{events_within}
use Rattle.lloyd_refine.specs.Refine.{Job, restarts_of, iterations_of, refine_checks, round_terms, round_of, Trained, after_round, round_on, rounds_to, trained_from, error_of, Best, after_restart, start_best, restart_on, restarts_to, refine_of, refinement}

-- ---- the events fit
updated_within : (t : Terms) (policy : EmptyCellPolicy) (S : ℕ) (x : ℕ → ℕ → Float) (a : ℕ → ℕ) (old : ℕ → ℕ → Float) (u : Repaired) → updated t policy S x a old ≡ completed u → length u.events ≤ t.free
unfolding updated
updated_within t policy S x a old u h =
    let st = means t.dim S x a old in
    events_within t (farthest_sample t.dim S x a old) st t.cells u
    (passed (fails_closed policy && ltb 0 (empty_cells st.tally t.cells)) 14 _ (repair_to t (farthest_sample t.dim S x a old) st t.cells) u h).1

pub round_within : (j : Job) (r i used : ℕ) (codebook : List Float) (u : Repaired) → round_of j r i used codebook ≡ completed u → length u.events ≤ j.slots - used
round_within j r i used codebook u h = updated_within (round_terms j r i used) _ _ _ _ _ u h

either_events : (z : Bool) (a c : Best) (events : List LloydRepairEvent) → a.events ≡ events → c.events ≡ events → (cond {A = Best} z a c).events ≡ events
either_events true a c events p q = p
either_events false a c events p q = q

module _ (j : Job) where
  round_on_within : (r i : ℕ) (t s : Trained) → length t.events ≤ j.slots → round_on j r i t ≡ completed s → length s.events ≤ j.slots
  round_on_within r i t s l h =
      let (u, p, q) = then_completed (round_of j r i (length t.events) t.codebook) (λ u. completed (after_round j t u)) s h in
      let e = ap (λ (z : Trained). length z.events) (completed_same (after_round j t u) s q) in
      omega (arith, round_within j r i (length t.events) t.codebook u p, length-append t.events u.events)

  pub rounds_within : (r : ℕ) (t s : Trained) (i : ℕ) → length t.events ≤ j.slots → rounds_to j r t i ≡ completed s → length s.events ≤ j.slots
  unfolding rounds_to
  rounds_within r t s zero l h = subst (λ (z : Trained). length z.events ≤ j.slots) (completed_same t s h) l
  rounds_within r t s (suc i) l h =
      let (m, p, q) = then_completed (rounds_to j r t i) (round_on j r i) s h in
      round_on_within r i m s (rounds_within r t m i l p) q

  pub after_events : (r : ℕ) (b : Best) (t : Trained) → (after_restart j r b t).events ≡ t.events
  after_events r b t = either_events (lt (error_of j t.codebook) b.error) _ _ t.events refl refl

  pub bests_within : (r : ℕ) (b : Best) → restarts_to j r ≡ completed b → length b.events ≤ j.slots
  unfolding restarts_to
  bests_within zero b h = subst (λ (z : Best). length z.events ≤ j.slots) (completed_same (start_best j) b h) (omega arith)
  bests_within (suc r) b h =
      let (a, p, q) = then_completed (restarts_to j r) (restart_on j r) b h in
      let (t, m, n) = then_completed (rounds_to j r (trained_from j r a) (iterations_of j)) (λ t. completed (after_restart j r a t)) b q in
      subst (λ (z : Best). length z.events ≤ j.slots) (completed_same (after_restart j r a t) b n)
      (rw (after_events r a t) (rounds_within r (trained_from j r a) t (iterations_of j) (bests_within r a p) m))

-- ---- a refusal stays
module _ (j : Job) (n : ℕ) (vs : List Value) where
  rounds_stay : (r : ℕ) (t : Trained) (i m : ℕ) → rounds_to j r t i ≡ refused n vs → rounds_to j r t (i + m) ≡ refused n vs
  unfolding rounds_to
  rounds_stay r t i zero h = rw (add-zero i) h
  rounds_stay r t i (suc m) h = rw (add-suc i m, rounds_stay r t i m h)

  bests_stay : (r m : ℕ) → restarts_to j r ≡ refused n vs → restarts_to j (r + m) ≡ refused n vs
  unfolding restarts_to
  bests_stay r zero h = rw (add-zero r) h
  bests_stay r (suc m) h = rw (add-suc r m, bests_stay r m h)

  one_round : (r i : ℕ) (t s : Trained) → rounds_to j r t i ≡ completed s → round_of j r i (length s.events) s.codebook ≡ refused n vs → rounds_to j r t (suc i) ≡ refused n vs
  unfolding rounds_to
  one_round r i t s p q = rw (p, q)

  one_restart : (r : ℕ) (b : Best) → restarts_to j r ≡ completed b → rounds_to j r (trained_from j r b) (iterations_of j) ≡ refused n vs → restarts_to j (suc r) ≡ refused n vs
  unfolding restarts_to
  one_restart r b p q = rw (p, q)

  pub whole_refused : (r i : ℕ) (b : Best) (t : Trained) → r < restarts_of j → i < iterations_of j → restarts_to j r ≡ completed b → rounds_to j r (trained_from j r b) i ≡ completed t
      → round_of j r i (length t.events) t.codebook ≡ refused n vs → refine_of j ≡ refused n vs
  whole_refused r i b t l m p q h =
      let x = iterations_of j - suc i in
      let ex : suc i + x ≡ iterations_of j = omega arith in
      let y = restarts_of j - suc r in
      let ey : suc r + y ≡ restarts_of j = omega arith in
      let f : rounds_to j r (trained_from j r b) (iterations_of j) ≡ refused n vs = subst (λ (z : ℕ). rounds_to j r (trained_from j r b) z ≡ refused n vs) ex (rounds_stay r (trained_from j r b) (suc i) x (one_round r i (trained_from j r b) t q h)) in
      subst (λ (z : ℕ). restarts_to j z ≡ refused n vs) ey (bests_stay (suc r) y (one_restart r b p f))

-- a refinement whose checks are passed is refused by a round that is
pub refused_by : (j : Job) (x : Refusal) (r i : ℕ) (b : Best) (t : Trained) → refine_checks j ≡ completed tt → r < restarts_of j → i < iterations_of j → restarts_to j r ≡ completed b → rounds_to j r (trained_from j r b) i ≡ completed t
    → round_of j r i (length t.events) t.codebook ≡ refusal x → refinement j ≡ refusal x
refused_by j x r i b t k l m p q =
    by_refusal (λ (o : Outcome Repaired) (w : Outcome Best). round_of j r i (length t.events) t.codebook ≡ o → refinement j ≡ w)
    (λ n vs h. ap (λ (o : Outcome Unit). and_then o (λ u. refine_of j)) k ∙ whole_refused j n vs r i b t l m p q h) x
