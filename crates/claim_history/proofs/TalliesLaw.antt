-- The tallies worked out from the events of an update are those of its rule: each repair was fair at its moment, every
-- cell ends with a sample, and none is lost.
-- Assumes nothing.
use mathlib.Core.Path.{◌≡◌, refl, sym, ap, ◌∙◌, subst}
use mathlib.Core.Logic.{inl, inr}
use Prim.Native.Nat.{ℕ, zero, suc, ◌+◌, ◌<◌}
use native.Mathlib.Nat.{le_refl}
use native.Mathlib.Omega.{arith}
use native.Mathlib.Decide.{ℕ_discrete}
use mathlib.Core.Bool.{Bool, true, false, ◌||◌, cond}
use mathlib.Core.List.{List, [], ◌∷◌, ◌++◌}
use lib.Dec.{eqb}
use lib.Ieee.{Float}
use borrow.Author.Tests.{eq-eqb, ne_eqb}
use Rattle.error.specs.Numbers.{completed}
use Rattle.error.proofs.Outcomes.{then_completed}
use Rattle.lloyd_events.specs.declared.LloydRepairEvent.{LloydRepairEvent}
use Rattle.lloyd_cells.specs.Cells.{total}
use Rattle.lloyd_cells.specs.Repair.{Cells, Terms, Repaired, residual_norm, event_of, turn, repair_to}
use Rattle.lloyd_cells.proofs.CellsLaw.{total_ext}
use Rattle.lloyd_cells.proofs.DonorLaw.{donor_plenty}
use Rattle.lloyd_cells.proofs.TallyLaw.{split_by, turn_completed, tallied, tallied_some, total_share}
use Rattle.claim_history.specs.History.{donated, split_tally, tally_after, Fair, Sound, donations, is_filled, Balanced}

-- ---- one repair more
tally_more : (t : ℕ → ℕ) (events : List LloydRepairEvent) (event : LloydRepairEvent) → tally_after t (events ++ (event ∷ [])) ≡ split_tally (tally_after t events) event
unfolding tally_after
tally_more t [] event = refl
tally_more t (x ∷ xs) event = tally_more (split_tally t x) xs event

sound_more : (t : ℕ → ℕ) (events : List LloydRepairEvent) (event : LloydRepairEvent) → Sound t events → Fair (tally_after t events) event → Sound t (events ++ (event ∷ []))
unfolding tally_after Sound
sound_more t [] event s f = (f, tt)
sound_more t (x ∷ xs) event (g, s) f = (g, sound_more (split_tally t x) xs event s f)

-- ---- the samples assigned, less those given away, plus one if filled
module _ (t : ℕ → ℕ) (event : LloydRepairEvent) (f : Fair t event) (i : ℕ) where
  -- a donor keeps a sample
  split_some : 0 < t i → 0 < split_tally t event i
  split_some h = elim (ℕ_discrete i event.donor_cell) [
    | yes q ↦ let p = f.plenty in let e = ap t q in rw (eq-eqb i event.donor_cell q) (omega arith)
    | no o ↦ rw (ne_eqb i event.donor_cell o) (omega arith)
  ]

  split_exact : split_tally t event i + donated event i ≡ t i + cond (eqb i event.empty_cell) 1 0
  split_exact = elim (ℕ_discrete i event.donor_cell) [
    | yes q ↦ let p = f.plenty in let e = ap t q in rw (eq-eqb i event.donor_cell q) (omega arith)
    | no o ↦ rw (ne_eqb i event.donor_cell o) (omega arith)
  ]

-- a cell with samples is not filled
not_filled : (t : ℕ → ℕ) (events : List LloydRepairEvent) (i : ℕ) → Sound t events → 0 < t i → is_filled events i ≡ false
unfolding Sound is_filled
not_filled t [] i s h = refl
not_filled t (x ∷ xs) i (f, s) h =
    rw (ne_eqb i x.empty_cell (λ q. let e = ap t q in let z = f.empty in omega arith)) (not_filled (split_tally t x) xs i s (split_some t x f i h))

module _ (t : ℕ → ℕ) (x : LloydRepairEvent) (xs : List LloydRepairEvent) (f : Fair t x) (s : Sound (split_tally t x) xs) (i : ℕ) where
  filled_more : (b : Bool) → eqb i x.empty_cell ≡ b → cond b 1 0 + cond (is_filled xs i) 1 0 ≡ cond (b || is_filled xs i) 1 0
  filled_more true e = rw (not_filled (split_tally t x) xs i s (rw e (omega arith)))
  filled_more false e = omega arith

pub counted : (t : ℕ → ℕ) (events : List LloydRepairEvent) → Sound t events → (i : ℕ) → tally_after t events i + donations events i ≡ t i + cond (is_filled events i) 1 0
unfolding tally_after Sound donations is_filled
counted t [] s i = refl
counted t (x ∷ xs) (f, s) i =
    let rest = counted (split_tally t x) xs s i in
    let here = split_exact t x f i in
    let fill = filled_more t x xs f s i (eqb i x.empty_cell) refl in
    omega arith

-- ---- the events of the rule
-- they are fair, and give the tallies of its cells
abbrev Follows : (ℕ → ℕ) → Repaired → Type 0
Follows t r = Sound t r.events × ((i : ℕ) → tally_after t r.events i ≡ r.cells.tally i)

module _ (t : Terms) (far : ℕ → ℕ → Float) (u : ℕ → ℕ) where
  -- donor c is split for cell e
  module _ (e c : ℕ) (r : Repaired) (none : r.cells.tally e ≡ 0) (plenty : 1 < r.cells.tally c) (h : Follows u r) where
    abbrev event : LloydRepairEvent
    event = event_of t r.cells c e (residual_norm t.dim (far c) (r.cells.word c))

    fair : Fair (tally_after u r.events) event
    fair = record { empty = h.1 e ∙ none; plenty = rw (h.1 c) plenty; shown = sym (h.1 c) }

    split_is : (i : ℕ) → split_tally (tally_after u r.events) event i ≡ (split_by t far e r c).cells.tally i
    split_is i = elim (ℕ_discrete i c) [
      | yes q ↦ let k = ap r.cells.tally q in rw (h.1 i, eq-eqb i c q, ne_eqb i e (λ p. let m = ap r.cells.tally p in omega arith)) (omega arith)
      | no o ↦ rw (h.1 i, ne_eqb i c o) (elim (ℕ_discrete i e) [
        | yes q ↦ let k = ap r.cells.tally q in rw (eq-eqb i e q) (omega arith)
        | no p ↦ rw (ne_eqb i e p) (omega arith)
      ])
    ]

    follows_split : Follows u (split_by t far e r c)
    follows_split = (sound_more u r.events event h.0 fair, λ i. ap (λ (v : ℕ → ℕ). v i) (tally_more u r.events event) ∙ split_is i)

  follows_turn : (e : ℕ) (r s : Repaired) → Follows u r → turn t far e r ≡ completed s → Follows u s
  follows_turn e r s h k = elim (turn_completed t far e r s k) [
    | inl (p, q) ↦ subst (Follows u) (sym q) h
    | inr (c, z, d, q) ↦ subst (Follows u) (sym q) (follows_split e c r z (donor_plenty r.cells.tally r.cells.distortion t.cells c d).1 h)
  ]

module _ (t : Terms) (far : ℕ → ℕ → Float) (st : Cells) where
  pub follows : (e : ℕ) (r : Repaired) → repair_to t far st e ≡ completed r → Follows st.tally r
  unfolding repair_to Sound tally_after
  follows zero r h = let q : record { cells = st; events = [] } ≡ r = cc in subst (Follows st.tally) q (tt, λ i. refl)
  follows (suc e) r h =
      let (x, p, q) = then_completed (repair_to t far st e) (turn t far e) r h in
      follows_turn t far st.tally e x r (follows e x p) q

-- ---- no cell is empty, no sample is lost
balanced_of : (S n : ℕ) (u v : ℕ → ℕ) → ((i : ℕ) → v i ≡ u i) → ((i : ℕ) → i < n → 0 < u i) → total u n ≡ S → Balanced S n v
balanced_of S n u v same some all = record {
  least = λ i l. rw (same i) (some i l);
  most = λ i l. let h = total_share u n i some l in let e = same i in omega arith;
  all = total_ext v u n (λ i l. same i) ∙ all;
}

pub balanced : (t : Terms) (far : ℕ → ℕ → Float) (st : Cells) (S : ℕ) (r : Repaired) → total st.tally t.cells ≡ S → repair_to t far st t.cells ≡ completed r → Balanced S t.cells (tally_after st.tally r.events)
balanced t far st S r e h =
    let g = tallied t far st t.cells r (le_refl t.cells) h in
    balanced_of S t.cells r.cells.tally (tally_after st.tally r.events) (follows t far st t.cells r h).1 (tallied_some g) (g.all ∙ e)
