-- What stands when the cells below e have had their turn, and the repair
-- that is due then: its donor, and what its turn comes to. Assumes nothing.
use Rattle.std.specs.Prelude.{Option, None, Some}
use mathlib.Core.Path.{◌≡◌, refl, sym, ap, ◌∙◌, subst}
use mathlib.Core.Logic.{◌⊎◌, inl, inr}
use Prim.Native.Nat.{ℕ, zero, suc, ◌<◌, ◌≤◌}
use native.Mathlib.Omega.{arith}
use mathlib.Core.Bool.{Bool, true, false, ◌||◌, cond}
use mathlib.Core.List.{List, [], ◌∷◌, ◌++◌}
use lib.Dec.{T, eqb, leb}
use lib.ListN.{length}
use lib.Ieee.{Float, le}
use borrow.Author.Tests.{leb-true, leb-false}
use Rattle.error.specs.Numbers.{Value, completed, refused, whole}
use Rattle.error.proofs.Outcomes.{passed, completed_same, then_completed}
use Rattle.ieee.specs.Sum.{plus_zero}
use Rattle.lloyd_events.specs.declared.LloydRepairEvent.{LloydRepairEvent}
use Rattle.lloyd_cells.specs.Repair.{Terms, Repaired, donor_to, least_norm, residual_norm, event_of, repair_by, turn, repair_to}
use Rattle.lloyd_cells.proofs.TallyLaw.{split_by, turn_completed}
use Rattle.lloyd_update.specs.Alone.{Call, terms_of}
use Rattle.lloyd_update.specs.Progress.{start_cells, far_of}
use Rattle.claim_history.proofs.TalliesLaw.{follows}
use Rattle.claim_rule.specs.Rule.{part_of, takes_part, Stands}

-- ---- one repair more
or_false : (a : Bool) → (a || false) ≡ a
or_false true = refl
or_false false = refl

or_assoc : (a b d : Bool) → (a || (b || d)) ≡ ((a || b) || d)
or_assoc true b d = refl
or_assoc false b d = refl

takes_more : (events : List LloydRepairEvent) (event : LloydRepairEvent) (i : ℕ) → takes_part (events ++ (event ∷ [])) i ≡ (takes_part events i || part_of event i)
unfolding takes_part
takes_more [] event i = or_false (part_of event i)
takes_more (x ∷ xs) event i = ap (λ (b : Bool). part_of x i || b) (takes_more xs event i) ∙ or_assoc (part_of x i) (takes_part xs i) (part_of event i)

both : (a b : Bool) (x y : Float) → cond b x (cond a x y) ≡ cond (a || b) x y
both true true x y = refl
both true false x y = refl
both false b x y = refl

neither : (a b : Bool) → (a || b) ≡ false → (a ≡ false) × (b ≡ false)
neither true b h = let z : true ≡ false = h in absurd (subst T z tt)
neither false b h = (refl, h)

module _ (c : Call) where
  -- distortions, and the words of cells that took no part
  abbrev Partly : Repaired → Type 0
  Partly r = ((i : ℕ) → r.cells.distortion i ≡ cond (takes_part r.events i) plus_zero ((start_cells c).distortion i))
      × ((i j : ℕ) → takes_part r.events i ≡ false → r.cells.word i j ≡ (start_cells c).word i j)

  partly_split : (e d : ℕ) (r : Repaired) → Partly r → Partly (split_by (terms_of c) (far_of c) e r d)
  partly_split e d r h =
      let event = event_of (terms_of c) r.cells d e (residual_norm c.dim (far_of c d) (r.cells.word d)) in (
        λ i. rw (takes_more r.events event i, h.0 i) (both (takes_part r.events i) (eqb i d || eqb i e) plus_zero ((start_cells c).distortion i)),
        λ i j o.
            let (u, v) = neither (takes_part r.events i) (eqb i d || eqb i e) (sym (takes_more r.events event i) ∙ o) in
            let (p, q) = neither (eqb i d) (eqb i e) v in
            rw (p, q) (h.1 i j u),
      )

  partly : (e : ℕ) (r : Repaired) → repair_to (terms_of c) (far_of c) (start_cells c) e ≡ completed r → Partly r
  unfolding repair_to takes_part
  partly zero r h = let q : record { cells = start_cells c; events = [] } ≡ r = cc in subst Partly q (λ i. refl, λ i j o. refl)
  partly (suc e) r h =
      let (x, p, q) = then_completed (repair_to (terms_of c) (far_of c) (start_cells c) e) (turn (terms_of c) (far_of c) e) r h in
      elim (turn_completed (terms_of c) (far_of c) e x r q) [
        | inl (m, s) ↦ subst Partly (sym s) (partly e x p)
        | inr (d, z, f, s) ↦ subst Partly (sym s) (partly_split e d x (partly e x p))
      ]

  pub stands : (e : ℕ) (r : Repaired) → repair_to (terms_of c) (far_of c) (start_cells c) e ≡ completed r → Stands c e r
  stands e r h = record {
    came = h;
    tally = λ i. sym ((follows (terms_of c) (far_of c) (start_cells c) e r h).1 i);
    distortion = (partly e r h).0;
    word = (partly e r h).1;
  }

-- ---- what one repair comes to
abbrev pub donor_in : Terms → Repaired → Option ℕ
donor_in t r = donor_to r.cells.tally r.cells.distortion t.cells

module _ (t : Terms) (far : ℕ → ℕ → Float) (e : ℕ) (r : Repaired) where
  abbrev pub norm : ℕ → Float
  norm d = residual_norm t.dim (far d) (r.cells.word d)

  pub by_completed : (f : Option ℕ) → donor_in t r ≡ f → (s : Repaired) → repair_by t far e r f ≡ completed s
      → (d : ℕ) × (donor_in t r ≡ Some d) × (le (norm d) least_norm ≡ false) × (length r.events < t.free) × (s ≡ split_by t far e r d)
  by_completed None q s h = let z : ◌≡◌ {A = ℕ} 0 1 = cc in absurd (omega arith)
  by_completed (Some d) q s h =
      let direction = passed (le (norm d) least_norm) 16 (whole d ∷ []) _ s h in
      let slot = passed (leb t.free (length r.events)) 19 (whole t.shown ∷ []) (completed (split_by t far e r d)) s direction.1 in
      (d, q, direction.0, leb-false t.free (length r.events) slot.0, sym (completed_same (split_by t far e r d) s slot.1))

  -- the reasons of a refusal
  abbrev pub Donorless : ℕ → List Value → Type 0
  Donorless n vs = (n ≡ 15) × (vs ≡ whole e ∷ []) × (donor_in t r ≡ None)

  abbrev pub Small : ℕ → List Value → Type 0
  Small n vs = (d : ℕ) × (n ≡ 16) × (vs ≡ whole d ∷ []) × (donor_in t r ≡ Some d) × (le (norm d) least_norm ≡ true)

  abbrev pub Used : ℕ → List Value → Type 0
  Used n vs = (d : ℕ) × (n ≡ 19) × (vs ≡ whole t.shown ∷ []) × (donor_in t r ≡ Some d) × (le (norm d) least_norm ≡ false) × (t.free ≤ length r.events)

  pub by_refused : (f : Option ℕ) → donor_in t r ≡ f → (n : ℕ) (vs : List Value) → repair_by t far e r f ≡ refused n vs → Donorless n vs ⊎ (Small n vs ⊎ Used n vs)
  by_refused None q n vs h = let u : 15 ≡ n = cc in let v : whole e ∷ [] ≡ vs = cc in inl (sym u, sym v, q)
  by_refused (Some d) q n vs h = go (le (norm d) least_norm) (leb t.free (length r.events)) refl refl h
    where
      go : (a b : Bool) → le (norm d) least_norm ≡ a → leb t.free (length r.events) ≡ b
          → cond a (refused 16 (whole d ∷ [])) (cond b (refused 19 (whole t.shown ∷ [])) (completed (split_by t far e r d))) ≡ refused n vs → Donorless n vs ⊎ (Small n vs ⊎ Used n vs)
      go true b x y k = let u : 16 ≡ n = cc in let v : whole d ∷ [] ≡ vs = cc in inr (inl (d, sym u, sym v, q, x))
      go false true x y k = let u : 19 ≡ n = cc in let v : whole t.shown ∷ [] ≡ vs = cc in inr (inr (d, sym u, sym v, q, x, leb-true t.free (length r.events) y))
      go false false x y k = let z : ◌≡◌ {A = ℕ} 0 1 = cc in absurd (omega arith)
