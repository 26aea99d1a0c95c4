-- What the turns of the cells come to, from one empty cell to the next. Assumes nothing.
use Rattle.std.proofs.Common.{◌≡◌, ℕ, zero, suc, ◌<◌, ◌≤◌, Bool, true, false, cond, leb, List, [], ◌∷◌, ◌++◌, length, ap, ◌∙◌, subst, inl, inr, le_trans, le_of_suc-le-suc, eq-or-lt_of_le, arith, eq-eqb, ne_eqb, None, Some}
use native.Mathlib.Nat.{le-suc}
use lib.Ieee.{Float, le}
use Rattle.error.specs.Numbers.{Outcome, completed, refused, and_then, Value, whole}
use Rattle.lloyd_cells.specs.Repair.{Cells, Terms, Repaired, turn, repair_by, repair_cell, repair_to, donor_to, residual_norm, least_norm, split, event_of}

module _ (t : Terms) (far : ℕ → ℕ → Float) (st : Cells) where
  -- the turn of cell e
  pub at_turn : (e : ℕ) (r : Repaired) → repair_to t far st e ≡ completed r → repair_to t far st (suc e) ≡ turn t far e r
  unfolding repair_to
  at_turn e r h = ap (λ (o : Outcome Repaired). and_then o (turn t far e)) h

  -- a cell that is not empty has nothing done
  pub not_empty : (e : ℕ) (r : Repaired) → (r.cells.tally e ≡ 0 → ⊥) → turn t far e r ≡ completed r
  not_empty e r h = ap (λ (b : Bool). cond b (repair_cell t far e r) (completed r)) (ne_eqb (r.cells.tally e) 0 h)

  -- an empty one is repaired
  pub is_empty : (e : ℕ) (r : Repaired) → r.cells.tally e ≡ 0 → turn t far e r ≡ repair_cell t far e r
  is_empty e r h = ap (λ (b : Bool). cond b (repair_cell t far e r) (completed r)) (eq-eqb (r.cells.tally e) 0 h)

  -- from a to b no cell is empty
  pub skip : (a b : ℕ) (r : Repaired) → a ≤ b → repair_to t far st a ≡ completed r → ((c : ℕ) → a ≤ c → c < b → r.cells.tally c ≡ 0 → ⊥) → repair_to t far st b ≡ completed r
  skip a zero r l h k = let e : a ≡ 0 = omega arith in subst (λ (z : ℕ). repair_to t far st z ≡ completed r) e h
  skip a (suc b) r l h k = elim (eq-or-lt_of_le l) [
    | inl e ↦ subst (λ (z : ℕ). repair_to t far st z ≡ completed r) e h
    | inr m ↦ at_turn b r (skip a b r (le_of_suc-le-suc m) h (λ c u v. k c u (le_trans v (le-suc b)))) ∙ not_empty b r (k b (le_of_suc-le-suc m) (omega arith))
  ]

  -- a refusal stays
  pub stays : (a b n : ℕ) (vs : List Value) → a ≤ b → repair_to t far st a ≡ refused n vs → repair_to t far st b ≡ refused n vs
  unfolding repair_to
  stays a zero n vs l h = let e : a ≡ 0 = omega arith in subst (λ (z : ℕ). repair_to t far st z ≡ refused n vs) e h
  stays a (suc b) n vs l h = elim (eq-or-lt_of_le l) [
    | inl e ↦ subst (λ (z : ℕ). repair_to t far st z ≡ refused n vs) e h
    | inr m ↦ ap (λ (o : Outcome Repaired). and_then o (turn t far b)) (stays a b n vs (le_of_suc-le-suc m) h)
  ]

-- one repair, by the donor that is found and the norm of its residual
module _ (t : Terms) (far : ℕ → ℕ → Float) (e : ℕ) (r : Repaired) where
  pub no_donor : donor_to r.cells.tally r.cells.distortion t.cells ≡ None → repair_cell t far e r ≡ refused 15 (whole e ∷ [])
  no_donor h = ap (repair_by t far e r) h

  module _ (donor : ℕ) (norm : Float) (found : donor_to r.cells.tally r.cells.distortion t.cells ≡ Some donor) (is : residual_norm t.dim (far donor) (r.cells.word donor) ≡ norm) where
    pub no_direction : le norm least_norm ≡ true → repair_cell t far e r ≡ refused 16 (whole donor ∷ [])
    no_direction h = ap (repair_by t far e r) found ∙ rw (is, h)

    pub no_slot : le norm least_norm ≡ false → leb t.free (length r.events) ≡ true → repair_cell t far e r ≡ refused 19 (whole t.shown ∷ [])
    no_slot h l = ap (repair_by t far e r) found ∙ rw (is, h, l)

    pub one_repair : le norm least_norm ≡ false → leb t.free (length r.events) ≡ false
        → repair_cell t far e r ≡ completed (record { cells = split t.dim (far donor) norm r.cells donor e; events = r.events ++ (event_of t r.cells donor e norm ∷ []) })
    one_repair h l = ap (repair_by t far e r) found ∙ rw (is, h, l)
