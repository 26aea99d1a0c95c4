-- A repair that is due: its donor is the last of largest distortion, its sample
-- the first farthest, and the norm of its residual a number. Assumes nothing.
use Rattle.std.specs.Prelude.{Some}
use mathlib.Core.Path.{◌≡◌, sym, subst}
use mathlib.Core.Logic.{inl, inr}
use Prim.Native.Nat.{ℕ, ◌<◌}
use native.Mathlib.Nat.{le_of_lt, le_refl, eq-zero-or-pos}
use native.Mathlib.Omega.{arith}
use mathlib.Core.Bool.{Bool, true, false, not, ◌||◌, cond}
use lib.Dec.{T, T_not}
use lib.Ieee.{Float, lt, le, eq}
use lib.Ieee.Scale.{finite}
use Rattle.error.specs.Numbers.{completed}
use Rattle.ieee.specs.Sum.{plus_zero}
use Rattle.ieee.specs.Bounds.{NotNegative}
use Rattle.ieee.proofs.Order.{lt_or_not, eq_of_neither}
use Rattle.profile.specs.declared.EmptyCellPolicy.TheVariants.{SplitHighestDistortion}
use Rattle.lloyd_search.proofs.SizeLaw.{distance_not_negative}
use Rattle.lloyd_cells.specs.Cells.{Farthest, farthest}
use Rattle.lloyd_cells.specs.Repair.{Repaired, donor_to, least_norm, residual_norm, repair_to, Tallied}
use Rattle.lloyd_cells.proofs.CellsLaw.{first_farthest}
use Rattle.lloyd_cells.proofs.DonorLaw.{donor_plenty, last_largest}
use Rattle.lloyd_cells.proofs.TallyLaw.{tallied, tallied_upto}
use Rattle.lloyd_update.specs.Alone.{Call, update_checks, terms_of}
use Rattle.lloyd_update.specs.Progress.{samples_of, sample_of, cell_of, old_word_of, start_cells, far_of, distance_of}
use Rattle.claim_finite.proofs.UpdateLaw.{update_finite}
use Rattle.claim_rule.specs.Rule.{assigned, takes_part, Donor}
use Rattle.claim_rule.proofs.StandsLaw.{stands}

-- ---- of finite values, what is not at most another is above it
not_either : (a b : Bool) → T (not (a || b)) → T (not a) × T (not b)
not_either true b h = absurd h
not_either false b h = (tt, h)

over : (x y : Float) → T (finite x) → T (finite y) → T (not (le x y)) → T (lt y x)
unfolding le
over x y f g h =
    let (a, b) = not_either (lt x y) (eq x y) h in
    elim (lt_or_not y x) [ inl l ↦ l | inr o ↦ absurd (T_not (eq x y) b (eq_of_neither x y f g a o)) ]

finite_cond : (b : Bool) (x y : Float) → T (finite x) → T (finite y) → T (finite (cond b x y))
finite_cond true x y f g = f
finite_cond false x y f g = g

-- the farthest sample of a cell, by its old distances
abbrev pub farthest_of : Call → ℕ → Farthest
farthest_of c d = farthest (cell_of c) (distance_of c) d (samples_of c)

-- the policy lets a cell without a sample be repaired
abbrev pub Open : Call → Type 0
Open c = (i : ℕ) → i < c.size → assigned c i ≡ 0 → c.policy ≡ SplitHighestDistortion

module _ (c : Call) (pass : update_checks c ≡ completed tt) where
  old_distances : (s : ℕ) → s < samples_of c → T (finite (distance_of c s)) × NotNegative (distance_of c s)
  old_distances s l =
      let f = (update_finite c pass).gathered.distances s l in
      (f.partial_sums c.dim (le_refl c.dim), distance_not_negative c.dim (sample_of c s) (old_word_of c (cell_of c s)) f)

  module _ (e : ℕ) (r : Repaired) (l : e < c.size) (came : repair_to (terms_of c) (far_of c) (start_cells c) e ≡ completed r) (empty : r.cells.tally e ≡ 0) where
    before : Tallied c.size e (assigned c) r.cells.tally
    before = tallied (terms_of c) (far_of c) (start_cells c) e r (le_of_lt l) came

    pub unassigned : assigned c e ≡ 0
    unassigned = elim (eq-zero-or-pos (assigned c e)) [ inl z ↦ z | inr m ↦ let k = before.some e m in absurd (omega arith) ]

    distortions : (i : ℕ) → i < c.size → T (finite (r.cells.distortion i))
    distortions i m =
        rw ((stands c e r came).distortion i)
        (finite_cond (takes_part r.events i) plus_zero ((start_cells c).distortion i) tt ((update_finite c pass).gathered.distortions i (samples_of c) m (le_refl (samples_of c))))

    module _ (d : ℕ) (found : donor_to r.cells.tally r.cells.distortion c.size ≡ Some d) where
      -- its tally never rose, so it was assigned samples
      some : 0 < assigned c d
      some = let p = (donor_plenty r.cells.tally r.cells.distortion c.size d found).1 in elim (tallied_upto before d) [ inl m ↦ omega arith | inr (z, m, o) ↦ absurd (omega arith) ]

      pub donor : Donor c r d (farthest_of c d)
      donor = record {
        last_largest = last_largest r.cells.tally r.cells.distortion c.size d distortions found;
        first_farthest = first_farthest (cell_of c) (distance_of c) d (samples_of c) some old_distances;
      }

      pub above : le (residual_norm c.dim (far_of c d) (r.cells.word d)) least_norm ≡ false → T (lt least_norm (residual_norm c.dim (far_of c d) (r.cells.word d)))
      above h =
          over (residual_norm c.dim (far_of c d) (r.cells.word d)) least_norm ((update_finite c pass).repaired e d r l came empty found).residual.root tt
          (subst (λ (b : Bool). T (not b)) (sym h) tt)
