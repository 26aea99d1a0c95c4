-- The rule of an update, as it is meant: `rule`, at the end, for any call whose checks passed. Assumes nothing.
use mathlib.Core.Path.{◌≡◌, refl, sym, ap, subst}
use mathlib.Core.Logic.{◌⊎◌, inl, inr}
use Prim.Native.Nat.{ℕ, zero, suc, ◌<◌, ◌≤◌, zero-le}
use native.Mathlib.Nat.{le_refl, le_of_lt}
use native.Mathlib.Omega.{arith}
use mathlib.Core.Bool.{Bool, true, false, ◌&&◌, cond}
use mathlib.Core.List.{List, [], ◌∷◌}
use lib.Dec.{T, eqb, ltb}
use lib.IntN.{pos}
use lib.Ieee.{Float, binary64, div, of_int}
use borrow.Author.Tests.{eqb-true, ltb-true, ltb-false, lt-ltb, le-ltb}
use Rattle.error.specs.Numbers.{Value, Outcome, completed, refused, whole}
use Rattle.error.proofs.Outcomes.{passed, then_refused}
use Rattle.profile.specs.declared.EmptyCellPolicy.{EmptyCellPolicy}
use Rattle.profile.specs.declared.EmptyCellPolicy.TheVariants.{SplitHighestDistortion, FailClosed}
use Rattle.lloyd_cells.specs.Cells.{count_to}
use Rattle.lloyd_cells.specs.Repair.{Repaired, repair_by, turn, repair_to}
use Rattle.lloyd_cells.specs.Update.{fails_closed, updated}
use Rattle.lloyd_cells.proofs.CellsLaw.{count_to_some, count_to-none}
use Rattle.lloyd_cells.proofs.DonorLaw.{donor_none}
use Rattle.lloyd_repair.proofs.TurnLaw.{skip}
use Rattle.lloyd_update.specs.Alone.{Call, update_checks, terms_of, update_of}
use Rattle.lloyd_update.specs.Progress.{samples_of, sample_of, cell_of, start_cells, far_of, distance_of}
use Rattle.lloyd_update.proofs.RepairsLaw.{events_within}
use Rattle.claim_rule.specs.Rule.{assigned, Cell, Accepted, NoDonor, NoDirection, SlotsUsed, Refused, Rule}
use Rattle.claim_rule.proofs.MembersLaw.{counted}
use Rattle.claim_rule.proofs.StandsLaw.{donor_in, Donorless, Small, Used, by_refused}
use Rattle.claim_rule.proofs.DueLaw.{farthest_of, Open, donor, above}
use Rattle.claim_rule.proofs.EventsLaw.{made, due}

-- ---- the means
cell : (c : Call) (i : ℕ) → Cell c i
cell c i =
    let h = counted (cell_of c) i (samples_of c) in
    record {
      member = h.member;
      members = h.members;
      sums = h.sums;
      mean = λ j l. rw (lt-ltb 0 (assigned c i) l) (ap (λ (x : Float). div binary64 x (of_int binary64 (pos (assigned c i)))) (h.sums (λ s. sample_of c s j)));
      kept = λ j z. rw (le-ltb 0 (assigned c i) (omega arith));
      distortion = h.sums (distance_of c);
    }

-- ---- where the repairs were refused
module _ (c : Call) where
  abbrev repairs : ℕ → Outcome Repaired
  repairs e = repair_to (terms_of c) (far_of c) (start_cells c) e

  abbrev none : ℕ
  none = count_to (assigned c) 0 c.size

  refused_at : (e n : ℕ) (vs : List Value) → e ≤ c.size → repairs e ≡ refused n vs → (i : ℕ) × (r : Repaired) × (i < c.size) × (repairs i ≡ completed r) × (turn (terms_of c) (far_of c) i r ≡ refused n vs)
  unfolding repair_to
  refused_at zero n vs l h = let z : ◌≡◌ {A = ℕ} 0 1 = cc in absurd (omega arith)
  refused_at (suc e) n vs l h = elim (then_refused (repairs e) (turn (terms_of c) (far_of c) e) n vs h) [
    | inl p ↦ refused_at e n vs (le_of_lt l) p
    | inr (x, p, q) ↦ (e, x, l, p, q)
  ]

  -- a turn is refused for an empty cell only
  at-empty : (e : ℕ) (r : Repaired) (n : ℕ) (vs : List Value) → turn (terms_of c) (far_of c) e r ≡ refused n vs
      → (r.cells.tally e ≡ 0) × (Donorless (terms_of c) (far_of c) e r n vs ⊎ (Small (terms_of c) (far_of c) e r n vs ⊎ Used (terms_of c) (far_of c) e r n vs))
  at-empty e r n vs h = go (eqb (r.cells.tally e) 0) refl h
    where
      go : (b : Bool) → eqb (r.cells.tally e) 0 ≡ b → cond b (repair_by (terms_of c) (far_of c) e r (donor_in (terms_of c) r)) (completed r) ≡ refused n vs
          → (r.cells.tally e ≡ 0) × (Donorless (terms_of c) (far_of c) e r n vs ⊎ (Small (terms_of c) (far_of c) e r n vs ⊎ Used (terms_of c) (far_of c) e r n vs))
      go true q k = (eqb-true (r.cells.tally e) 0 q, by_refused (terms_of c) (far_of c) e r (donor_in (terms_of c) r) refl n vs k)
      go false q k = let z : ◌≡◌ {A = ℕ} 0 1 = cc in absurd (omega arith)

  -- the test of the policy
  allowed : (fails_closed c.policy && ltb 0 none) ≡ false → Open c
  allowed h i l z = go c.policy h
    where
      go : (p : EmptyCellPolicy) → (fails_closed p && ltb 0 none) ≡ false → p ≡ SplitHighestDistortion
      go SplitHighestDistortion k = refl
      go FailClosed k = let a = ltb-false 0 none k in let b = count_to_some (assigned c) 0 c.size i l z in absurd (omega arith)

  closed : (fails_closed c.policy && ltb 0 none) ≡ true → (c.policy ≡ FailClosed) × (0 < none)
  closed h = go c.policy h
    where
      go : (p : EmptyCellPolicy) → (fails_closed p && ltb 0 none) ≡ true → (p ≡ FailClosed) × (0 < none)
      go SplitHighestDistortion k = absurd (subst T (sym k) tt)
      go FailClosed k = (refl, ltb-true 0 none k)

  module _ (pass : update_checks c ≡ completed tt) where
    accepts : (r : Repaired) → update_of c ≡ completed r → Accepted c r
    unfolding updated
    accepts r h =
        let (policy, done) = passed (fails_closed c.policy && ltb 0 none) 14 (whole none ∷ []) (repairs c.size) r h in
        made c pass (allowed policy) c.size r (le_refl c.size) done

    module _ (ok : Open c) (n : ℕ) (vs : List Value) (e : ℕ) (r : Repaired) (l : e < c.size) (came : repairs e ≡ completed r) (empty : r.cells.tally e ≡ 0) where
      no_donor : Donorless (terms_of c) (far_of c) e r n vs → NoDonor c n vs
      no_donor (number, shown, nowhere) = record {
        number = number;
        cell = e;
        shown = shown;
        before = r;
        due = due c pass ok e r l came empty;
        none = donor_none r.cells.tally r.cells.distortion c.size nowhere;
      }

      no_direction : Small (terms_of c) (far_of c) e r n vs → NoDirection c n vs
      no_direction (d, number, shown, found, small) = record {
        number = number;
        donor = d;
        shown = shown;
        cell = e;
        before = r;
        due = due c pass ok e r l came empty;
        far = farthest_of c d;
        found = donor c pass e r l came empty d found;
        small = subst T (sym small) tt;
      }

      slots_used : Used (terms_of c) (far_of c) e r n vs → SlotsUsed c n vs
      slots_used (d, number, shown, found, wide, full) = record {
        number = number;
        shown = shown;
        cell = e;
        before = r;
        due = due c pass ok e r l came empty;
        donor = d;
        far = farthest_of c d;
        found = donor c pass e r l came empty d found;
        above = above c pass e r l came empty d found wide;
        used = let m = events_within (terms_of c) (far_of c) (start_cells c) e r came in omega arith;
      }

    repairs_refused : Open c → (n : ℕ) (vs : List Value) → repairs c.size ≡ refused n vs → Refused c n vs
    repairs_refused ok n vs h =
        let (e, r, l, came, k) = refused_at c.size n vs (le_refl c.size) h in
        let (empty, reason) = at-empty e r n vs k in
        elim reason [
          | inl x ↦ inr (inl (no_donor ok n vs e r l came empty x))
          | inr other ↦ elim other [
            | inl x ↦ inr (inr (inl (no_direction ok n vs e r l came empty x)))
            | inr x ↦ inr (inr (inr (slots_used ok n vs e r l came empty x)))
          ]
        ]

    refuses : (n : ℕ) (vs : List Value) → update_of c ≡ refused n vs → Refused c n vs
    unfolding updated
    refuses n vs h = go (fails_closed c.policy && ltb 0 none) refl h
      where
        go : (b : Bool) → (fails_closed c.policy && ltb 0 none) ≡ b → cond b (refused 14 (whole none ∷ [])) (repairs c.size) ≡ refused n vs → Refused c n vs
        go true q k = let u : 14 ≡ n = cc in let v : whole none ∷ [] ≡ vs = cc in inl (record { number = sym u; policy = (closed q).0; some = (closed q).1; shown = sym v })
        go false q k = repairs_refused (allowed q) n vs k

  -- every cell has a sample
  full : ((i : ℕ) → i < c.size → 0 < assigned c i) → update_of c ≡ completed (record { cells = start_cells c; events = [] })
  unfolding updated repair_to
  full h = go c.policy
    where
      zero_none : none ≡ 0
      zero_none = count_to-none (assigned c) 0 c.size (λ i l z. let k = h i l in omega arith)

      all : repairs c.size ≡ completed (record { cells = start_cells c; events = [] })
      all = skip (terms_of c) (far_of c) (start_cells c) 0 c.size (record { cells = start_cells c; events = [] }) zero-le refl (λ i a l z. let k = h i l in omega arith)

      go : (p : EmptyCellPolicy) → cond (fails_closed p && ltb 0 none) (refused 14 (whole none ∷ [])) (repairs c.size) ≡ completed (record { cells = start_cells c; events = [] })
      go SplitHighestDistortion = all
      go FailClosed = rw zero_none all

pub rule : (c : Call) → update_checks c ≡ completed tt → Rule c
rule c pass = record { cells = cell c; accepts = accepts c pass; refuses = refuses c pass; full = full c }
