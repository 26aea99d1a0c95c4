-- The repairs of an update: how far they move codewords, and that every result of them is finite. Assumes nothing.
use Rattle.std.specs.Prelude.{Some}
use mathlib.Core.Path.{◌≡◌, sym, subst}
use mathlib.Core.Logic.{inl, inr}
use Prim.Native.Nat.{ℕ, zero, suc, ◌+◌, ◌^◌, ◌≤◌, ◌<◌}
use native.Mathlib.Nat.{le_refl, le_of_lt, mul-one}
use native.Mathlib.Omega.{arith}
use native.Mathlib.Decide.{ℕ_discrete}
use mathlib.Core.Bool.{Bool, not}
use mathlib.Core.List.{[], ◌∷◌}
use lib.Dec.{T, lit≤}
use lib.Pow.{pow_mono}
use lib.Ieee.{Float, nan, inf, fin, binary64, add, sub, div, le}
use lib.Ieee.Scale.{finite}
use borrow.Author.Tests.{eq-eqb, ne_eqb}
use Rattle.error.specs.Numbers.{completed, whole}
use Rattle.error.proofs.Outcomes.{passed, then_completed}
use Rattle.ieee.specs.Bounds.{AtMost, Upto, Holds}
use Rattle.ieee.proofs.Bound.{add_upto, sub_upto, at_most_finite, upto_finite, upto_mono, never_passes}
use Rattle.ieee.proofs.Value.{holds_true}
use Rattle.root.proofs.Bounds.{sqrt_finite, sqrt_not_negative}
use Rattle.lloyd_search.specs.Distance.{distance}
use Rattle.lloyd_search.specs.Finite.{FiniteDistance}
use Rattle.lloyd_search.proofs.FiniteLaw.{Bounded, difference_upto, finite_distance, distance_fits}
use Rattle.lloyd_cells.specs.Repair.{Cells, Terms, Repaired, donor_to, least_norm, residual_norm, shift, repair_by, turn, repair_to}
use Rattle.lloyd_cells.proofs.DonorLaw.{donor_plenty}
use Rattle.lloyd_cells.proofs.TallyLaw.{split_by, turn_completed, tallied, tallied_upto}
use Rattle.claim_finite.specs.Finite.{FiniteResidual, FiniteSplit, FiniteRepair, FiniteRepairs, WordsUpto}
use Rattle.lloyd_search.proofs.SizeLaw.{distance_not_negative}
use Rattle.claim_finite.proofs.ShiftLaw.{above_least, direction_upto, shift_upto}

-- ---- one donor: its farthest sample and its codeword are at most 2 ^ 49
module _ (k : ℕ) (far word : ℕ → Float) (few : k ≤ 256) (f : Bounded 49 k far) (w : Bounded 49 k word) where
  abbrev norm : Float
  norm = residual_norm k far word

  fine : FiniteDistance k far word
  fine = finite_distance 49 (lit≤ tt) k few far word f w

  norm_finite : T (finite norm)
  norm_finite = upto_finite norm (2 ^ 512) (sqrt_finite (distance k far word) (holds_true (distance_fits k far word)) (fine.partial_sums k (le_refl k)) (distance_not_negative k far word fine))

  finite_residual : FiniteResidual k far word
  finite_residual = record { squared = fine; root = norm_finite }

  -- the split is made
  module _ (above : T (not (le norm least_norm))) (j : ℕ) (l : j < k) where
    quotient_upto : AtMost (div binary64 (sub binary64 (far j) (word j)) norm) 2 1
    quotient_upto =
        direction_upto k far word fine (above_least norm norm_finite (sqrt_not_negative binary64 (distance k far word) (distance_not_negative k far word fine)) above) j l 50 (lit≤ tt)
        (difference_upto 49 (lit≤ tt) (far j) (word j) (f j l) (w j l))

    move_upto : AtMost (shift (far j) (word j) norm) 1 64
    move_upto = shift_upto (far j) (word j) norm quotient_upto

-- ---- bounds B e, after the turns of e of n cells, that a move of at most 1 / 64 does not pass
pub record Widening (n : ℕ) (B : ℕ → ℕ) : Type 0 where
  pub added : (e : ℕ) (x y : Float) → e < n → Upto x (B e) → AtMost y 1 64 → Upto (add binary64 x y) (B (suc e))
  pub taken : (e : ℕ) (x y : Float) → e < n → Upto x (B e) → AtMost y 1 64 → Upto (sub binary64 x y) (B (suc e))
  pub grows : (e : ℕ) → B e ≤ B (suc e)
  pub under : (e : ℕ) → e ≤ n → B e ≤ 2 ^ 49

-- 2 ^ 48, for any number of turns
pub never : (n : ℕ) → Widening n (λ e. 2 ^ 48)
never n = record {
  added = λ e x y l h k. (never_passes x y h k).0;
  taken = λ e x y l h k. (never_passes x y h k).1;
  grows = λ e. le_refl (2 ^ 48);
  under = λ e l. lit≤ tt;
}

-- 1 more a turn: whole numbers below 2 ^ 53 are values of binary64
module _ (b n : ℕ) (small : b ≤ 48) (few : n ≤ 1048576) where
  low : 2 ^ b ≤ 2 ^ 48
  low = pow_mono small

  next : (e : ℕ) → e < n → Holds binary64 (2 ^ b + e + 1)
  next e l = let p = low in record { q = 2 ^ b + e + 1; j = 0; small = omega arith; reach = lit≤ tt; is = sym (mul-one (2 ^ b + e + 1)) }

  whole_step : (y : Float) → AtMost y 1 64 → Upto y 1
  whole_step nan k = k
  whole_step (inf s) k = k
  whole_step (fin s m e) k = omega arith

  one_more : (e : ℕ) → 2 ^ b + e + 1 ≡ 2 ^ b + suc e
  one_more e = omega arith

  pub by_one : Widening n (λ e. 2 ^ b + e)
  by_one = record {
    added = λ e x y l h k. subst (Upto (add binary64 x y)) (one_more e) (add_upto binary64 x y (2 ^ b + e) 1 (next e l) h (whole_step y k));
    taken = λ e x y l h k. subst (Upto (sub binary64 x y)) (one_more e) (sub_upto binary64 x y (2 ^ b + e) 1 (next e l) h (whole_step y k));
    grows = λ e. omega arith;
    under = λ e l. let p = low in omega arith;
  }

-- ---- the repairs
module _ (t : Terms) (far : ℕ → ℕ → Float) (st : Cells) (B : ℕ → ℕ) (few : t.dim ≤ 256) (wide : Widening t.cells B) (farthest-upto : (c : ℕ) → 1 < st.tally c → Bounded 49 t.dim (far c))
  where
    -- the codewords before the turn of cell e
    abbrev Sofar : ℕ → Repaired → Type 0
    Sofar e r = WordsUpto (B e) t.dim t.cells r.cells

    -- cell c is the donor of cell e
    module _ (e c : ℕ) (r : Repaired) (l : e < t.cells) (came : repair_to t far st e ≡ completed r) (words : Sofar e r) (donor : donor_to r.cells.tally r.cells.distortion t.cells ≡ Some c) where
      plenty : (c < t.cells) × (1 < r.cells.tally c)
      plenty = donor_plenty r.cells.tally r.cells.distortion t.cells c donor

      -- it had samples from the start
      far_upto : Bounded 49 t.dim (far c)
      far_upto = let p = plenty.1 in farthest-upto c (elim (tallied_upto (tallied t far st e r (le_of_lt l) came) c) [ inl m ↦ omega arith | inr (z, m, o) ↦ absurd (omega arith) ])

      word_upto : (j : ℕ) → j < t.dim → Upto (r.cells.word c j) (B e)
      word_upto j m = let p = plenty.1 in words c j plenty.0 m (omega arith)

      word_upto_49 : Bounded 49 t.dim (r.cells.word c)
      word_upto_49 j m = upto_mono (r.cells.word c j) (B e) (2 ^ 49) (word_upto j m) (wide.under e (le_of_lt l))

      abbrev donor_norm : Float
      donor_norm = residual_norm t.dim (far c) (r.cells.word c)

      -- the split is made
      module _ (above : T (not (le donor_norm least_norm))) (j : ℕ) (m : j < t.dim) where
        moved_upto : AtMost (shift (far c j) (r.cells.word c j) donor_norm) 1 64
        moved_upto = move_upto t.dim (far c) (r.cells.word c) few far_upto word_upto_49 above j m

        added_upto : Upto (add binary64 (r.cells.word c j) (shift (far c j) (r.cells.word c j) donor_norm)) (B (suc e))
        added_upto = wide.added e (r.cells.word c j) (shift (far c j) (r.cells.word c j) donor_norm) l (word_upto j m) moved_upto

        taken_upto : Upto (sub binary64 (r.cells.word c j) (shift (far c j) (r.cells.word c j) donor_norm)) (B (suc e))
        taken_upto = wide.taken e (r.cells.word c j) (shift (far c j) (r.cells.word c j) donor_norm) l (word_upto j m) moved_upto

      finite_split : T (not (le donor_norm least_norm)) → FiniteSplit t.dim (far c) (r.cells.word c) donor_norm
      finite_split above = record {
        quotients = λ j m. at_most_finite (div binary64 (sub binary64 (far c j) (r.cells.word c j)) donor_norm) 2 1 (quotient_upto t.dim (far c) (r.cells.word c) few far_upto word_upto_49 above j m);
        products = λ j m. at_most_finite (shift (far c j) (r.cells.word c j) donor_norm) 1 64 (moved_upto above j m);
        sums = λ j m. upto_finite (add binary64 (r.cells.word c j) (shift (far c j) (r.cells.word c j) donor_norm)) (B (suc e)) (added_upto above j m);
        differences = λ j m. upto_finite (sub binary64 (r.cells.word c j) (shift (far c j) (r.cells.word c j) donor_norm)) (B (suc e)) (taken_upto above j m);
      }

      finite_repair : FiniteRepair t.dim far r c
      finite_repair = record { residual = finite_residual t.dim (far c) (r.cells.word c) few far_upto word_upto_49; split = finite_split }

      -- the codewords afterwards
      words_split : T (not (le donor_norm least_norm)) → Sofar (suc e) (split_by t far e r c)
      words_split above i j g m some = elim (ℕ_discrete i c) [
        | yes q ↦ rw (eq-eqb i c q) (taken_upto above j m)
        | no o ↦ elim (ℕ_discrete i e) [
          | yes q ↦ rw (ne_eqb i c o, eq-eqb i e q) (added_upto above j m)
          | no p ↦ rw (ne_eqb i c o, ne_eqb i e p) (upto_mono (r.cells.word i j) (B e) (B (suc e)) (words i j g m (rw (ne_eqb i c o, ne_eqb i e p) at some)) (wide.grows e))
        ]
      ]

      -- a turn that is completed has made the split
      made : (s : Repaired) → turn t far e r ≡ completed s → r.cells.tally e ≡ 0 → T (not (le donor_norm least_norm))
      made s h z =
          let by : repair_by t far e r (Some c) ≡ completed s = rw (eq-eqb (r.cells.tally e) 0 z, donor) at h in
          subst (λ (b : Bool). T (not b)) (sym (passed (le donor_norm least_norm) 16 (whole c ∷ []) _ s by).0) tt

    words_turn : (e : ℕ) (r s : Repaired) → e < t.cells → repair_to t far st e ≡ completed r → Sofar e r → turn t far e r ≡ completed s → Sofar (suc e) s
    words_turn e r s l came words h = elim (turn_completed t far e r s h) [
      | inl (p, q) ↦ subst (Sofar (suc e)) (sym q) (λ i j g m some. upto_mono (r.cells.word i j) (B e) (B (suc e)) (words i j g m some) (wide.grows e))
      | inr (c, z, d, q) ↦ subst (Sofar (suc e)) (sym q) (words_split e c r l came words d (made e c r l came words d s h z))
    ]

    module _ (start : WordsUpto (B 0) t.dim t.cells st) where
      pub words_after : (e : ℕ) (r : Repaired) → e ≤ t.cells → repair_to t far st e ≡ completed r → Sofar e r
      unfolding repair_to
      words_after zero r l h = let q : record { cells = st; events = [] } ≡ r = cc in subst (Sofar 0) q start
      words_after (suc e) r l h =
          let (x, p, q) = then_completed (repair_to t far st e) (turn t far e) r h in
          words_turn e x r l p (words_after e x (le_of_lt l) p) q

      pub finite_repairs : FiniteRepairs t far st
      finite_repairs e c r l came z donor = finite_repair e c r l came (words_after e r (le_of_lt l) came) donor
