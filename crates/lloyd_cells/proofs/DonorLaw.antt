-- What `donor_to` finds: among the cells with tally above 1 the last of
-- largest distortion; or that there is no such cell. Assumes nothing.
use Rattle.std.specs.Prelude.{Option, None, Some}
use mathlib.Core.Path.{◌≡◌, refl, subst}
use Prim.Native.Nat.{ℕ, zero, suc, ◌<◌, ◌≤◌}
use native.Mathlib.Nat.{le_step, lt-suc_self}
use native.Mathlib.Omega.{arith}
use mathlib.Core.Bool.{Bool, true, false, not, cond}
use lib.Dec.{T, ltb}
use lib.Ieee.{Float, lt}
use lib.Ieee.Scale.{finite}
use borrow.Author.Tests.{ltb-true, ltb-false}
use Rattle.ieee.proofs.Order.{lt_asym, lt_irr, not_lt_trans}
use Rattle.slices.proofs.FirstLaw.{below_suc}
use Rattle.lloyd_cells.specs.Repair.{donor_to, or_larger, LastLargest}

-- ---- of any distortions: the donor has tally above 1
module _ (t : ℕ → ℕ) (d : ℕ → Float) where
  abbrev Says : ℕ → Option ℕ → Type 0
  Says n None = (i : ℕ) → i < n → t i ≤ 1
  Says n (Some c) = (c < n) × (1 < t c)

  larger : (n c : ℕ) (b : Bool) → 1 < t n → Says n (Some c) → Says (suc n) (cond b (Some c) (Some n))
  larger n c true h (l, k) = (le_step l, k)
  larger n c false h k = (lt-suc_self n, h)

  step : (n : ℕ) (r : Option ℕ) (b : Bool) → ltb 1 (t n) ≡ b → Says n r → Says (suc n) (cond b (or_larger d n r) r)
  step n None true e h = (lt-suc_self n, ltb-true 1 (t n) e)
  step n (Some c) true e h = larger n c (lt (d n) (d c)) (ltb-true 1 (t n) e) h
  step n None false e h = below_suc (λ (i : ℕ). t i ≤ 1) n h (ltb-false 1 (t n) e)
  step n (Some c) false e (l, k) = (le_step l, k)

  says : (n : ℕ) → Says n (donor_to t d n)
  unfolding donor_to
  says zero = λ i l. absurd (omega arith)
  says (suc n) = step n (donor_to t d n) (ltb 1 (t n)) refl (says n)

  pub donor_plenty : (n c : ℕ) → donor_to t d n ≡ Some c → (c < n) × (1 < t c)
  donor_plenty n c e = subst (Says n) e (says n)

  pub donor_none : (n : ℕ) → donor_to t d n ≡ None → (i : ℕ) → i < n → t i ≤ 1
  donor_none n e = subst (Says n) e (says n)

-- ---- the first n cells decide
module _ (t u : ℕ → ℕ) (d e : ℕ → Float) where
  or_larger_ext : (n : ℕ) (r : Option ℕ) → Says u e n r → ((i : ℕ) → i < suc n → d i ≡ e i) → or_larger d n r ≡ or_larger e n r
  or_larger_ext n None s h = refl
  or_larger_ext n (Some c) s h = rw (h n (lt-suc_self n), h c (le_step s.0))

  pub donor_to_ext : (n : ℕ) → ((i : ℕ) → i < n → t i ≡ u i) → ((i : ℕ) → i < n → d i ≡ e i) → donor_to t d n ≡ donor_to u e n
  unfolding donor_to
  donor_to_ext zero h k = refl
  donor_to_ext (suc n) h k = rw (donor_to_ext n (λ i l. h i (le_step l)) (λ i l. k i (le_step l)), h n (lt-suc_self n), or_larger_ext n (donor_to u e n) (says u e n) k)

-- ---- of finite distortions: it is the last of largest distortion
module _ (t : ℕ → ℕ) (d : ℕ → Float) where
  abbrev Largest : ℕ → Option ℕ → Type 0
  Largest n None = (i : ℕ) → i < n → t i ≤ 1
  Largest n (Some c) = LastLargest t d n c

  -- the first cell that may give
  only : (n : ℕ) → 1 < t n → ((i : ℕ) → i < n → t i ≤ 1) → LastLargest t d (suc n) n
  only n h none = record {
    within = lt-suc_self n;
    plenty = h;
    none_larger = below_suc (λ (i : ℕ). 1 < t i → T (not (lt (d n) (d i)))) n (λ i l p. let q = none i l in absurd (omega arith)) (λ p. lt_irr (d n));
    last = λ i l m p. absurd (omega arith);
  }

  stays : (n c : ℕ) → (1 < t n → T (lt (d n) (d c))) → LastLargest t d n c → LastLargest t d (suc n) c
  stays n c h b = record {
    within = le_step b.within;
    plenty = b.plenty;
    none_larger = below_suc (λ (i : ℕ). 1 < t i → T (not (lt (d c) (d i)))) n b.none_larger (λ p. lt_asym (d n) (d c) (h p));
    last = λ i l m. below_suc (λ (j : ℕ). c < j → 1 < t j → T (lt (d j) (d c))) n (λ j m k. b.last j k m) (λ k. h) i m l;
  }

  module _ (n c : ℕ) (fine : (i : ℕ) → i < suc n → T (finite (d i))) (h : 1 < t n) (b : LastLargest t d n c) where
    moves : T (not (lt (d n) (d c))) → LastLargest t d (suc n) n
    moves k = record {
      within = lt-suc_self n;
      plenty = h;
      none_larger =
          below_suc (λ (i : ℕ). 1 < t i → T (not (lt (d n) (d i)))) n
          (λ i l p. not_lt_trans (d n) (d c) (d i) (fine n (lt-suc_self n)) (fine c (le_step b.within)) (fine i (le_step l)) k (b.none_larger i l p)) (λ p. lt_irr (d n));
      last = λ i l m p. absurd (omega arith);
    }

    chosen : (q : Bool) → (T q → T (lt (d n) (d c))) → (T (not q) → T (not (lt (d n) (d c)))) → Largest (suc n) (cond q (Some c) (Some n))
    chosen true did did-not = stays n c (λ p. did tt) b
    chosen false did did-not = moves (did-not tt)

  grows : (n : ℕ) (r : Option ℕ) (q : Bool) → ((i : ℕ) → i < suc n → T (finite (d i))) → ltb 1 (t n) ≡ q → Largest n r → Largest (suc n) (cond q (or_larger d n r) r)
  grows n None true fine e h = only n (ltb-true 1 (t n) e) h
  grows n (Some c) true fine e h = chosen n c fine (ltb-true 1 (t n) e) h (lt (d n) (d c)) (λ q. q) (λ q. q)
  grows n None false fine e h = below_suc (λ (i : ℕ). t i ≤ 1) n h (ltb-false 1 (t n) e)
  grows n (Some c) false fine e h = stays n c (λ p. let k = ltb-false 1 (t n) e in absurd (omega arith)) h

  largest : (n : ℕ) → ((i : ℕ) → i < n → T (finite (d i))) → Largest n (donor_to t d n)
  unfolding donor_to
  largest zero fine = λ i l. absurd (omega arith)
  largest (suc n) fine = grows n (donor_to t d n) (ltb 1 (t n)) fine refl (largest n (λ i l. fine i (le_step l)))

  pub last_largest : (n c : ℕ) → ((i : ℕ) → i < n → T (finite (d i))) → donor_to t d n ≡ Some c → LastLargest t d n c
  last_largest n c fine e = subst (Largest n) e (largest n fine)
