-- What `first_least` finds among finite distances: the index of the first least,
-- with its distance; among any, an index below their number. Assumes nothing.
use mathlib.Core.Path.{◌≡◌, refl, sym, ◌∙◌, subst}
use Prim.Native.Nat.{ℕ, zero, suc, ◌+◌, ◌<◌, ◌≤◌}
use native.Mathlib.Nat.{zero-lt-suc, lt-suc_self, le_step, le_of_eq, le_trans, le-suc}
use native.Mathlib.Omega.{arith}
use native.Mathlib.Numerals.{add-one}
use mathlib.Core.Bool.{Bool, true, false, not}
use lib.Dec.{T, T_not}
use lib.Ieee.{Float, inf, lt}
use lib.Ieee.Scale.{finite}
use Rattle.ieee.proofs.Order.{cut_lt, lt_asym, lt_irr, finite_lt_inf}
use Rattle.slices.proofs.FirstLaw.{below_suc}
use Rattle.lloyd_search.specs.declared.Found.{Found}
use Rattle.lloyd_search.specs.declared.Choice.{Choice}
use Rattle.lloyd_search.specs.Nearest.{first_least, pick, Least}
use Rattle.lloyd_search.specs.Choice.{last_least, choice, passing}

-- ---- one more codeword of a loop
pub one_more : (d : ℕ → Float) (i j : ℕ) (best r : Choice) (x : Float) → j ≡ i + 1 → best ≡ choice d i → x ≡ d i → r ≡ passing best i x → r ≡ choice d j
unfolding first_least last_least
one_more d i j best r x next h e k = k ∙ rw (next, add-one, h, e)

-- ---- what is found
none : (P : ℕ → Type 0) (i : ℕ) → i < 0 → P i
none P i h = absurd (omega arith)

module _ (d : ℕ → Float) where
  -- the first, below infinity
  start : (b : Bool) → T b → Least d 1 (pick b (record { index = 0; distance = d 0 }) (record { index = 0; distance = inf false }))
  start true t = record {
    within = zero-lt-suc 0;
    is = refl;
    none_nearer = below_suc (λ (i : ℕ). T (not (lt (d i) (d 0)))) 0 (none (λ (i : ℕ). T (not (lt (d i) (d 0))))) (lt_irr (d 0));
    first = none (λ (i : ℕ). T (lt (d 0) (d i)));
  }
  start false t = absurd t

  -- one more
  step : (n : ℕ) (r : Found) (b : Bool) → ((i : ℕ) → i < suc n → T (finite (d i))) → Least d n r → (T b → T (lt (d n) r.distance)) → (T (not b) → T (not (lt (d n) r.distance)))
      → Least d (suc n) (pick b (record { index = n; distance = d n }) r)
  step n r true fine h did did-not =
      let fr : T (finite r.distance) = subst (λ (x : Float). T (finite x)) (sym h.is) (fine r.index (le_step h.within)) in
      let after : (i : ℕ) → i < n → T (lt (d n) (d i)) = λ i l. cut_lt (d n) r.distance (d i) (fine n (lt-suc_self n)) fr (fine i (le_step l)) (did tt) (h.none_nearer i l) in
      record {
        within = lt-suc_self n;
        is = refl;
        none_nearer = below_suc (λ (i : ℕ). T (not (lt (d i) (d n)))) n (λ i l. lt_asym (d n) (d i) (after i l)) (lt_irr (d n));
        first = after;
      }
  step n r false fine h did did-not = record {
    within = le_step h.within;
    is = h.is;
    none_nearer = below_suc (λ (i : ℕ). T (not (lt (d i) r.distance))) n h.none_nearer (did-not tt);
    first = h.first;
  }

  least_of : (n : ℕ) → ((i : ℕ) → i < suc n → T (finite (d i))) → Least d (suc n) (first_least d (suc n))
  unfolding first_least
  least_of zero fine = start (lt (d 0) (inf false)) (finite_lt_inf (d 0) (fine 0 (zero-lt-suc 0)))
  least_of (suc n) fine = step (suc n) (first_least d (suc n)) (lt (d (suc n)) (first_least d (suc n)).distance) fine (least_of n (λ i l. fine i (le_step l))) (λ t. t) (λ t. t)

  pub first_least_lem : (n : ℕ) → 1 ≤ n → ((i : ℕ) → i < n → T (finite (d i))) → Least d n (first_least d n)
  first_least_lem zero h fine = absurd (omega arith)
  first_least_lem (suc n) h fine = least_of n fine

-- ---- a distance found below infinity is that of its codeword, whatever the distances
pub found_is : (d : ℕ → Float) (n : ℕ) → T (lt (first_least d n).distance (inf false)) → (first_least d n).distance ≡ d (first_least d n).index
unfolding first_least
found_is d zero h = absurd (T_not (lt (inf false) (inf false)) (lt_irr (inf false)) h)
found_is d (suc n) h = go (lt (d n) (first_least d n).distance) (first_least d n) (found_is d n) h
  where
    go : (b : Bool) (r : Found) → (T (lt r.distance (inf false)) → r.distance ≡ d r.index) → T (lt (pick b (record { index = n; distance = d n }) r).distance (inf false))
        → (pick b (record { index = n; distance = d n }) r).distance ≡ d (pick b (record { index = n; distance = d n }) r).index
    go true r f t = refl
    go false r f t = f t

-- ---- an index is below the number of codewords, whatever the distances
picked : (b : Bool) (f : Found) (n : ℕ) (x : Float) → f.index ≤ n → (pick b (record { index = n; distance = x }) f).index ≤ n
picked true f n x h = le_of_eq refl
picked false f n x h = h

index_upto : (d : ℕ → Float) (n : ℕ) → (first_least d (suc n)).index ≤ n
unfolding first_least
index_upto d zero = picked (lt (d 0) (first_least d 0).distance) (first_least d 0) 0 (d 0) (le_of_eq refl)
index_upto d (suc n) = picked (lt (d (suc n)) (first_least d (suc n)).distance) (first_least d (suc n)) (suc n) (d (suc n)) (le_trans (index_upto d n) (le-suc n))

pub index_below : (d : ℕ → Float) (n : ℕ) → 1 ≤ n → (first_least d n).index < n
index_below d zero h = absurd (omega arith)
index_below d (suc n) h = let l = index_upto d n in omega arith
