-- A search among distances that are no NaN and not below zero, infinite ones included, finds the first of the least;
-- and such are the distances between finite values. Assumes nothing.
use mathlib.Core.Path.{◌≡◌, refl, sym, subst}
use Prim.Native.Nat.{ℕ, zero, suc, ◌+◌, ◌-◌, ◌*◌, ◌<◌, ◌≤◌}
use native.Mathlib.Nat.{zero-lt-suc, lt-suc_self, le_step}
use native.Mathlib.Omega.{arith}
use mathlib.Core.Bool.{Bool, true, false, not, ◌&&◌, beq, cond, true≢false}
use lib.Dec.{T, ltb}
use lib.Ieee.{Float, nan, inf, fin, Format, binary64, up, down, round, sum, neg, add, sub, mul, lt, is_nan}
use lib.Ieee.Scale.{finite}
use Rattle.ieee.specs.Bounds.{NotNegative}
use Rattle.ieee.specs.Sum.{squared_difference}
use Rattle.ieee.proofs.Order.{cut_lt, lt_asym, lt_irr}
use Rattle.ieee.proofs.Sign.{square_not_negative, sum_to_not_negative}
use Rattle.slices.proofs.FirstLaw.{below_suc}
use Rattle.narrow.proofs.PackLaw.{no_nan}
use Rattle.lloyd_search.specs.declared.Found.{Found}
use Rattle.lloyd_search.specs.Distance.{distance}
use Rattle.lloyd_search.specs.Nearest.{first_least, pick, Least}

-- ---- the order
-- x < y ≤ z
cut : (x y z : Float) → NotNegative x → NotNegative y → NotNegative z → T (lt x y) → T (not (lt z y)) → T (lt x z)
unfolding lt
cut nan y z p q r a b = absurd p
cut (inf true) y z p q r a b = absurd (true≢false p)
cut (inf false) nan z p q r a b = absurd q
cut (inf false) (inf t) z p q r a b = absurd a
cut (inf false) (fin t n d) z p q r a b = absurd a
cut (fin s m e) nan z p q r a b = absurd q
cut (fin s m e) (inf true) z p q r a b = absurd (true≢false q)
cut (fin s m e) (inf false) nan p q r a b = absurd r
cut (fin s m e) (inf false) (inf true) p q r a b = absurd (true≢false r)
cut (fin s m e) (inf false) (inf false) p q r a b = tt
cut (fin s m e) (inf false) (fin u o i) p q r a b = absurd b
cut (fin s m e) (fin t n d) nan p q r a b = absurd r
cut (fin s m e) (fin t n d) (inf true) p q r a b = absurd (true≢false r)
cut (fin s m e) (fin t n d) (inf false) p q r a b = tt
cut (fin s m e) (fin t n d) (fin u o i) p q r a b = cut_lt (fin s m e) (fin t n d) (fin u o i) tt tt tt a b

not_below : (x : Float) → NotNegative x → T (not (lt x (inf false))) → inf false ≡ x
unfolding lt
not_below nan p h = absurd p
not_below (inf true) p h = absurd (true≢false p)
not_below (inf false) p h = refl
not_below (fin s m e) p h = absurd h

-- ---- the search
none : (P : ℕ → Type 0) (i : ℕ) → i < 0 → P i
none P i h = absurd (omega arith)

module _ (d : ℕ → Float) where
  -- the first alone
  alone : (x : Float) → x ≡ d 0 → Least d 1 (record { index = 0; distance = x })
  alone x e = record {
    within = zero-lt-suc 0;
    is = e;
    none_nearer = below_suc (λ (i : ℕ). T (not (lt (d i) x))) 0 (none (λ (i : ℕ). T (not (lt (d i) x)))) (subst (λ (y : Float). T (not (lt (d 0) y))) (sym e) (lt_irr (d 0)));
    first = none (λ (i : ℕ). T (lt x (d i)));
  }

  start : (b : Bool) → (T (not b) → inf false ≡ d 0) → Least d 1 (pick b (record { index = 0; distance = d 0 }) (record { index = 0; distance = inf false }))
  start true h = alone (d 0) refl
  start false h = alone (inf false) (h tt)

  -- one more
  step : (n : ℕ) (r : Found) (b : Bool) → ((i : ℕ) → i < suc n → NotNegative (d i)) → Least d n r → (T b → T (lt (d n) r.distance)) → (T (not b) → T (not (lt (d n) r.distance)))
      → Least d (suc n) (pick b (record { index = n; distance = d n }) r)
  step n r true real h did did-not =
      let p : NotNegative r.distance = subst NotNegative (sym h.is) (real r.index (le_step h.within)) in
      let after : (i : ℕ) → i < n → T (lt (d n) (d i)) = λ i l. cut (d n) r.distance (d i) (real n (lt-suc_self n)) p (real i (le_step l)) (did tt) (h.none_nearer i l) in
      record {
        within = lt-suc_self n;
        is = refl;
        none_nearer = below_suc (λ (i : ℕ). T (not (lt (d i) (d n)))) n (λ i l. lt_asym (d n) (d i) (after i l)) (lt_irr (d n));
        first = after;
      }
  step n r false real h did did-not = record {
    within = le_step h.within;
    is = h.is;
    none_nearer = below_suc (λ (i : ℕ). T (not (lt (d i) r.distance))) n h.none_nearer (did-not tt);
    first = h.first;
  }

  least_of : (n : ℕ) → ((i : ℕ) → i < suc n → NotNegative (d i)) → Least d (suc n) (first_least d (suc n))
  unfolding first_least
  least_of zero real = start (lt (d 0) (inf false)) (not_below (d 0) (real 0 (zero-lt-suc 0)))
  least_of (suc n) real = step (suc n) (first_least d (suc n)) (lt (d (suc n)) (first_least d (suc n)).distance) real (least_of n (λ i l. real i (le_step l))) (λ t. t) (λ t. t)

  pub least_found : (n : ℕ) → 1 ≤ n → ((i : ℕ) → i < n → NotNegative (d i)) → Least d n (first_least d n)
  least_found zero h real = absurd (omega arith)
  least_found (suc n) h real = least_of n real

-- ---- the distances
chosen : (P : Float → Type 0) (a b : Bool) (x y z : Float) → P x → P y → P z → P (cond a x (cond b y z))
chosen P true b x y z p q r = p
chosen P false true x y z p q r = q
chosen P false false x y z p q r = r

difference_real : (f : Format) (x y : Float) → T (finite x) → T (finite y) → T (not (is_nan (sub f x y)))
unfolding sub add neg sum
difference_real f nan y p q = absurd p
difference_real f (inf s) y p q = absurd p
difference_real f (fin s m e) nan p q = absurd q
difference_real f (fin s m e) (inf t) p q = absurd q
difference_real f (fin s m e) (fin t n d) p q =
    let a = m * up e * down d in
    let b = n * up d * down e in
    let c = down e * down d in
    chosen (λ (x : Float). T (not (is_nan x))) (beq s (not t)) (ltb a b) (round f s (a + b) c) (round f (not t) (b - a) c) (round f (s && ltb b a) (a - b) c) (no_nan f s (a + b) c) (no_nan f (not t) (b - a) c) (no_nan f (s && ltb b a) (a - b) c)

square_real : (f : Format) (x : Float) → T (not (is_nan x)) → NotNegative (mul f x x)
unfolding mul is_nan
square_real f nan h = absurd h
square_real f (inf true) h = refl
square_real f (inf false) h = refl
square_real f (fin s m e) h = square_not_negative f (fin s m e) tt

pub distance_real : (k : ℕ) (x y : ℕ → Float) → ((j : ℕ) → j < k → T (finite (x j))) → ((j : ℕ) → j < k → T (finite (y j))) → NotNegative (distance k x y)
distance_real k x y p q =
    sum_to_not_negative (λ j. squared_difference (x j) (y j)) k (λ j l. square_real binary64 (sub binary64 (x j) (y j)) (difference_real binary64 (x j) (y j) (p j l) (q j l)))
