-- What the mark of a search means: the first and the last of the nearest are two exactly where another codeword has the
-- distance that was found. Of any distances, also infinite ones and NaN. Assumes nothing.
use mathlib.Core.Path.{◌≡◌, refl, ◌∙◌}
use Prim.Native.Nat.{ℕ, zero, suc, ◌<◌}
use native.Mathlib.Nat.{lt-suc_self, zero-lt-suc}
use native.Mathlib.Omega.{arith}
use mathlib.Core.Bool.{Bool, true, false, not, ◌&&◌, ◌||◌, cond}
use lib.Dec.{T, T_not, not_T, eqb, eqb→eq}
use lib.Ieee.{Float, lt, le, eq}
use lib.Ieee.Fits.{and_i, and_l, and_r, eq→eqb}
use Rattle.ieee.proofs.Order.{lt_irr, le_lt, lt_le, eq_le}
use Rattle.slices.specs.First.{some_where}
use Rattle.slices.proofs.FirstLaw.{below_suc}
use Rattle.slices.proofs.CountLaw.{somewhere, nowhere_else, nothing_more}
use Rattle.lloyd_search.specs.declared.Found.{Found}
use Rattle.lloyd_search.specs.Nearest.{first_least, pick, another}
use Rattle.lloyd_search.specs.Choice.{last_least, choice, mark_of}
use Rattle.lloyd_search.proofs.NearestLaw.{index_below}

-- ---- tests, and `<=`
or_second : (a b : Bool) → T (a || b) → T (not a) → T b
or_second true b t n = absurd n
or_second false b t n = t

double : (a : Bool) → T (not (not a)) → T a
double true h = tt
double false h = h

same : (a b : Bool) → (T a → T b) → (T (not a) → T b → ⊥) → a ≡ b
same true true f g = refl
same true false f g = absurd (f tt)
same false true f g = absurd (g tt tt)
same false false f g = refl

le_eq : (x y : Float) → T (le x y) → T (not (lt x y)) → T (eq x y)
unfolding le
le_eq x y t n = or_second (lt x y) (eq x y) t n

module _ (d : ℕ → Float) where
  -- ---- no distance is below the least
  abbrev None : ℕ → Float → Type 0
  None n x = (i : ℕ) → i < n → T (not (lt (d i) x))

  one_more : (n : ℕ) (r : Found) (b : Bool) → (T b → T (lt (d n) r.distance)) → (T (not b) → T (not (lt (d n) r.distance))) → None n r.distance → None (suc n) (pick b (record { index = n; distance = d n }) r).distance
  one_more n r true did did-not none = below_suc (λ (i : ℕ). T (not (lt (d i) (d n)))) n (λ i l. not_T (lt (d i) (d n)) (λ h. T_not (lt (d i) r.distance) (none i l) (le_lt (d i) (d n) r.distance (lt_le (d i) (d n) h) (did tt)))) (lt_irr (d n))
  one_more n r false did did-not none = below_suc (λ (i : ℕ). T (not (lt (d i) r.distance))) n none (did-not tt)

  none_below : (n : ℕ) → None n (first_least d n).distance
  unfolding first_least
  none_below zero = λ i l. absurd (omega arith)
  none_below (suc n) = one_more n (first_least d n) (lt (d n) (first_least d n).distance) (λ t. t) (λ t. t) (none_below n)

  -- ---- the mark
  abbrev test : Found → ℕ → Bool
  test r m = not (eqb m r.index) && eq (d m) r.distance

  -- the index found is the number of the next codeword only where none has been passed
  first_of_none : (n : ℕ) → n ≡ (first_least d n).index → n ≡ 0
  first_of_none zero e = refl
  first_of_none (suc n) e = let l = index_below d (suc n) (zero-lt-suc n) in absurd (omega arith)

  module _ (n : ℕ) (r : Found) (none : None n r.distance) (start : n ≡ r.index → n ≡ 0) where
    -- a strictly nearer codeword is as near as none before it
    nearer : T (lt (d n) r.distance) → (m : ℕ) → m < suc n → T (test (record { index = n; distance = d n }) m) → ⊥
    nearer h m l = below_suc (λ (i : ℕ). T (test (record { index = n; distance = d n }) i) → ⊥) n earlier itself m l
      where
        earlier : (i : ℕ) → i < n → T (test (record { index = n; distance = d n }) i) → ⊥
        earlier i k t = T_not (lt (d i) r.distance) (none i k) (le_lt (d i) (d n) r.distance (eq_le (d i) (d n) (and_r (not (eqb i n)) (eq (d i) (d n)) t)) h)

        itself : T (test (record { index = n; distance = d n }) n) → ⊥
        itself t = T_not (eqb n n) (and_l (not (eqb n n)) (eq (d n) (d n)) t) (eq→eqb {a = n} {b = n} refl)

    -- the first of all is no other
    alone : n ≡ r.index → (m : ℕ) → m < suc n → T (test r m) → ⊥
    alone e m l t = T_not (eqb m r.index) (and_l (not (eqb m r.index)) (eq (d m) r.distance) t) (eq→eqb (let z = start e in let is : m ≡ n = omega arith in is ∙ e))

    step : (l : ℕ) (b c : Bool) → (T b → T (lt (d n) r.distance)) → (T (not b) → T (not (lt (d n) r.distance))) → (T c → T (le (d n) r.distance)) → (T (not c) → T (not (le (d n) r.distance)))
        → not (eqb l r.index) ≡ some_where (test r) n
        → not (eqb (cond c n l) (pick b (record { index = n; distance = d n }) r).index) ≡ some_where (test (pick b (record { index = n; distance = d n }) r)) (suc n)
    step l true true is_lt no_lt is_le no_le h = same (not (eqb n n)) (some_where (test (record { index = n; distance = d n })) (suc n)) (λ g. absurd (T_not (eqb n n) g (eq→eqb {a = n} {b = n} refl))) (λ g. nowhere_else (test (record { index = n; distance = d n })) (suc n) (nearer (is_lt tt)))
    step l true false is_lt no_lt is_le no_le h = absurd (T_not (le (d n) r.distance) (no_le tt) (lt_le (d n) r.distance (is_lt tt)))
    step l false true is_lt no_lt is_le no_le h =
        same (not (eqb n r.index)) (some_where (test r) (suc n)) (λ g. somewhere (test r) (suc n) n (lt-suc_self n) (and_i (not (eqb n r.index)) (eq (d n) r.distance) g (le_eq (d n) r.distance (is_le tt) (no_lt tt))))
        (λ g. nowhere_else (test r) (suc n) (alone (eqb→eq n r.index (double (eqb n r.index) g))))
    step l false false is_lt no_lt is_le no_le h = h ∙ nothing_more (test r) n (λ t. T_not (le (d n) r.distance) (no_le tt) (eq_le (d n) r.distance (and_r (not (eqb n r.index)) (eq (d n) r.distance) t)))

  mark : (n : ℕ) → not (eqb (last_least d n) (first_least d n).index) ≡ some_where (test (first_least d n)) n
  unfolding first_least last_least some_where
  mark zero = refl
  mark (suc n) = step n (first_least d n) (none_below n) (first_of_none n) (last_least d n) (lt (d n) (first_least d n).distance) (le (d n) (first_least d n).distance) (λ t. t) (λ t. t) (λ t. t) (λ t. t) (mark n)

  pub mark_means : (n : ℕ) → mark_of (choice d n) ≡ another d n (first_least d n)
  mark_means = mark
