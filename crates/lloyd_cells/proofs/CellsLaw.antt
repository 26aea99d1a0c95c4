-- What the samples of a cell add up to: counts, sums and farthest samples. One sample more, the counts of all cells
-- together, and what the farthest sample is.
-- Assumes nothing.
use mathlib.Core.Path.{◌≡◌, refl, sym, ap, ◌∙◌, subst}
use mathlib.Core.Logic.{◌⊎◌, inl, inr}
use Prim.Native.Nat.{ℕ, zero, suc, ◌+◌, ◌*◌, ◌<◌, ◌≤◌}
use native.Mathlib.Nat.{le_step, lt-suc_self, zero-lt-suc, eq-or-lt_of_le, le_of_suc-le-suc}
use native.Mathlib.Omega.{arith}
use native.Mathlib.Decide.{ℕ_discrete}
use mathlib.Core.Bool.{Bool, true, false, not, ◌&&◌, cond, true≢false}
use lib.Dec.{T, T_not, eqb, lt→ltb}
use lib.IntN.{pos}
use lib.Ieee.{Float, nan, inf, fin, binary64, add, lt, up, down}
use lib.Ieee.Fits.{down_pos}
use lib.Ieee.Scale.{finite}
use borrow.Author.Tests.{eq-eqb, ne_eqb}
use Rattle.ieee.specs.Bounds.{NotNegative}
use Rattle.ieee.proofs.Order.{lt_asym, lt_irr, lt_or_not, not_lt_trans}
use Rattle.slices.proofs.FirstLaw.{below_suc}
use Rattle.lloyd_cells.specs.Cells.{count_to, total, cell_sum, Farthest, farthest, FirstFarthest}

-- ---- one sample more
module _ (a : ℕ → ℕ) (c n : ℕ) where
  pub count_to_in : a n ≡ c → count_to a c (suc n) ≡ count_to a c n + 1
  unfolding count_to
  count_to_in e = rw (eq-eqb (a n) c e)

  pub count_to_out : (a n ≡ c → ⊥) → count_to a c (suc n) ≡ count_to a c n
  unfolding count_to
  count_to_out e = rw (ne_eqb (a n) c e) (omega arith)

  pub cell_sum_in : (t : ℕ → Float) → a n ≡ c → cell_sum a t c (suc n) ≡ add binary64 (cell_sum a t c n) (t n)
  unfolding cell_sum
  cell_sum_in t e = rw (eq-eqb (a n) c e)

  pub cell_sum_out : (t : ℕ → Float) → (a n ≡ c → ⊥) → cell_sum a t c (suc n) ≡ cell_sum a t c n
  unfolding cell_sum
  cell_sum_out t e = rw (ne_eqb (a n) c e)

  pub farthest_in : (d : ℕ → Float) → a n ≡ c → farthest a d c (suc n) ≡ cond (lt (farthest a d c n).distance (d n)) (record { sample = n; distance = d n }) (farthest a d c n)
  unfolding farthest
  farthest_in d e = rw (eq-eqb (a n) c e)

  pub farthest_out : (d : ℕ → Float) → (a n ≡ c → ⊥) → farthest a d c (suc n) ≡ farthest a d c n
  unfolding farthest
  farthest_out d e = rw (ne_eqb (a n) c e)

-- ---- the samples passed decide
module _ (a b : ℕ → ℕ) (c : ℕ) where
  pub count_to_ext : (n : ℕ) → ((s : ℕ) → s < n → a s ≡ b s) → count_to a c n ≡ count_to b c n
  unfolding count_to
  count_to_ext zero h = refl
  count_to_ext (suc n) h = rw (count_to_ext n (λ s l. h s (le_step l)), h n (lt-suc_self n))

  pub cell_sum_ext : (t u : ℕ → Float) (n : ℕ) → ((s : ℕ) → s < n → a s ≡ b s) → ((s : ℕ) → s < n → t s ≡ u s) → cell_sum a t c n ≡ cell_sum b u c n
  unfolding cell_sum
  cell_sum_ext t u zero h k = refl
  cell_sum_ext t u (suc n) h k = rw (cell_sum_ext t u n (λ s l. h s (le_step l)) (λ s l. k s (le_step l)), h n (lt-suc_self n), k n (lt-suc_self n))

  pub farthest_ext : (d e : ℕ → Float) (n : ℕ) → ((s : ℕ) → s < n → a s ≡ b s) → ((s : ℕ) → s < n → d s ≡ e s) → farthest a d c n ≡ farthest b e c n
  unfolding farthest
  farthest_ext d e zero h k = refl
  farthest_ext d e (suc n) h k = rw (farthest_ext d e n (λ s l. h s (le_step l)) (λ s l. k s (le_step l)), h n (lt-suc_self n), k n (lt-suc_self n))

-- ---- how many
module _ (a : ℕ → ℕ) (c : ℕ) where
  pub count_to_upto : (n : ℕ) → count_to a c n ≤ n
  unfolding count_to
  count_to_upto zero = omega arith
  count_to_upto (suc n) = go (eqb (a n) c) (count_to_upto n)
    where
      go : (b : Bool) → count_to a c n ≤ n → count_to a c n + cond b 1 0 ≤ suc n
      go true h = omega arith
      go false h = omega arith

  pub count_to_some : (n s : ℕ) → s < n → a s ≡ c → 0 < count_to a c n
  count_to_some zero s l e = absurd (omega arith)
  count_to_some (suc n) s l e = elim (ℕ_discrete (a n) c) [
    | yes i ↦ rw (count_to_in a c n i) (omega arith)
    | no o ↦ rw (count_to_out a c n o) (count_to_some n s (elim (eq-or-lt_of_le (le_of_suc-le-suc l)) [ inl q ↦ absurd (o (ap a (sym q) ∙ e)) | inr m ↦ m ]) e)
  ]

  pub count_to-none : (n : ℕ) → ((s : ℕ) → s < n → a s ≡ c → ⊥) → count_to a c n ≡ 0
  unfolding count_to
  count_to-none zero h = refl
  count_to-none (suc n) h = count_to_out a c n (h n (lt-suc_self n)) ∙ count_to-none n (λ s l. h s (le_step l))

-- ---- totals
pub total_ext : (t u : ℕ → ℕ) (n : ℕ) → ((i : ℕ) → i < n → t i ≡ u i) → total t n ≡ total u n
unfolding total
total_ext t u zero h = refl
total_ext t u (suc n) h = rw (total_ext t u n (λ i l. h i (le_step l)), h n (lt-suc_self n))

-- a change at one place
pub total_change : (t u : ℕ → ℕ) (i n : ℕ) → i < n → ((j : ℕ) → j < n → (j ≡ i → ⊥) → u j ≡ t j) → total u n + t i ≡ total t n + u i
unfolding total
total_change t u i zero l h = absurd (omega arith)
total_change t u i (suc n) l h = elim (eq-or-lt_of_le (le_of_suc-le-suc l)) [
  | inl e ↦ let q = total_ext u t n (λ j m. h j (le_step m) (λ f. omega arith)) in rw (e, q) (omega arith)
  | inr m ↦ let q = total_change t u i n m (λ j k. h j (le_step k)) in let r = h n (lt-suc_self n) (λ f. omega arith) in omega arith
]

pub total_zero : (n : ℕ) → total (λ i. 0) n ≡ 0
unfolding total
total_zero zero = refl
total_zero (suc n) = let h = total_zero n in omega arith

-- every sample is in one of the n cells
pub total_count : (a : ℕ → ℕ) (n S : ℕ) → ((s : ℕ) → s < S → a s < n) → total (λ c. count_to a c S) n ≡ S
total_count a n zero h = total_ext (λ c. count_to a c 0) (λ c. 0) n (λ c l. unfold count_to in refl) ∙ total_zero n
total_count a n (suc s) h =
    let before = total_count a n s (λ i l. h i (le_step l)) in
    let change = total_change (λ c. count_to a c s) (λ c. count_to a c (suc s)) (a s) n (h s (lt-suc_self s)) (λ c l o. count_to_out a c s (λ e. o (sym e))) in
    let one = count_to_in a (a s) s refl in
    omega arith

-- ---- the farthest sample
-- its number is one of the samples', in a cell with samples or not
pub farthest_within : (a : ℕ → ℕ) (d : ℕ → Float) (c S : ℕ) → 1 ≤ S → (farthest a d c S).sample < S
unfolding farthest
farthest_within a d c zero h = absurd (omega arith)
farthest_within a d c (suc zero) h = go (eqb (a 0) c && lt (farthest a d c 0).distance (d 0))
  where
    go : (b : Bool) → (cond b (record { sample = 0; distance = d 0 }) (farthest a d c 0)).sample < 1
    go true = zero-lt-suc 0
    go false = zero-lt-suc 0
farthest_within a d c (suc (suc n)) h = go (eqb (a (suc n)) c && lt (farthest a d c (suc n)).distance (d (suc n))) (farthest_within a d c (suc n) (omega arith))
  where
    go : (b : Bool) → (farthest a d c (suc n)).sample < suc n → (cond b (record { sample = suc n; distance = d (suc n) }) (farthest a d c (suc n))).sample < suc (suc n)
    go true l = lt-suc_self (suc n)
    go false l = le_step l

-- -1 is below every distance
above_start : (x : Float) → T (finite x) → NotNegative x → T (lt (fin true 1 (pos 0)) x)
unfolding lt
above_start nan f p = absurd f
above_start (inf s) f p = absurd f
above_start (fin true m e) f p = absurd (true≢false p)
above_start (fin false m e) f p = lt→ltb 0 (1 * up (pos 0) * down e + m * up e * down (pos 0)) (let h = down_pos e in omega arith)

-- x ≤ y < z
upto_below : (x y z : Float) → T (finite x) → T (finite y) → T (finite z) → T (not (lt y x)) → T (lt y z) → T (lt x z)
upto_below x y z f g h a b = elim (lt_or_not x z) [ inl l ↦ l | inr o ↦ absurd (T_not (lt y z) (not_lt_trans y x z g f h a o) b) ]

module _ (a : ℕ → ℕ) (d : ℕ → Float) (c : ℕ) where
  abbrev start : Farthest
  start = record { sample = 0; distance = fin true 1 (pos 0) }

  -- none of the first n samples is in the cell, or the farthest is found
  abbrev Sofar : ℕ → Farthest → Type 0
  Sofar n r = (((s : ℕ) → s < n → a s ≡ c → ⊥) × (r ≡ start)) ⊎ FirstFarthest a d c n r

  outside : (n : ℕ) (r : Farthest) → (a n ≡ c → ⊥) → Sofar n r → Sofar (suc n) r
  outside n r o (inl (h, e)) = inl (below_suc (λ (s : ℕ). a s ≡ c → ⊥) n h o, e)
  outside n r o (inr f) = inr (record {
    within = le_step f.within;
    member = f.member;
    is = f.is;
    none_farther = below_suc (λ (s : ℕ). a s ≡ c → T (not (lt r.distance (d s)))) n f.none_farther (λ e. absurd (o e));
    first = f.first;
  })

  module _ (n : ℕ) (r : Farthest) (fine : (s : ℕ) → s < suc n → T (finite (d s)) × NotNegative (d s)) (e : a n ≡ c) where
    -- what is nearer than sample n, of the samples before it
    newest : ((s : ℕ) → s < n → a s ≡ c → T (lt (d s) (d n))) → FirstFarthest a d c (suc n) (record { sample = n; distance = d n })
    newest h = record {
      within = lt-suc_self n;
      member = e;
      is = refl;
      none_farther = below_suc (λ (s : ℕ). a s ≡ c → T (not (lt (d n) (d s)))) n (λ s l m. lt_asym (d s) (d n) (h s l m)) (λ m. lt_irr (d n));
      first = h;
    }

    farther : T (lt r.distance (d n)) → Sofar n r → FirstFarthest a d c (suc n) (record { sample = n; distance = d n })
    farther l (inl (h, q)) = newest (λ s m k. absurd (h s m k))
    farther l (inr f) =
        let fr : T (finite r.distance) = subst (λ (x : Float). T (finite x)) (sym f.is) (fine r.sample (le_step f.within)).0 in
        newest (λ s m k. upto_below (d s) r.distance (d n) (fine s (le_step m)).0 fr (fine n (lt-suc_self n)).0 (f.none_farther s m k) l)

    not_farther : T (not (lt r.distance (d n))) → Sofar n r → FirstFarthest a d c (suc n) r
    not_farther l (inl (h, q)) =
        absurd (T_not (lt r.distance (d n)) l (subst (λ (x : Farthest). T (lt x.distance (d n))) (sym q) (above_start (d n) (fine n (lt-suc_self n)).0 (fine n (lt-suc_self n)).1)))
    not_farther l (inr f) = record {
      within = le_step f.within;
      member = f.member;
      is = f.is;
      none_farther = below_suc (λ (s : ℕ). a s ≡ c → T (not (lt r.distance (d s)))) n f.none_farther (λ k. l);
      first = f.first;
    }

    inside : (b : Bool) → (T b → T (lt r.distance (d n))) → (T (not b) → T (not (lt r.distance (d n)))) → Sofar n r → Sofar (suc n) (cond b (record { sample = n; distance = d n }) r)
    inside true did did-not h = inr (farther (did tt) h)
    inside false did did-not h = inr (not_farther (did-not tt) h)

  sofar : (n : ℕ) → ((s : ℕ) → s < n → T (finite (d s)) × NotNegative (d s)) → Sofar n (farthest a d c n)
  unfolding farthest
  sofar zero fine = inl (λ s l. absurd (omega arith), refl)
  sofar (suc n) fine = elim (ℕ_discrete (a n) c) [
    | yes e ↦
        subst (Sofar (suc n)) (sym (farthest_in a c n d e))
        (inside n (farthest a d c n) fine e (lt (farthest a d c n).distance (d n)) (λ t. t) (λ t. t) (sofar n (λ s l. fine s (le_step l))))
    | no o ↦ subst (Sofar (suc n)) (sym (farthest_out a c n d o)) (outside n (farthest a d c n) o (sofar n (λ s l. fine s (le_step l))))
  ]

  -- of a cell with samples, at finite distances
  pub first_farthest : (S : ℕ) → 0 < count_to a c S → ((s : ℕ) → s < S → T (finite (d s)) × NotNegative (d s)) → FirstFarthest a d c S (farthest a d c S)
  first_farthest S h fine = elim (sofar S fine) [ inl (o, q) ↦ let z = count_to-none a c S o in absurd (omega arith) | inr f ↦ f ]
