-- Whether a test holds somewhere, and how often. Assumes nothing.
use mathlib.Core.Path.{◌≡◌, refl, sym, subst}
use Prim.Native.Nat.{ℕ, zero, suc, ◌+◌, ◌<◌, ◌≤◌}
use native.Mathlib.Nat.{le_step, lt-suc_self, le_refl}
use native.Mathlib.Omega.{arith}
use native.Mathlib.Numerals.{add-one}
use mathlib.Core.Bool.{Bool, true, false, ◌||◌, cond}
use lib.Dec.{T}
use lib.Ieee.Bits.{is_true}
use Rattle.ieee.proofs.Order.{or_left, or_right}
use Rattle.slices.specs.First.{some_where, count_where}
use Rattle.slices.proofs.FirstLaw.{below_suc}

pub one_most : (b : Bool) → cond b 1 0 ≤ 1
one_most true = le_refl 1
one_most false = omega arith

module _ (t : ℕ → Bool) where
  pub somewhere : (n m : ℕ) → m < n → T (t m) → T (some_where t n)
  unfolding some_where
  somewhere zero m l h = absurd (omega arith)
  somewhere (suc n) m l h = below_suc (λ (i : ℕ). T (t i) → T (some_where t n || t n)) n (λ i k g. or_left (some_where t n) (t n) (somewhere n i k g)) (or_right (some_where t n) (t n)) m l h

  pub nowhere_else : (n : ℕ) → ((m : ℕ) → m < n → T (t m) → ⊥) → T (some_where t n) → ⊥
  unfolding some_where
  nowhere_else zero h g = g
  nowhere_else (suc n) h g = go (some_where t n) (t n) (nowhere_else n (λ m l. h m (le_step l))) (h n (lt-suc_self n)) g
    where
      go : (a b : Bool) → (T a → ⊥) → (T b → ⊥) → T (a || b) → ⊥
      go true b f k g = f tt
      go false b f k g = k g

  -- a place where it does not hold adds nothing
  pub nothing_more : (n : ℕ) → (T (t n) → ⊥) → some_where t n ≡ some_where t (suc n)
  unfolding some_where
  nothing_more n h = go (some_where t n) (t n) h
    where
      go : (a b : Bool) → (T b → ⊥) → a ≡ a || b
      go true b f = refl
      go false true f = absurd (f tt)
      go false false f = refl

  pub count_upto : (n : ℕ) → count_where t n ≤ n
  unfolding count_where
  count_upto zero = le_refl 0
  count_upto (suc n) = omega (arith, count_upto n, one_most (t n))

  -- one place more, and four more
  pub one_counted : (n count x : ℕ) → count ≡ count_where t n → x ≡ cond (t n) 1 0 → count + x ≡ count_where t (n + 1)
  unfolding count_where
  one_counted n count x h e = rw (add-one, h, e)

  next_counted : (n m count x : ℕ) → n + 1 ≡ m → count ≡ count_where t n → x ≡ cond (t n) 1 0 → count + x ≡ count_where t m
  next_counted n m count x is h e = rw (← is) (one_counted n count x h e)

  pub four_counted : (n count a b c d : ℕ) → count ≡ count_where t n → a ≡ cond (t n) 1 0 → b ≡ cond (t (n + 1)) 1 0 → c ≡ cond (t (n + 2)) 1 0 → d ≡ cond (t (n + 3)) 1 0
      → count + (a + b + c + d) ≡ count_where t (n + 4)
  four_counted n count a b c d h e₁ e₂ e₃ e₄ =
      let h₁ = one_counted n count a h e₁ in
      let h₂ = next_counted (n + 1) (n + 2) (count + a) b (omega arith) h₁ e₂ in
      let h₃ = next_counted (n + 2) (n + 3) (count + a + b) c (omega arith) h₂ e₃ in
      let h₄ = next_counted (n + 3) (n + 4) (count + a + b + c) d (omega arith) h₃ e₄ in
      omega (arith, h₄)

-- the count sees what the test says below n only
pub count_ext : (t u : ℕ → Bool) (n : ℕ) → ((i : ℕ) → i < n → t i ≡ u i) → count_where t n ≡ count_where u n
unfolding count_where
count_ext t u zero h = refl
count_ext t u (suc n) h = rw (count_ext t u n (λ i l. h i (le_step l)), h n (lt-suc_self n))

-- where it holds everywhere below n, there are n
pub count_all : (t : ℕ → Bool) (n : ℕ) → ((i : ℕ) → i < n → T (t i)) → count_where t n ≡ n
unfolding count_where
count_all t zero h = refl
count_all t (suc n) h = rw (count_all t n (λ i l. h i (le_step l)), is_true (t n) (h n (lt-suc_self n))) (omega arith)

-- where there are some, there is one
abbrev pub Somewhere : (ℕ → Bool) → ℕ → Type 0
Somewhere t n = (m : ℕ) × (m < n) × T (t m)

counted_next : (t : ℕ → Bool) (n : ℕ) (b : Bool) → t n ≡ b → (0 < count_where t n → Somewhere t n) → 0 < count_where t n + cond b 1 0 → Somewhere t (suc n)
counted_next t n true e f h = (n, lt-suc_self n, subst T (sym e) tt)
counted_next t n false e f h = let (m, l, k) = f (omega (arith, h)) in (m, le_step l, k)

pub counted_somewhere : (t : ℕ → Bool) (n : ℕ) → 0 < count_where t n → Somewhere t n
unfolding count_where
counted_somewhere t zero h = absurd (omega arith)
counted_somewhere t (suc n) h = counted_next t n (t n) refl (counted_somewhere t n) h
