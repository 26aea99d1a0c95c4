-- What `first_where` and `first_failing` find: a place whose test holds, or fails, with none before it; or none at all.
-- Assumes nothing.
use mathlib.Core.Path.{◌≡◌, refl, sym, ap, subst}
use mathlib.Core.Logic.{inl, inr}
use Prim.Native.Nat.{ℕ, zero, suc, ◌<◌}
use native.Mathlib.Nat.{eq-or-lt_of_le, le_of_suc-le-suc, le_trans, le-suc, le_refl}
use native.Mathlib.Omega.{arith}
use mathlib.Core.Bool.{Bool, true, false, not}
use mathlib.Core.List.{List}
use Rattle.std.specs.Prelude.{Option, None, Some}
use lib.Dec.{T}
use lib.ListN.{length, get_or}
use lib.Ieee.{Float, nan}
use lib.Ieee.Scale.{finite}
use borrow.Author.Tests.{not-false}
use Rattle.slices.specs.First.{first_where, or_at}
use Rattle.slices.specs.Limit.{first_failing, first_not_finite}

-- what holds below n and at n holds below suc n
pub below_suc : (P : ℕ → Type 0) (n : ℕ) → ((i : ℕ) → i < n → P i) → P n → (i : ℕ) → i < suc n → P i
below_suc P n h k i l = elim (eq-or-lt_of_le (le_of_suc-le-suc l)) [ inl e ↦ subst P (sym e) k | inr m ↦ h i m ]

module _ (t : ℕ → Bool) where
  -- ---- towards the definition: what a loop that stops at the first place has shown
  pub nowhere : (n : ℕ) → ((i : ℕ) → i < n → t i ≡ false) → first_where t n ≡ None
  unfolding first_where
  nowhere zero h = refl
  nowhere (suc n) h = rw (nowhere n (λ i l. h i (le_trans l (le-suc n))), h n (le_refl (suc n)))

  pub at_first : (n j : ℕ) → j < n → ((i : ℕ) → i < j → t i ≡ false) → t j ≡ true → first_where t n ≡ Some j
  unfolding first_where
  at_first zero j l h k = absurd (omega arith)
  at_first (suc n) j l h k = elim (eq-or-lt_of_le (le_of_suc-le-suc l)) [
    | inl e ↦ rw (nowhere n (λ i m. h i (subst (λ (z : ℕ). i < z) (sym e) m)), ← e, k)
    | inr m ↦ rw (at_first n j m h k)
  ]

  -- ---- from the definition
  abbrev Says : ℕ → Option ℕ → Type 0
  Says n None = (i : ℕ) → i < n → t i ≡ false
  Says n (Some j) = (j < n) × (t j ≡ true) × ((i : ℕ) → i < j → t i ≡ false)

  step : (n : ℕ) (r : Option ℕ) (b : Bool) → t n ≡ b → Says n r → Says (suc n) (or_at r n b)
  step n (Some j) b e (l, k, h) = (le_trans l (le-suc n), k, h)
  step n None true e h = (le_refl (suc n), e, h)
  step n None false e h = below_suc (λ (i : ℕ). t i ≡ false) n h e

  says : (n : ℕ) → Says n (first_where t n)
  unfolding first_where
  says zero = λ i l. absurd (omega arith)
  says (suc n) = step n (first_where t n) (t n) refl (says n)

  pub none_before : (n : ℕ) → first_where t n ≡ None → (i : ℕ) → i < n → t i ≡ false
  none_before n e = subst (Says n) e (says n)

  pub first_is : (n j : ℕ) → first_where t n ≡ Some j → (j < n) × (t j ≡ true) × ((i : ℕ) → i < j → t i ≡ false)
  first_is n j e = subst (Says n) e (says n)

-- ---- the first place where a test fails
module _ (t : ℕ → Bool) where
  pub none_fails : (n : ℕ) → ((i : ℕ) → i < n → t i ≡ true) → first_where (λ i. not (t i)) n ≡ None
  none_fails n h = nowhere (λ i. not (t i)) n (λ i l. ap not (h i l))

  pub fails_first : (n j : ℕ) → j < n → ((i : ℕ) → i < j → t i ≡ true) → t j ≡ false → first_where (λ i. not (t i)) n ≡ Some j
  fails_first n j l h e = at_first (λ i. not (t i)) n j l (λ i m. ap not (h i m)) (ap not e)

-- where no place is found, every value passes the test
pub all_pass : (test : Float → Bool) (xs : List Float) → first_failing test xs ≡ None → (i : ℕ) → i < length xs → T (test (get_or xs i nan))
all_pass test xs e i l = subst T (sym (not-false (test (get_or xs i nan)) (none_before (λ j. not (test (get_or xs j nan))) (length xs) e i l))) tt

pub all_finite : (xs : List Float) → first_not_finite xs ≡ None → (i : ℕ) → i < length xs → T (finite (get_or xs i nan))
all_finite = all_pass finite
