-- Two numbers compared, and what the kit's `nearest` gives by it. Assumes nothing.
use Rattle.std.proofs.Common.{◌≡◌, ℕ, suc, ◌+◌, ◌%◌, ◌<◌, ◌≤◌, Bool, true, false, not, T, eqb, ltb, sym, refl, subst, inl, inr, eq-or-lt_of_le, arith, eqb→eq, ltb→lt, leb→le, nltb→le}
use Prim.Native.Nat.{compare, Ordering}
use lib.Dec.{is_le, compare_is_eq, nleb→lt, eqb_refl}
use lib.Ieee.{nearest}

-- o is before m, m, or after it
pub data Place (o m : ℕ) : Type 0 where
  before : o < m → Place o m
  at : o ≡ m → Place o m
  after : m < o → Place o m

pub place : (o m : ℕ) → Place o m
place o m = go (ltb o m) (ltb→lt o m) (nltb→le o m)
  where
    go : (b : Bool) → (T b → o < m) → (T (not b) → m ≤ o) → Place o m
    go true l g = before (l tt)
    go false l g = elim (eq-or-lt_of_le (g tt)) [
      | inl e ↦ at (sym e)
      | inr h ↦ after h
    ]

module _ (q a b : ℕ) where
  down : (o : Ordering) → (T (not (is_le o)) → b < a) → (T (compare_is_eq o) → a ≡ b) → a < b → nearest q o ≡ q
  down Ordering.lt k e h = refl
  down Ordering.eq k e h = let x = e tt in absurd (omega arith)
  down Ordering.gt k e h = let x = k tt in absurd (omega arith)

  up : (o : Ordering) → (T (is_le o) → a ≤ b) → b < a → nearest q o ≡ suc q
  up Ordering.lt k h = let x = k tt in absurd (omega arith)
  up Ordering.eq k h = let x = k tt in absurd (omega arith)
  up Ordering.gt k h = refl

  tie : (o : Ordering) → (a ≡ b → T (compare_is_eq o)) → a ≡ b → nearest q o ≡ q + q % 2
  tie Ordering.lt n h = absurd (n h)
  tie Ordering.eq n h = refl
  tie Ordering.gt n h = absurd (n h)

  pub nearest_down : a < b → nearest q (compare a b) ≡ q
  nearest_down h = down (compare a b) (nleb→lt a b) (eqb→eq a b) h

  pub nearest_up : b < a → nearest q (compare a b) ≡ suc q
  nearest_up h = up (compare a b) (leb→le a b) h

  pub nearest_tie : a ≡ b → nearest q (compare a b) ≡ q + q % 2
  nearest_tie h = tie (compare a b) (λ (e : a ≡ b). subst (λ (x : ℕ). T (eqb a x)) e (eqb_refl a)) h
