-- Two codewords that are compared with each other first, and then with the choice before them, give what one finds in
-- order, unless the first of their distances is a NaN. Assumes nothing.
use mathlib.Core.Path.{◌≡◌, refl, sym, subst}
use Prim.Native.Nat.{ℕ, ◌+◌}
use mathlib.Core.Bool.{Bool, true, false, not, cond}
use mathlib.Core.Logic.{inl, inr}
use lib.Dec.{T, T_not, not_T}
use lib.Ieee.{Float, lt, le, is_nan}
use lib.Ieee.Bits.{is_true, is_false}
use Rattle.ieee.proofs.Value.{holds_true}
use Rattle.ieee.proofs.Order.{le_not_lt, le_lt, lt_le, le_le, le_numbers, le_or_lt}
use Rattle.lloyd_search.specs.declared.Found.{Found}
use Rattle.lloyd_search.specs.declared.Choice.{Choice}
use Rattle.lloyd_search.specs.Nearest.{pick}
use Rattle.lloyd_search.specs.Choice.{joined, passing}
use Rattle.lloyd_alone.specs.Watch.{passing_two}

holds_not : {b : Bool} → b ≡ false → T (not b)
holds_not e = subst (λ (z : Bool). T (not z)) (sym e) tt

never : (x y : Float) → lt x y ≡ true → le x y ≡ false → ⊥
never x y h k = T_not (le x y) (holds_not k) (lt_le x y (holds_true h))

-- ---- how y stands to m, from how y stands to x and x to m
module _ (x y m : Float) (number : T (not (is_nan x))) where
  -- m ≤ x ≤ y
  no_nearer : T (not (lt y x)) → T (not (lt x m)) → T (not (lt y m))
  no_nearer h k = not_T (lt y m) (λ l. elim (le_or_lt x y number (le_numbers y m (lt_le y m l)).0) [
    | inl a ↦ T_not (lt x m) k (le_lt x y m a l)
    | inr b ↦ T_not (lt y x) h b
  ])

  -- m < x ≤ y
  farther : T (not (lt y x)) → T (not (le x m)) → T (not (le y m))
  farther h k = not_T (le y m) (λ l. elim (le_or_lt x m number (le_numbers y m l).1) [
    | inl a ↦ T_not (le x m) k a
    | inr b ↦ T_not (lt y x) h (le_lt y m x l b)
  ])

  -- m ≤ x < y
  no_nearer_than : T (not (le y x)) → T (not (lt x m)) → T (not (le y m))
  no_nearer_than h k = not_T (le y m) (λ l. elim (le_or_lt y x (le_numbers y m l).0 number) [
    | inl a ↦ T_not (le y x) h a
    | inr b ↦ elim (le_or_lt m x (le_numbers y m l).1 number) [
      | inl c ↦ T_not (lt m y) (le_not_lt y m l) (le_lt m x y c b)
      | inr c ↦ T_not (lt x m) k c
    ]
  ])

module _ (c : Choice) (i : ℕ) (x y : Float) (number : T (not (is_nan x))) where
  abbrev m : Float
  m = c.found.distance

  abbrev first : Found
  first = record { index = i; distance = x }

  abbrev second : Found
  second = record { index = i + 1; distance = y }

  -- by y < x, y ≤ x, x < m and x ≤ m
  cases : (p q r s : Bool) → lt y x ≡ p → le y x ≡ q → lt x m ≡ r → le x m ≡ s
      → joined c (record { found = pick p second first; last = cond q (i + 1) i }) ≡ passing (record { found = pick r first c.found; last = cond s i c.last }) (i + 1) y
  cases true true true true P Q R S = rw (P, Q, is_true (lt y m) (le_lt y x m (holds_true Q) (holds_true R)), is_true (le y m) (le_le y x m (holds_true Q) (holds_true S)))
  cases true true true false P Q R S = absurd (never x m R S)
  cases true true false true P Q R S = rw (is_true (le y m) (le_le y x m (holds_true Q) (holds_true S)))
  cases true true false false P Q R S = refl
  cases true false r s P Q R S = absurd (never y x P Q)
  cases false true true true P Q R S = rw (P, Q, R, S)
  cases false true true false P Q R S = absurd (never x m R S)
  cases false true false true P Q R S = rw (R, S, is_false (lt y m) (no_nearer x y m number (holds_not P) (holds_not R)), is_true (le y m) (le_le y x m (holds_true Q) (holds_true S)))
  cases false true false false P Q R S = rw (R, S, is_false (lt y m) (no_nearer x y m number (holds_not P) (holds_not R)), is_false (le y m) (farther x y m number (holds_not P) (holds_not S)))
  cases false false true true P Q R S = rw (P, Q, R, S)
  cases false false true false P Q R S = absurd (never x m R S)
  cases false false false true P Q R S = rw (R, S, is_false (lt y m) (no_nearer x y m number (holds_not P) (holds_not R)), is_false (le y m) (no_nearer_than x y m number (holds_not Q) (holds_not R)))
  cases false false false false P Q R S = rw (R, S, is_false (lt y m) (no_nearer x y m number (holds_not P) (holds_not R)), is_false (le y m) (farther x y m number (holds_not P) (holds_not S)))

  pub two_in_order : passing_two c i x y ≡ passing (passing c i x) (i + 1) y
  two_in_order = cases (lt y x) (le y x) (lt x m) (le x m) refl refl refl refl
