-- What is at most 2 ^ b in size passes the check of magnitude with the limit 2 ^ b; so what passes it with a smaller
-- limit does with a larger one. Assumes nothing.
use Rattle.std.specs.Prelude.{None}
use mathlib.Core.Path.{◌≡◌, sym, ap, subst}
use Prim.Native.Nat.{ℕ, ◌*◌, ◌^◌, ◌≤◌, ◌<◌}
use native.Mathlib.Nat.{not-le_of_lt, one-mul}
use mathlib.Core.Bool.{Bool, true, false, not}
use mathlib.Core.Logic.{inl, inr}
use mathlib.Core.List.{List}
use lib.Dec.{T, T_not, ltb, not_T, ltb→lt}
use lib.IntN.{ℤ}
use lib.Pow.{pow_mono}
use lib.ListN.{length, get_or}
use lib.Ieee.{Float, nan, inf, fin, up, down, lt, le, neg}
use lib.Ieee.Bits.{is_true}
use lib.Ieee.Fits.{and_i}
use lib.Ieee.Scale.{finite}
use Rattle.ieee.specs.Bounds.{Upto}
use Rattle.ieee.proofs.Order.{finite_number, le_or_lt}
use Rattle.ieee.proofs.Bound.{upto_mono}
use Rattle.slices.specs.Limit.{within, first_outside}
use Rattle.slices.proofs.FirstLaw.{nowhere}
use Rattle.lloyd_search.proofs.LimitLaw.{power, all_within}

-- x ≤ y, where y < x is not
not_lt_le : (x y : Float) → T (finite x) → T (finite y) → T (not (lt y x)) → T (le x y)
not_lt_le x y f g h = elim (le_or_lt x y (finite_number x f) (finite_number y g)) [ inl l ↦ l | inr l ↦ absurd (T_not (lt y x) h l) ]

-- a value of at most 2 ^ b in size is neither below -2 ^ b nor above 2 ^ b
module _ (b m : ℕ) (e : ℤ) (h : Upto (fin false m e) (2 ^ b)) where
  no_more : T (not (ltb (1 * 2 ^ b * down e) (m * up e * 1)))
  no_more = not_T (ltb (1 * 2 ^ b * down e) (m * up e * 1)) (λ k. not-le_of_lt (ltb→lt (1 * 2 ^ b * down e) (m * up e * 1) k) (subst (λ (z : ℕ). m * up e * 1 ≤ z * down e) (sym (one-mul (2 ^ b))) h))

  passes : (s : Bool) → T (not (lt (fin s m e) (neg (power b)))) × T (not (lt (power b) (fin s m e)))
  unfolding lt neg
  passes true = (no_more, tt)
  passes false = (tt, no_more)

upto_within : (b : ℕ) (x : Float) → Upto x (2 ^ b) → within (power b) x ≡ true
unfolding neg
upto_within b nan h = absurd h
upto_within b (inf s) h = absurd h
upto_within b (fin s m e) h =
    let x = fin s m e in
    let r = passes b m e h s in
    is_true _ (and_i (le (neg (power b)) x) (le x (power b)) (not_lt_le (neg (power b)) x tt tt r.0) (not_lt_le x (power b) tt tt r.1))

-- all values of a list
pub all_upto : (b : ℕ) (xs : List Float) → ((i : ℕ) → i < length xs → Upto (get_or xs i nan) (2 ^ b)) → first_outside (power b) xs ≡ None
all_upto b xs h = nowhere (λ i. not (within (power b) (get_or xs i nan))) (length xs) (λ i l. ap not (upto_within b (get_or xs i nan) (h i l)))

pub wider : (a b : ℕ) (xs : List Float) → a ≤ b → first_outside (power a) xs ≡ None → first_outside (power b) xs ≡ None
wider a b xs l h = all_upto b xs (λ i m. upto_mono (get_or xs i nan) (2 ^ a) (2 ^ b) (all_within a xs h i m) (pow_mono {i = a} {j = b} l))
