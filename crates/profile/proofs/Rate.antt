-- A bound on a magnitude by two bounds, by which the rates are tested. Assumes nothing.
use Rattle.std.proofs.Common.{◌≡◌, ℕ, zero, suc, ◌+◌, ◌*◌, Bool, true, false, ◌&&◌, ◌||◌, eqb, ltb, ℤ, sym, refl, arith, lt-ltb, eq-eqb, ne_eqb, eqb-true}
use lib.Ieee.{Float, nan, inf, fin, lt, le, eq, up, down}
use borrow.Author.Tests.{eqb-false}
use Rattle.profile.specs.Fields.{abs}

eqb_sym : (a b : ℕ) → eqb a b ≡ eqb b a
eqb_sym a b = go (eqb a b) (eqb-true a b) (eqb-false a b)
  where
    go : (t : Bool) → (t ≡ true → a ≡ b) → (t ≡ false → a ≡ b → ⊥) → t ≡ eqb b a
    go true y n = sym (eq-eqb b a (sym (y refl)))
    go false y n = sym (ne_eqb b a (λ (e : b ≡ a). n refl (sym e)))

-- -a is at most b
signs_apart : (a b : ℕ) → (ltb 0 (a + b) || (eqb a b && (false || eqb a 0))) ≡ true
signs_apart zero zero = refl
signs_apart zero (suc b) = rw (lt-ltb 0 (zero + suc b) (omega arith))
signs_apart (suc a) b = rw (lt-ltb 0 (suc a + b) (omega arith))

and_true : (a : Bool) → a ≡ (a && true)
and_true true = refl
and_true false = refl

-- a magnitude is at most m * 2 ^ e where the value is at most that and at least its negative
pub abs_le : (x : Float) (m : ℕ) (e : ℤ) → le (abs x) (fin false m e) ≡ (le x (fin false m e) && le (fin true m e) x)
unfolding le lt eq
abs_le nan m e = refl
abs_le (inf true) m e = refl
abs_le (inf false) m e = refl
abs_le (fin false n d) m e = rw (signs_apart (m * up e * down d) (n * up d * down e)) (and_true _)
abs_le (fin true n d) m e =
    rw (signs_apart (n * up d * down e) (m * up e * down d), eqb_sym (n * up d * down e) (m * up e * down d)) refl
