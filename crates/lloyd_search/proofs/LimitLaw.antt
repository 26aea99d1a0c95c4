-- What the check of magnitude lets pass, for the limit 2 ^ b, is at most
-- 2 ^ b in size; and a completed call has passed it. Assumes nothing.
use Rattle.std.specs.Prelude.{Option, None, Some}
use mathlib.Core.Path.{◌≡◌, refl, sym, subst}
use Prim.Native.Nat.{ℕ, ◌*◌, ◌^◌, ◌≤◌, ◌<◌}
use native.Mathlib.Nat.{le_of_lt, le_of_eq, one-mul}
use mathlib.Core.Bool.{Bool, true, false, not, ◌&&◌, ◌||◌}
use mathlib.Core.List.{List, [], ◌∷◌}
use lib.Dec.{T, ltb, eqb, ltb→lt, eqb→eq}
use lib.IntN.{pos}
use lib.ListN.{length, get_or}
use lib.Ieee.{Float, nan, inf, fin, up, down, lt, eq, le, neg}
use lib.Ieee.Fits.{and_l, and_r}
use borrow.Author.Tests.{not-false}
use Rattle.error.specs.Numbers.{Value, Outcome, completed, refused, whole}
use Rattle.error.proofs.Outcomes.{never}
use Rattle.ieee.specs.Bounds.{Upto}
use Rattle.ieee.proofs.Value.{holds_true}
use Rattle.slices.specs.Limit.{within, first_outside, bounded}
use Rattle.slices.proofs.FirstLaw.{none_before}

-- 2 ^ b as a float
abbrev pub power : ℕ → Float
power b = fin false 1 (pos b)

or_le : (a b : ℕ) → T (ltb a b || (eqb a b && true)) → a ≤ b
or_le a b t = go (ltb a b) (eqb a b) (ltb→lt a b) (eqb→eq a b) t
  where
    go : (x y : Bool) → (T x → a < b) → (T y → a ≡ b) → T (x || (y && true)) → a ≤ b
    go true y h k t = le_of_lt (h tt)
    go false true h k t = le_of_eq (k tt)
    go false false h k t = absurd t

or_ge : (a b : ℕ) → T (ltb b a || (eqb a b && true)) → b ≤ a
or_ge a b t = go (ltb b a) (eqb a b) (ltb→lt b a) (eqb→eq a b) t
  where
    go : (x y : Bool) → (T x → b < a) → (T y → a ≡ b) → T (x || (y && true)) → b ≤ a
    go true y h k t = le_of_lt (h tt)
    go false true h k t = le_of_eq (sym (k tt))
    go false false h k t = absurd t

passed : (b : ℕ) (x : Float) → T (le (neg (power b)) x) → T (le x (power b)) → Upto x (2 ^ b)
unfolding le lt eq neg
passed b nan h k = h
passed b (inf true) h k = h
passed b (inf false) h k = k
passed b (fin true m e) h k = subst (λ (z : ℕ). m * up e * 1 ≤ z * down e) (one-mul (2 ^ b)) (or_ge (1 * 2 ^ b * down e) (m * up e * 1) h)
passed b (fin false m e) h k = subst (λ (z : ℕ). m * up e * 1 ≤ z * down e) (one-mul (2 ^ b)) (or_le (m * up e * 1) (1 * 2 ^ b * down e) k)

pub within_upto : (b : ℕ) (x : Float) → within (power b) x ≡ true → Upto x (2 ^ b)
within_upto b x h =
    let p : Bool = le (neg (power b)) x in
    let q : Bool = le x (power b) in
    passed b x (and_l p q (holds_true h)) (and_r p q (holds_true h))

-- no place outside: every value is within
pub all_within : (b : ℕ) (xs : List Float) → first_outside (power b) xs ≡ None → (i : ℕ) → i < length xs → Upto (get_or xs i nan) (2 ^ b)
all_within b xs h i l = within_upto b (get_or xs i nan) (not-false _ (none_before (λ j. not (within (power b) (get_or xs j nan))) (length xs) h i l))

-- a completed call has passed the check
pub passed_bounded : {A : Type 0} (slice : ℕ) (f : Option ℕ) (rest : Outcome A) (r : A) → bounded slice f rest ≡ completed r
    → (f ≡ None) × (rest ≡ completed r)
passed_bounded slice None rest r e = (refl, e)
passed_bounded slice (Some place) rest r e = absurd (never 18 (whole slice ∷ whole place ∷ []) r e)

-- another refusal than 18 comes after it
pub after_bounded : {A : Type 0} (slice : ℕ) (f : Option ℕ) (rest : Outcome A) (m : ℕ) (us : List Value) → (18 ≡ m → ⊥) → bounded slice f rest ≡ refused m us → rest ≡ refused m us
after_bounded slice None rest m us o e = e
after_bounded slice (Some place) rest m us o e = let z : 18 ≡ m = cc in absurd (o z)
