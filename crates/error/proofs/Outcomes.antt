-- Outcomes, and checks one after another: what a completed one
-- has passed, and where a refusal came from. Assumes nothing.
use mathlib.Core.Path.{◌≡◌, refl, sym}
use mathlib.Core.Logic.{◌⊎◌, inl, inr}
use Prim.Native.Nat.{ℕ, ◌<◌}
use native.Mathlib.Omega.{arith}
use mathlib.Core.Bool.{Bool, true, false, ◌&&◌, cond, true≢false}
use mathlib.Core.List.{List, [], ◌∷◌}
use lib.Dec.{eqb}
use borrow.Author.Tests.{eqb-true}
use Rattle.error.specs.Numbers.{Value, Outcome, completed, refused, whole, and_then, also, of_length}

-- both of two tests hold
pub both : (a b : Bool) → a && b ≡ true → (a ≡ true) × (b ≡ true)
both true b e = (refl, e)
both false b e = absurd (true≢false (sym e))

module _ {A : Type 0} where
  -- what is completed is not refused, and not completed with another thing
  pub never : (n : ℕ) (vs : List Value) (x : A) → refused n vs ≡ completed x → ⊥
  never n vs x e = let z : ◌≡◌ {A = ℕ} 0 1 = cc in omega arith

  pub completed_same : (x y : A) → completed x ≡ completed y → x ≡ y
  completed_same x y e = cc

  -- a completed call has passed its check
  pub passed : (t : Bool) (n : ℕ) (vs : List Value) (rest : Outcome A) (x : A) → cond t (refused n vs) rest ≡ completed x
      → (t ≡ false) × (rest ≡ completed x)
  passed true n vs rest x e = absurd (never n vs x e)
  passed false n vs rest x e = (refl, e)

  -- and a check of a length
  pub passed_length : (slice want have : ℕ) (rest : Outcome A) (x : A) → of_length slice want have rest ≡ completed x → (have ≡ want) × (rest ≡ completed x)
  passed_length slice want have rest x h = go (eqb have want) refl h
    where
      go : (t : Bool) → eqb have want ≡ t → cond t rest (refused 7 (whole slice ∷ [])) ≡ completed x → (have ≡ want) × (rest ≡ completed x)
      go true e k = (eqb-true have want e, k)
      go false e k = absurd (never 7 (whole slice ∷ []) x k)

  -- another refusal than the check's comes after it
  pub refused_later : (t : Bool) (n : ℕ) (vs : List Value) (rest : Outcome A) (m : ℕ) (us : List Value) → (n ≡ m → ⊥)
      → cond t (refused n vs) rest ≡ refused m us → rest ≡ refused m us
  refused_later true n vs rest m us o e = let z : n ≡ m = cc in absurd (o z)
  refused_later false n vs rest m us o e = e

-- ---- one step after another
module _ {A B : Type 0} where
  pub then_completed : (o : Outcome A) (f : A → Outcome B) (y : B) → and_then o f ≡ completed y
      → (x : A) × (o ≡ completed x) × (f x ≡ completed y)
  then_completed (completed x) f y e = (x, refl, e)
  then_completed (refused n vs) f y e = absurd (never n vs y e)

  pub then_refused : (o : Outcome A) (f : A → Outcome B) (m : ℕ) (vs : List Value) → and_then o f ≡ refused m vs
      → (o ≡ refused m vs) ⊎ ((x : A) × (o ≡ completed x) × (f x ≡ refused m vs))
  then_refused (completed x) f m vs e = inr (x, refl, e)
  then_refused (refused n us) f m vs e = let p : n ≡ m = cc in let q : us ≡ vs = cc in inl (rw (p, q))

-- ---- a refusal that a check does not make comes after it
module _ {A : Type 0} (m : ℕ) (us : List Value) where
  pub after_test : (t : Bool) (n : ℕ) (vs : List Value) (rest : Outcome A) → n < m → cond t (refused n vs) rest ≡ refused m us → rest ≡ refused m us
  after_test t n vs rest h e = refused_later t n vs rest m us (λ z. omega arith) e

  pub after_length : (slice want have : ℕ) (rest : Outcome A) → 7 < m → of_length slice want have rest ≡ refused m us → rest ≡ refused m us
  after_length slice want have rest l e = go (eqb have want) e
    where
      go : (t : Bool) → cond t rest (refused 7 (whole slice ∷ [])) ≡ refused m us → rest ≡ refused m us
      go true e = e
      go false e = let z : 7 ≡ m = cc in absurd (omega (arith, z, l))

  pub after_check : (o : Outcome Unit) (q : Outcome A) → (o ≡ refused m us → ⊥) → also o q ≡ refused m us → q ≡ refused m us
  after_check (completed tt) q h e = e
  after_check (refused n vs) q h e = absurd (let p : n ≡ m = cc in let w : vs ≡ us = cc in h (rw (p, w)))
