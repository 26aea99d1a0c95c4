-- Where the words of the cells stand in the float work. Assumes nothing.
use mathlib.Core.Path.{◌≡◌}
use mathlib.Core.Logic.{◌⊎◌, inl, inr}
use mathlib.Core.Bool.{Bool, true, false, not}
use Prim.Native.Nat.{ℕ, ◌+◌, ◌*◌, ◌≤◌, ◌<◌}
use native.Mathlib.Nat.{suc-mul, mul-le-mul_right}
use native.Mathlib.Omega.{arith}
use lib.Dec.{T, ltb, ltb→lt, nltb→le}
use Rattle.lloyd_cells.specs.declared.Places.{Places}
use Rattle.lloyd_cells.specs.Work.{Fit}

-- the word of cell i lies below the distortions
pub word_fits : (p : Places) (n k L i : ℕ) → Fit p n k L → i < n → p.words + i * k + k ≤ p.distortions
word_fits p n k L i f h = omega (arith, mul-le-mul_right k h, suc-mul i k)

-- and within the work
pub word_within : (p : Places) (n k L i : ℕ) → Fit p n k L → i < n → p.words + i * k + k ≤ L
word_within p n k L i f h = omega (arith, word_fits p n k L i f h)

-- the words of two cells lie apart
pub words_apart : (p : Places) (k c e : ℕ) → (c ≡ e → ⊥) → (p.words + e * k + k ≤ p.words + c * k) ⊎ (p.words + c * k + k ≤ p.words + e * k)
words_apart p k c e h = go (ltb c e) (ltb→lt c e) (nltb→le c e)
  where
    go : (b : Bool) → (T b → c < e) → (T (not b) → e ≤ c) → (p.words + e * k + k ≤ p.words + c * k) ⊎ (p.words + c * k + k ≤ p.words + e * k)
    go true l g = let m = l tt in inr (omega (arith, mul-le-mul_right k m, suc-mul c k))
    go false l g = let m : e < c = (let le = g tt in omega (arith, h)) in inl (omega (arith, mul-le-mul_right k m, suc-mul e k))
