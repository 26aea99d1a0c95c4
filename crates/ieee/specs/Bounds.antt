-- How large a float is, and its sign. Definitions only.
use Rattle.std.specs.Prelude.{◌≡◌, ℕ, suc, ◌+◌, ◌*◌, ◌^◌, ◌<◌, ◌≤◌, false, Float}
use Rattle.std.specs.Float.{nan, inf, fin, Format}
use Rattle.std.specs.Float.Ieee.{prec, emax, low, up, down}

-- x is finite, and at most a / c in size
abbrev pub AtMost : Float → ℕ → ℕ → Type 0
AtMost nan a c = ⊥
AtMost (inf s) a c = ⊥
AtMost (fin s m e) a c = m * up e * c ≤ a * down e

-- x is finite, and at least a / c in size
abbrev pub AtLeast : Float → ℕ → ℕ → Type 0
AtLeast nan a c = ⊥
AtLeast (inf s) a c = ⊥
AtLeast (fin s m e) a c = a * down e ≤ m * up e * c

abbrev pub Upto : Float → ℕ → Type 0
Upto x A = AtMost x A 1

-- x is no NaN and has no minus sign: +0, a value above it, or the infinity above
abbrev pub NotNegative : Float → Type 0
NotNegative nan = ⊥
NotNegative (inf s) = s ≡ false
NotNegative (fin s m e) = s ≡ false

-- The whole number A is a value of the format: q * 2 ^ j with q of at most `prec` digits, below 2 ^ (emax + 1)
pub record Holds (f : Format) (A : ℕ) : Type 0 where
  pub q : ℕ
  pub j : ℕ
  pub small : q < 2 ^ prec f
  pub reach : j + prec f ≤ suc (emax f)
  pub is : A ≡ q * 2 ^ j

-- The fraction a / c is a value of the format: q * 2 ^ j times its smallest
-- value, 2 ^ -low, with q of at most `prec` digits, below 2 ^ (emax + 1)
pub record HoldsFraction (f : Format) (a c : ℕ) : Type 0 where
  pub q : ℕ
  pub j : ℕ
  pub small : q < 2 ^ prec f
  pub under : q * 2 ^ j < 2 ^ (low f + suc (emax f))
  pub is : a * 2 ^ low f ≡ q * 2 ^ j * c
