-- What a radius reaches: `Reach`, which proofs/ReachLaw.antt proves of every query of finite binary32 values that has its
-- lengths (`Sound`); every value of an f32 slice is one of binary32. And when a radius is refused: `Radius`. Definitions only.
use Rattle.std.specs.Prelude.{◌≡◌, ℕ, ◌<◌, List, [], true, false, not, T, eqb, ◌⊎◌, length, get_or, Float}
use Rattle.std.specs.Float.{nan, inf, binary32}
use Rattle.std.specs.Float.Ieee.{lt, eq, fits}
use Rattle.std.specs.Float.Ieee.Scale.{finite}
use Rattle.error.specs.Numbers.{completed, refused}
use Rattle.ieee.specs.Bounds.{NotNegative}
use Rattle.ieee.specs.Sum.{plus_zero}
use Rattle.lloyd_search.specs.Distance.{vector_of, row_of}
use Rattle.lloyd_search.specs.Nearest.{nearest}
use Rattle.around.specs.Around.{Query, distance_to, square_of, within_radius, count_within, sound, around}

-- ---- of which queries it speaks
abbrev pub Singles : List Float → Type 0
Singles xs = (i : ℕ) → i < length xs → T (fits binary32 (get_or xs i nan))

pub record Sound (q : Query) : Type 0 where
  pub block_of_singles : Singles q.block
  pub codewords_of_singles : Singles q.codewords
  -- past 7 and 18, the list aside
  pub passes : sound q true ≡ completed tt

-- ---- what a radius reaches
-- the block equals codeword m in every coordinate, as IEEE 754 compares: plus and minus zero are equal
abbrev pub Equal : Query → ℕ → Type 0
Equal q m = (j : ℕ) → j < q.dim → T (eq (vector_of q.block j) (row_of q.dim q.codewords m j))

-- the codewords within are those that the block equals
abbrev pub ExactHits : Query → Float → Type 0
ExactHits q radius = (m : ℕ) → m < q.size → (T (within_radius q radius m) → Equal q m) × (Equal q m → T (within_radius q radius m))

-- the number of the codeword that the nearest search names for this block
abbrev pub chosen : Query → ℕ
chosen q = (nearest q.dim q.size (row_of q.dim q.codewords) (vector_of q.block)).index

pub record Reach (q : Query) (radius : Float) : Type 0 where
  -- every comparison is one of numbers: each distance is finite and not below zero
  pub distances : (m : ℕ) → m < q.size → T (finite (distance_to q m)) × NotNegative (distance_to q m)
  -- radius zero, minus zero included, finds exact hits only, and all of them; and so does each whose square becomes zero
  pub zero : T (eq radius plus_zero) → ExactHits q radius
  pub small : square_of radius ≡ plus_zero → ExactHits q radius
  -- where its square becomes the infinity, every codeword is within
  pub large : square_of radius ≡ inf false → ((m : ℕ) → m < q.size → T (within_radius q radius m)) × (count_within q radius ≡ q.size)
  -- the codeword that the nearest search names is within, if any is
  pub chosen_within : 0 < count_within q radius → T (within_radius q radius (chosen q))

-- ---- when it is refused
-- neither 7 nor 18 comes, for a list of so many places
abbrev pub Passes : Query → ℕ → Type 0
Passes q places = sound q (eqb places q.size) ≡ completed tt

-- 21 comes exactly where they don't and the radius is below zero, as minus zero is not, or not finite
pub record Radius (q : Query) (radius : Float) (places : ℕ) : Type 0 where
  pub below_zero : Passes q places → T (lt radius plus_zero) → around q radius places ≡ refused 21 []
  pub not_finite : Passes q places → T (not (finite radius)) → around q radius places ≡ refused 21 []
  pub only : around q radius places ≡ refused 21 [] → Passes q places × (T (lt radius plus_zero) ⊎ T (not (finite radius)))
  -- any other is accepted, whatever its square becomes
  pub others : Passes q places → T (finite radius) → T (not (lt radius plus_zero)) → around q radius places ≡ completed (count_within q radius)
