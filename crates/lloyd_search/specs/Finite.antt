-- Every arithmetic result of a distance, of a search and of a mean error is finite. Definitions only.
-- (The +infinity from which a search starts is a constant and no result; a comparison has no float for a result.)
use Rattle.std.specs.Prelude.{ℕ, ◌≤◌, ◌<◌, T, pos, Float}
use Rattle.std.specs.Float.{binary64}
use Rattle.std.specs.Float.Ieee.{sub, of_int}
use Rattle.std.specs.Float.Ieee.Scale.{finite}
use Rattle.ieee.specs.Sum.{sum_to, squared_difference}
use Rattle.lloyd_search.specs.Distance.{distance}
use Rattle.lloyd_search.specs.Nearest.{nearest, mean_error}

-- each difference, either way round, each square, and each partial sum of the squares (of the first m), the whole sum
-- among them
pub record FiniteDistance (k : ℕ) (x y : ℕ → Float) : Type 0 where
  pub differences : (j : ℕ) → j < k → T (finite (sub binary64 (x j) (y j)))
  pub turned : (j : ℕ) → j < k → T (finite (sub binary64 (y j) (x j)))
  pub squares : (j : ℕ) → j < k → T (finite (squared_difference (x j) (y j)))
  pub partial_sums : (m : ℕ) → m ≤ k → T (finite (distance m x y))

-- those of the distance to every codeword; and the distance found is finite
pub record FiniteNearest (k n : ℕ) (book : ℕ → ℕ → Float) (x : ℕ → Float) : Type 0 where
  pub distances : (i : ℕ) → i < n → FiniteDistance k x (book i)
  pub found : T (finite (nearest k n book x).distance)

-- those of every sample's search, each partial sum of the distances found, their number as a float, and the quotient
pub record FiniteMean (k n : ℕ) (book samples : ℕ → ℕ → Float) (S : ℕ) : Type 0 where
  pub searches : (s : ℕ) → s < S → FiniteNearest k n book (samples s)
  pub partial_sums : (m : ℕ) → m ≤ S → T (finite (sum_to (λ s. (nearest k n book (samples s)).distance) m))
  pub count : T (finite (of_int binary64 (pos S)))
  pub quotient : T (finite (mean_error k n book samples S))
