-- The sums of its distances that the search called alone keeps, and that each is finite. Definitions only.
use Rattle.std.specs.Prelude.{ℕ, ◌+◌, ◌*◌, ◌/◌, ◌≤◌, ◌<◌, T, Float}
use Rattle.std.specs.Float.{binary64}
use Rattle.std.specs.Float.Ieee.{add}
use Rattle.std.specs.Float.Ieee.Scale.{finite}
use Rattle.ieee.specs.Sum.{sum_to}

-- the sum of every fourth distance, from the r-th on, of the first 4 × m
abbrev pub every_fourth : (ℕ → Float) → ℕ → ℕ → Float
every_fourth d r m = sum_to (λ t. d (t * 4 + r)) m

-- those four sums added in pairs
abbrev pub sum_of_distances : (ℕ → Float) → ℕ → Float
sum_of_distances d m =
    add binary64 (add binary64 (every_fourth d 0 m) (every_fourth d 1 m))
    (add binary64 (every_fourth d 2 m) (every_fourth d 3 m))

-- the sums over n distances: of every fourth, and of these
pub record FiniteTotals (d : ℕ → Float) (n : ℕ) : Type 0 where
  pub fourths : (r m : ℕ) → r < 4 → m ≤ n / 4 → T (finite (every_fourth d r m))
  pub first_pair : T (finite (add binary64 (every_fourth d 0 (n / 4)) (every_fourth d 1 (n / 4))))
  pub second_pair : T (finite (add binary64 (every_fourth d 2 (n / 4)) (every_fourth d 3 (n / 4))))
  pub whole : T (finite (sum_of_distances d (n / 4)))
