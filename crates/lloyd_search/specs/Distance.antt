-- The squared distance: the squares of the differences, added in the order
-- of the coordinates from +0, each operation rounded. Definitions only.
use Rattle.std.specs.Prelude.{ℕ, ◌+◌, ◌*◌, ◌<◌, Bool, T, List, length, get_or, Float}
use Rattle.std.specs.Float.{nan}
use Rattle.ieee.specs.Sum.{sum_to, squared_difference}

-- of two vectors of k coordinates, each given by its coordinates
abbrev pub distance : ℕ → (ℕ → Float) → (ℕ → Float) → Float
distance k a b = sum_to (λ j. squared_difference (a j) (b j)) k

-- the coordinates of a list
abbrev pub vector_of : List Float → ℕ → Float
vector_of xs j = get_or xs j nan

-- the coordinates of the i-th of the vectors of k coordinates that stand one after another in a list
abbrev pub row_of : ℕ → List Float → ℕ → ℕ → Float
row_of k xs i j = get_or xs (i * k + j) nan

-- ---- the same of a list of values of any type, each of which stands for a float; `missing` stands past the list's end
abbrev pub vector_as : {A : Type 0} → (A → Float) → A → List A → ℕ → Float
vector_as value missing xs j = value (get_or xs j missing)

abbrev pub row_as : {A : Type 0} → (A → Float) → A → ℕ → List A → ℕ → ℕ → Float
row_as value missing k xs i j = value (get_or xs (i * k + j) missing)

-- each value of the list widens
abbrev pub Widens : {A : Type 0} → (A → Bool) → A → List A → Type 0
Widens widens missing xs = (i : ℕ) → i < length xs → T (widens (get_or xs i missing))
