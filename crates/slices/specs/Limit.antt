-- The checks of values: at most a limit in size, or finite. Definitions only.
use Rattle.std.specs.Prelude.{ℕ, Bool, not, ◌&&◌, List, [], ◌∷◌, length, get_or, Float, Option, None, Some}
use Rattle.std.specs.Float.{nan}
use Rattle.std.specs.Float.Ieee.{le, neg}
use Rattle.std.specs.Float.Ieee.Scale.{finite}
use Rattle.error.specs.Numbers.{Outcome, refused, whole}
use Rattle.slices.specs.First.{first_where}

-- finite, with a finite limit, and at most the limit in size; false for a NaN
abbrev pub within : Float → Float → Bool
within limit x = le (neg limit) x && le x limit

-- the first value that fails a test
abbrev pub first_failing : (Float → Bool) → List Float → Option ℕ
first_failing test xs = first_where (λ i. not (test (get_or xs i nan))) (length xs)

abbrev pub first_outside : Float → List Float → Option ℕ
first_outside limit = first_failing (within limit)

abbrev pub first_not_finite : List Float → Option ℕ
first_not_finite = first_failing finite

-- 18 at the first value that is not finite or too large, and what comes after it
abbrev pub bounded : {A : Type 0} → ℕ → Option ℕ → Outcome A → Outcome A
bounded slice None rest = rest
bounded slice (Some place) rest = refused 18 (whole slice ∷ whole place ∷ [])
