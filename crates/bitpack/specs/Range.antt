-- What it means that the first index above a bound is refused. Definitions only; proofs/Checks.antt has it of `in_range`.
use Rattle.std.specs.Prelude.{ℕ, ◌<◌, ◌≤◌, ◌≡◌, List, [], ◌∷◌, ◌⊎◌, length, get_or}
use Rattle.error.specs.Numbers.{Outcome, completed, refused, whole}

-- the first index above the bound: it stands at `place`, and no earlier one is above
pub record FirstAbove (xs : List ℕ) (bound place : ℕ) : Type 0 where
  pub inside : place < length xs
  pub above : bound < get_or xs place 0
  pub earlier : (j : ℕ) → j < place → get_or xs j 0 ≤ bound

-- an outcome that says of a list: no index is above the bound, or the first one that is, is refused
abbrev pub Ranged : List ℕ → ℕ → Outcome Unit → Type 0
Ranged xs bound o =
    ((o ≡ completed tt) × ((i : ℕ) → get_or xs i 0 ≤ bound))
    ⊎ ((place : ℕ) × FirstAbove xs bound place × (o ≡ refused 11 (whole (get_or xs place 0) ∷ whole bound ∷ [])))
