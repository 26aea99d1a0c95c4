-- Four distances that are worked out side by side. Definitions only.
use Rattle.std.specs.Prelude.{ℕ, ◌+◌, List, [], ◌∷◌, Float}
use Rattle.lloyd_search.specs.Distance.{distance}

-- of x to four codewords, the first of which has this number
abbrev pub four_from : ℕ → (ℕ → Float) → (ℕ → ℕ → Float) → ℕ → List Float
four_from k x book i = distance k x (book i) ∷ distance k x (book (i + 1)) ∷ distance k x (book (i + 2)) ∷ distance k x (book (i + 3)) ∷ []
