-- Four blocks that are searched side by side. Definitions only.
use Rattle.std.specs.Prelude.{ℕ, List, [], ◌∷◌, Float}
use Rattle.lloyd_search.specs.declared.Choice.{Choice}
use Rattle.lloyd_search.specs.Choice.{chosen}

-- the choices, among n codewords with k coordinates each, for the first four of the blocks
abbrev pub four_chosen : ℕ → ℕ → (ℕ → ℕ → Float) → (ℕ → ℕ → Float) → List Choice
four_chosen k n book blocks = chosen k n book (blocks 0) ∷ chosen k n book (blocks 1) ∷ chosen k n book (blocks 2) ∷ chosen k n book (blocks 3) ∷ []
