-- What the host gets of a search: the codeword's number, 1 if another is as near and else 0, and the distance.
-- Definitions only.
use Rattle.std.specs.Prelude.{cond, List, [], ◌∷◌}
use Rattle.error.specs.Numbers.{Value, whole, real}
use Rattle.lloyd_alone.specs.declared.Marked.{Marked}

abbrev pub found_in : Marked → List Value
found_in m = whole m.found.index ∷ whole (cond m.tied 1 0) ∷ real m.found.distance ∷ []
