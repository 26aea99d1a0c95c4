-- What the host gets of a parsed frame: width, count, and how long norm and indices are, which follow the header.
-- Definitions only.
use Rattle.std.specs.Prelude.{List, [], ◌∷◌, length}
use Rattle.error.specs.Numbers.{Value, whole}
use Rattle.compact.specs.Frame.{Parts}

abbrev pub lengths_in : Parts → List Value
lengths_in p = whole p.width ∷ whole p.count ∷ whole (length p.norm) ∷ whole (length p.indices) ∷ []
