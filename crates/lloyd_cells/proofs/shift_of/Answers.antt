-- `lloyd_cells::shift_of` meets its contract: the code's constant is the definition's. Assumes nothing.
use mathlib.Core.Path.{refl}
use lib.Ieee.{of_bits}
use Rattle.lloyd_cells.proofs.shift_of.Goals as goal

pub returns : goal.returns
unfolding of_bits
returns c = refl
