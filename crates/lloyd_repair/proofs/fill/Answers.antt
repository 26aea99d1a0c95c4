-- `lloyd_repair::fill` meets its contract: the code's constant is the definition's. Assumes nothing.
use Rattle.std.proofs.Common.{refl}
use lib.Ieee.{of_bits}
use Rattle.lloyd_repair.proofs.fill.Goals as goal

pub returns-clause-event : goal.returns-clause-event
unfolding of_bits
returns-clause-event c = refl
