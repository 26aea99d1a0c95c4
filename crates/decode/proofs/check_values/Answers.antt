-- `decode::check_values` meets its contract: the codewords, then the matrix. Assumes nothing.
use Rattle.std.proofs.Common.{rules}
use lib.Ieee.{of_bits}
use Rattle.decode.specs.Decode.{values}
use Rattle.decode.proofs.check_values.Goals as goal

pub returns : goal.returns
unfolding values of_bits
returns c = search rules
