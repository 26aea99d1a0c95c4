-- `decode::copy_out` meets its contract: every value is copied. Assumes nothing.
use native.Mathlib.Omega.{arith}
use Rattle.decode.proofs.ListLaw.{all_copied}
use Rattle.decode.proofs.copy_out.Goals as goal

pub returns : goal.returns
returns c = all_copied c.args.output.now c.loop-i.output c.args.values.now c.loop-i.i c.loop-i.invariant (omega arith) c.requires.lengths
