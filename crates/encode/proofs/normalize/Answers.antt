-- `encode::normalize` meets its contract: every place holds its quotient. Assumes nothing.
use native.Mathlib.Omega.{arith}
use Rattle.encode.specs.Encode.{normalized_at}
use Rattle.decode.proofs.ListLaw.{all_written}
use Rattle.encode.proofs.normalize.Goals as goal

pub returns : goal.returns
returns c =
    let a = c.args in
    all_written a.output.now c.loop-i.output c.loop-i.i (normalized_at a.input.now a.norm) c.loop-i.invariant (omega (arith, c.requires))
