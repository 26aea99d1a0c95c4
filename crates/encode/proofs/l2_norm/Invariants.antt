use mathlib.Core.Path.{◌≡◌}
use Rattle.ieee.specs.Sum.{sum_to}
use Rattle.encode.specs.Encode.{square_at}
use Rattle.encode.proofs.l2_norm.Given as goal

abbrev pub invariant-loop-value : goal.invariant-loop-value
invariant-loop-value l = l.sum ≡ sum_to (square_at l.input) l.value-index
