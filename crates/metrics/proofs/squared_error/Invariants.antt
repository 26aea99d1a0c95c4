use Rattle.std.proofs.Common.{◌≡◌, length}
use Rattle.metrics.specs.Mse.{squared_error}
use Rattle.metrics.proofs.squared_error.Given as goal

abbrev pub invariant-loop-x : goal.invariant-loop-x
invariant-loop-x l = l.sum ≡ squared_error l.left l.right (length l.yielded)
