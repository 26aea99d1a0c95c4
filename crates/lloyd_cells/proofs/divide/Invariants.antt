use Rattle.std.proofs.Common.{◌≡◌, ℕ, ◌+◌, get_or, List}
use Rattle.std.specs.Prelude.{Float, pos}
use Rattle.std.specs.Float.{nan, binary64}
use Rattle.std.specs.Float.Ieee.{div, of_int}
use Rattle.slices.specs.Lists.{patched}
use Rattle.lloyd_cells.proofs.divide.Given as goal

abbrev pub quotient_at : List Float → ℕ → ℕ → ℕ → Float
quotient_at work at count j = div binary64 (get_or work (at + j) nan) (of_int binary64 (pos count))

abbrev pub invariant-loop-value : goal.invariant-loop-value
invariant-loop-value l = l.value-items ≡ patched l.initial.value-items 0 l.value-index (quotient_at l.fn.work l.fn.at l.fn.count)
