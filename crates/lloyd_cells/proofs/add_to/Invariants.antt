use Rattle.std.proofs.Common.{◌≡◌, ℕ, ◌+◌, get_or, List}
use Rattle.std.specs.Prelude.{Float}
use Rattle.std.specs.Float.{nan, binary64}
use Rattle.std.specs.Float.Ieee.{add}
use Rattle.slices.specs.Lists.{patched}
use Rattle.lloyd_search.specs.Distance.{vector_of}
use Rattle.lloyd_cells.proofs.add_to.Given as goal

abbrev pub sum_at : List Float → ℕ → List Float → ℕ → Float
sum_at work at sample j = add binary64 (get_or work (at + j) nan) (vector_of sample j)

abbrev pub invariant-loop-j : goal.invariant-loop-j
invariant-loop-j l = l.value-items ≡ patched l.initial.value-items 0 l.j (sum_at l.fn.work l.at l.sample)
