-- every value before the place at hand passes
use Rattle.std.proofs.Common.{◌≡◌, ℕ, ◌<◌, true, slice_index_or}
use Rattle.slices.proofs.scan.first_failing.Given as goal

abbrev pub invariant-loop-place : goal.invariant-loop-place
invariant-loop-place g l = (j : ℕ) (d : g.row.T.Denot) → j < l.place → g.C.Test.passes l.test (slice_index_or l.s j d) ≡ true
