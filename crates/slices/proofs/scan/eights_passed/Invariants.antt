-- every value before the eight at hand passes
use Rattle.std.proofs.Common.{◌≡◌, ℕ, ◌<◌, ◌*◌, true, slice_index_or}
use Rattle.slices.proofs.scan.eights_passed.Given as goal

abbrev pub invariant-loop-turn : goal.invariant-loop-turn
invariant-loop-turn g l = (j : ℕ) (d : g.row.T.Denot) → j < 8 * l.turn → g.C.Test.passes l.test (slice_index_or l.s j d) ≡ true
