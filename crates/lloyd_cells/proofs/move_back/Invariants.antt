use Rattle.std.proofs.Common.{◌≡◌, ℕ, ◌+◌, get_or, List}
use Rattle.std.specs.Prelude.{Float}
use Rattle.std.specs.Float.{nan, binary64}
use Rattle.std.specs.Float.Ieee.{sub}
use Rattle.slices.specs.Lists.{patched}
use Rattle.lloyd_search.specs.Distance.{vector_of}
use Rattle.lloyd_cells.specs.Repair.{shift}
use Rattle.lloyd_cells.proofs.move_back.Given as goal

abbrev pub moved_at : List Float → ℕ → List Float → Float → ℕ → Float
moved_at work donor far norm j = sub binary64 (get_or work (donor + j) nan) (shift (vector_of far j) (get_or work (donor + j) nan) norm)

abbrev pub invariant-loop-j : goal.invariant-loop-j
invariant-loop-j l = l.word-items ≡ patched l.initial.word-items 0 l.j (moved_at l.fn.work l.donor l.far l.norm)
