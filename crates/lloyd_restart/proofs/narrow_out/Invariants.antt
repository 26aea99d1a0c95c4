use Rattle.std.proofs.Common.{◌≡◌, ℕ, ◌+◌, get_or, List}
use Rattle.std.specs.Prelude.{Float}
use Rattle.std.specs.Float.{nan, binary32}
use Rattle.narrow.specs.Pack.{narrow_to}
use Rattle.slices.specs.Lists.{patched}
use Rattle.lloyd_restart.proofs.narrow_out.Given as goal

abbrev pub narrow_at : List Float → ℕ → ℕ → Float
narrow_at work from i = narrow_to binary32 (get_or work (from + i) nan)

abbrev pub invariant-loop-i : goal.invariant-loop-i
invariant-loop-i l = l.codewords ≡ patched l.fn.codewords 0 l.i (narrow_at l.work l.from)
