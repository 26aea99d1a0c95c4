use mathlib.Core.Path.{◌≡◌}
use Rattle.std.specs.Float.{nan}
use Rattle.std.specs.Prelude.{get_or}
use Rattle.slices.specs.Lists.{patched}
use Rattle.lloyd_restart.proofs.copy_in.Given as goal

abbrev pub invariant-loop-i : goal.invariant-loop-i
invariant-loop-i l = l.work ≡ patched l.initial.work l.to l.i (λ j. get_or l.values j nan)
