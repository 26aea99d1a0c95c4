use mathlib.Core.Path.{◌≡◌}
use lib.ListN.{get_or}
use lib.Ieee.{nan}
use Rattle.slices.specs.Lists.{patched}
use Rattle.decode.proofs.copy_out.Given as goal

abbrev pub invariant-loop-i : goal.invariant-loop-i
invariant-loop-i l = l.output ≡ patched l.initial.output 0 l.i (λ j. get_or l.values j nan)
