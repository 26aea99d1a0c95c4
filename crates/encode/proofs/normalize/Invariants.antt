use mathlib.Core.Path.{◌≡◌}
use Rattle.slices.specs.Lists.{patched}
use Rattle.encode.specs.Encode.{normalized_at}
use Rattle.encode.proofs.normalize.Given as goal

abbrev pub invariant-loop-i : goal.invariant-loop-i
invariant-loop-i l = l.output ≡ patched l.initial.output 0 l.i (normalized_at l.input l.norm)
