use mathlib.Core.Path.{◌≡◌}
use lib.ListN.{get_or}
use lib.Ieee.{nan, binary32}
use Rattle.slices.specs.Lists.{patched}
use Rattle.narrow.specs.Pack.{narrow_to}
use Rattle.encode.proofs.round.Given as goal

abbrev pub invariant-loop-value : goal.invariant-loop-value
invariant-loop-value l = l.values ≡ patched l.initial.values 0 l.value-index (λ i. narrow_to binary32 (get_or l.initial.values i nan))
