use Rattle.std.proofs.Common.{◌≡◌, ◌+◌, get_or}
use lib.Ieee.{nan}
use Rattle.slices.specs.Lists.{patched}
use Rattle.codebook.proofs.widen_row.Given as goal

abbrev pub invariant-loop-j : goal.invariant-loop-j
invariant-loop-j l = l.output ≡ patched l.initial.output l.to l.j (λ i. get_or l.codewords (l.at + i) nan)
