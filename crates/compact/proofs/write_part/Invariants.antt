use mathlib.Core.Path.{◌≡◌}
use Rattle.std.proofs.Math.Seq.{paste}
use Rattle.compact.proofs.write_part.Given as goal

abbrev pub invariant-loop-i : goal.invariant-loop-i
invariant-loop-i l = l.output ≡ paste l.initial.output l.at l.part l.i
