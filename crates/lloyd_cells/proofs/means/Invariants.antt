use Rattle.std.proofs.Common.{◌≡◌}
use Rattle.lloyd_cells.specs.Work.{means_to}
use Rattle.lloyd_cells.proofs.means.Given as goal

abbrev pub invariant-loop-c : goal.invariant-loop-c
invariant-loop-c l = l.work ≡ means_to l.p l.k l.counts l.fn.work l.c
