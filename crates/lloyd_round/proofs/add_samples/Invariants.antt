use Rattle.std.proofs.Common.{length}
use Rattle.lloyd_cells.specs.Work.{Kept}
use Rattle.lloyd_round.specs.Round.{places_of}
use Rattle.lloyd_round.specs.Adding.{front, Added}
use Rattle.lloyd_round.proofs.add_samples.Given as goal

-- the first s samples are added up
abbrev pub invariant-loop-s : goal.invariant-loop-s
invariant-loop-s l =
    let n = length l.fn.counts in
    Kept (places_of n l.k) n l.k l.fn.work l.work × Added l.k n l.count l.samples (front n l.k l.fn.work) l.s l.work l.counts l.numbers
