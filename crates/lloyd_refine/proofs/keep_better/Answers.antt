-- `lloyd_refine::keep_better` meets its contract: the codewords of the restart stand at the front of the work.
-- Assumes nothing.
use Rattle.std.proofs.Common.{arith, length, ◌*◌, ◌≤◌}
use Rattle.std.proofs.lemmas.List.{length-take-le}
use Rattle.lloyd_refine.proofs.keep_better.Goals as goal

pub invariant_of-codewords-clause-shape : goal.invariant_of-codewords-clause-shape
invariant_of-codewords-clause-shape c =
    let h = c.requires in
    let l : c.args.n * c.args.k ≤ length c.args.work.now = omega (arith, h) in
    length-take-le (c.args.n * c.args.k) c.args.work.now l
