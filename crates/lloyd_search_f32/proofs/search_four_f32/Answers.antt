-- `lloyd_search_f32::search_four_f32` meets its contract: the best so far of
-- each block is the choice among the codewords passed. Assumes nothing.
use Rattle.std.proofs.Common.{◌+◌, ◌*◌, ◌≤◌, length, refl}
use lib.Ieee.{of_bits}
use Rattle.lloyd_search.specs.Nearest.{first_least}
use Rattle.lloyd_search.specs.Choice.{last_least}
use Rattle.lloyd_search.proofs.Parts.{row_fits}
use Rattle.lloyd_search_f32.proofs.FourBlocks.{four_passed}
use Rattle.lloyd_search_f32.proofs.search_four_f32.Goals as goal

pub loop-i-init : goal.loop-i-init
unfolding of_bits first_least last_least
loop-i-init c = refl

pub loop-i-preserved : goal.loop-i-preserved
loop-i-preserved c =
    let book = c.args.codewords in
    let i = c.loop-i.i in
    let k = book.dim in
    let inside : i * k + k ≤ length book.values.now = row_fits i book.count k (i * k) (length book.values.now) c.loop-i-test.true refl book.shape in
    four_passed book.values.now _ i k inside c.distances_from-far.result c.distances_from-far.ensures c.loop-i.best _ c.nearer.result c.nearer-in-loop-i.result c.nearer-in-loop-i-2.result c.nearer-in-loop-i-3.result
    c.loop-i.invariant c.nearer.ensures c.nearer-in-loop-i.ensures c.nearer-in-loop-i-2.ensures c.nearer-in-loop-i-3.ensures
