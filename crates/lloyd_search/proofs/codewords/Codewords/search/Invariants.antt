use Rattle.std.proofs.Common.{◌≡◌}
use Rattle.lloyd_search.specs.Distance.{vector_of, row_as}
use Rattle.lloyd_search.specs.Choice.{chosen}
use Rattle.lloyd_search.proofs.codewords.Codewords.search.Given as goal

abbrev pub invariant-loop-i : goal.invariant-loop-i
invariant-loop-i g l =
    let t = g.T.Coordinate in
    let k = l.self.dim in
    l.best ≡ chosen k l.i (row_as t.value t.missing k l.self.values.now) (vector_of l.block)
