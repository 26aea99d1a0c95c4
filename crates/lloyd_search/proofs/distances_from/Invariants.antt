use Rattle.std.proofs.Common.{◌≡◌, length}
use Rattle.lloyd_search.specs.Distance.{vector_as, row_as}
use Rattle.lloyd_search.specs.Four.{four_from}
use Rattle.lloyd_search.proofs.distances_from.Given as goal

abbrev pub invariant-loop-j : goal.invariant-loop-j
invariant-loop-j g l =
    let s = g.S.Coordinate in
    let t = g.T.Coordinate in
    l.sums ≡ four_from l.j (vector_as s.value s.missing l.one) (row_as t.value t.missing (length l.one) l.rows) l.index
