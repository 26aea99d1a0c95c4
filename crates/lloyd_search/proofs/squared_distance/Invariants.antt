use Rattle.std.proofs.Common.{◌≡◌}
use Rattle.lloyd_search.specs.Distance.{distance, vector_as}
use Rattle.lloyd_search.proofs.squared_distance.Given as goal

abbrev pub invariant-loop-j : goal.invariant-loop-j
invariant-loop-j g l =
    let n = g.S.Coordinate in
    let m = g.T.Coordinate in
    l.sum ≡ distance l.j (vector_as n.value n.missing l.a) (vector_as m.value m.missing l.b)
