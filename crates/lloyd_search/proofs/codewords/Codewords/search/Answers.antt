-- `Codewords::search` meets its contract: from what the fours give, the
-- best so far is the choice among the codewords passed. Assumes nothing.
use Rattle.std.proofs.Common.{◌≡◌, refl, ◌+◌, ◌*◌}
use Rattle.lloyd_search.specs.Distance.{distance, vector_of, row_as}
use Rattle.lloyd_search.proofs.Parts.{part_distance_as}
use Rattle.lloyd_search.proofs.NearestLaw.{one_more}
use Rattle.lloyd_search.proofs.codewords.Codewords.search.Goals as goal

pub loop-i-preserved : goal.loop-i-preserved
loop-i-preserved g c =
    let t = g.T.Coordinate in
    let k = c.args.self.dim in
    let l = c.loop-i in
    let cw = c.args.self.values.now in
    let x = vector_of c.args.block.now in
    let part = part_distance_as t.value t.missing x cw l.i k (l.i * k) refl in
    let far : c.squared_distance.result ≡ distance k x (row_as t.value t.missing k cw l.i) = rw (c.squared_distance.ensures, c.requires) part in
    one_more (λ m. distance k x (row_as t.value t.missing k cw m)) l.i (l.i + 1) l.best _ c.squared_distance.result refl l.invariant far c.nearer-best.ensures
