use Rattle.std.proofs.Common.{◌≡◌, ◌*◌}
use Rattle.lloyd_search.specs.Distance.{vector_of, row_as}
use Rattle.lloyd_search.specs.Choice.{chosen}
use Rattle.lloyd_search.specs.Four.{four_from}
use Rattle.lloyd_search.proofs.codewords.Codewords.search_fours.Given as goal

abbrev pub invariant-loop-turn : goal.invariant-loop-turn
invariant-loop-turn g l =
    let t = g.T.Coordinate in
    let k = l.self.dim in
    let book = row_as t.value t.missing k l.self.values.now in
    let x = vector_of l.block in record { passed : l.best ≡ chosen k (l.turn * 4) book x; four : l.four ≡ four_from k x book (l.turn * 4) }
