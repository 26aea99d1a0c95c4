-- `Codewords::search_fours` meets its contract: before a turn the codewords before
-- its four are passed, and the distances of that four are known. Assumes nothing.
use Rattle.std.proofs.Common.{◌≡◌, ◌+◌, ◌-◌, ◌*◌, ◌/◌, arith, refl}
use lib.Ieee.{of_bits}
use Rattle.lloyd_search.specs.Distance.{vector_of, row_as}
use Rattle.lloyd_search.specs.Nearest.{first_least}
use Rattle.lloyd_search.specs.Choice.{last_least}
use Rattle.lloyd_search.proofs.Fours.{four_more}
use Rattle.lloyd_search.proofs.codewords.Codewords.search_fours.Goals as goal

pub returns-then-fours-eq0 : goal.returns-then-fours-eq0
unfolding of_bits first_least last_least
returns-then-fours-eq0 g c = rw c.if-fours-eq0.true refl

pub loop-turn-init : goal.loop-turn-init
unfolding of_bits first_least last_least
loop-turn-init g c = record { passed = refl; four = rw c.requires at c.distances_from-four.ensures }

pub loop-turn-preserved : goal.loop-turn-preserved
loop-turn-preserved g c =
    let t = g.T.Coordinate in
    let k = c.args.self.dim in
    let l = c.loop-turn in
    let book = row_as t.value t.missing k c.args.self.values.now in
    let next : (l.turn + 1) * 4 ≡ l.turn * 4 + 4 = omega arith in
    rw next (record {
      passed = four_more k (vector_of c.args.block.now) book (l.turn * 4) l.best l.four _ l.invariant.passed l.invariant.four c.nearer_four-best.ensures;
      four = rw c.requires at c.distances_from-next.ensures;
    })

pub returns : goal.returns
returns g c =
    let t = g.T.Coordinate in
    let k = c.args.self.dim in
    let l = c.loop-turn in
    let book = row_as t.value t.missing k c.args.self.values.now in
    let last : l.turn ≡ c.args.self.count / 4 - 1 = omega arith in
    let next : c.args.self.count / 4 * 4 ≡ l.turn * 4 + 4 = omega arith in
    rw next (four_more k (vector_of c.args.block.now) book (l.turn * 4) l.best l.four _ l.invariant.passed l.invariant.four (rw (← last) at c.nearer_four.ensures))
