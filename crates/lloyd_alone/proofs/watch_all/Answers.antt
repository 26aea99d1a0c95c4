-- `lloyd_alone::watch_all` meets its contract: before a turn the codewords before
-- its four are passed, and what is at hand was given for that four. Assumes nothing.
use Rattle.std.proofs.Common.{◌≡◌, ◌+◌, ◌-◌, ◌*◌, ◌/◌, arith}
use lib.Ieee.{of_bits}
use Rattle.lloyd_alone.proofs.WatchLaw.{none_watched, four_watched}
use Rattle.lloyd_alone.proofs.watch_all.Goals as goal

pub returns-then-fours-eq0 : goal.returns-then-fours-eq0
unfolding of_bits
returns-then-fours-eq0 g c k book x m = rw c.if-fours-eq0.true (none_watched k book x)

pub loop-turn-init : goal.loop-turn-init
unfolding of_bits
loop-turn-init g c = record { passed = λ k book x m. none_watched k book x; given = c.four-at_hand.ensures }

pub loop-turn-preserved : goal.loop-turn-preserved
loop-turn-preserved g c =
    let l = c.loop-turn in
    let next : (l.turn + 1) * 4 ≡ l.turn * 4 + 4 = omega arith in
    record {
      passed = λ k book x m. four_watched k book x l.turn l.at_hand l.before c.watch-before.result (m (l.turn * 4) l.at_hand (omega arith) l.invariant.given) (l.invariant.passed k book x m) c.watch-before.ensures;
      given = rw next c.four-next.ensures;
    }

pub returns : goal.returns
returns g c k book x m =
    let l = c.loop-turn in
    let last : l.turn ≡ c.args.count / 4 - 1 = omega arith in
    let all : c.args.count / 4 ≡ l.turn + 1 = omega arith in
    rw all (four_watched k book x l.turn l.at_hand l.before c.watch.result (m (l.turn * 4) l.at_hand (omega arith) l.invariant.given) (l.invariant.passed k book x m) (rw (← last) at c.watch.ensures))
