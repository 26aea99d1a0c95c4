-- `lloyd_round::add_samples` meets its contract: the samples passed are added up. Assumes nothing.
use Rattle.std.proofs.Common.{◌≡◌, length, length-append, arith}
use Rattle.lloyd_round.proofs.AddLaw.{addable, next_kept, next_added}
use Rattle.lloyd_round.proofs.add_samples.Goals as goal

pub add_sample-requires : goal.add_sample-requires
add_sample-requires c =
    let a = c.args in
    let l = c.loop-s in
    let r = c.requires.roomy in
    addable r l.s l.work l.counts l.numbers c.loop-s-test.true l.auto.counts (omega (arith, r.integers, length-append a.counts.now a.numbers.now)) l.invariant.0 l.invariant.1

pub loop-s-preserved : goal.loop-s-preserved
loop-s-preserved c =
    let a = c.args in
    let l = c.loop-s in
    let r = c.requires.roomy in
    let j = c.add_sample in
    let places : length l.numbers ≡ length a.counts.now = omega (arith, r.integers, length-append a.counts.now a.numbers.now) in (
      next_kept r l.s l.work l.counts l.numbers c.loop-s-test.true l.auto.counts places l.invariant.0 l.invariant.1 j.new.work j.ensures.work,
      next_added r l.s l.work l.counts l.numbers c.loop-s-test.true l.auto.counts places l.invariant.0 l.invariant.1 j.new.work j.ensures.work j.new.counts j.new.numbers j.ensures.counts j.ensures.numbers,
    )
