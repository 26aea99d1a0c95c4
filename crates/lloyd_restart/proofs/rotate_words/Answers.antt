-- `lloyd_restart::rotate_words` meets its contract: the codewords passed
-- are rotated, and the rest of the work is as it was. Assumes nothing.
use Rattle.std.proofs.Common.{refl, arith}
use native.Mathlib.Nat.{zero-mul}
use Rattle.slices.specs.Lists.{patched}
use Rattle.lloyd_restart.proofs.PartLaw.{one_rotated, word_inside}
use Rattle.lloyd_restart.proofs.rotate_words.Goals as goal

pub loop-c-init : goal.loop-c-init
unfolding patched
loop-c-init c = rw (zero-mul c.args.k) refl

pub loop-c-preserved : goal.loop-c-preserved
loop-c-preserved c =
    let a = c.args in
    let i = c.loop-c.c in
    let inside = word_inside i a.n a.k c.loop-c-test.true in
    one_rotated a.k i a.matrix.now a.initial.now a.work.now c.loop-c.work _ (omega (arith, inside, c.requires.1)) (omega (arith, inside, c.requires.2)) c.loop-c.invariant c.rotate.ensures
