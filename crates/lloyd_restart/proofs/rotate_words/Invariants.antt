use Rattle.std.proofs.Common.{◌≡◌, ◌*◌}
use Rattle.slices.specs.Lists.{patched}
use Rattle.lloyd_restart.proofs.PartLaw.{word_at}
use Rattle.lloyd_restart.proofs.rotate_words.Given as goal

abbrev pub invariant-loop-c : goal.invariant-loop-c
invariant-loop-c l = l.work ≡ patched l.fn.work 0 (l.c * l.k) (word_at l.k l.matrix l.initial')
