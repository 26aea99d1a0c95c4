use Rattle.std.proofs.Common.{◌≡◌, ℕ, List, get_or}
use lib.Ieee.{Float, nan}
use Rattle.slices.specs.Lists.{patched}
use Rattle.lloyd_update.proofs.copy_words.Given as goal

abbrev pub value_at : List Float → ℕ → Float
value_at work j = get_or work j nan

abbrev pub invariant-loop-i : goal.invariant-loop-i
invariant-loop-i l = l.codebook ≡ patched l.fn.codebook 0 l.i (value_at l.work)
