-- `norm::is_norm` meets its contract: the pattern says whether its value is finite and above zero. Assumes nothing.
use mathlib.Core.Path.{sym, ◌∙◌}
use borrow.Author.Tests.{lt-ltb, le-ltb}
use Rattle.norm.proofs.NormLaw.{positive_pattern}
use Rattle.norm.proofs.is_norm.Goals as goal

pub returns-then-bits-gt0 : goal.returns-then-bits-gt0
returns-then-bits-gt0 c = let b = c.args.bits in sym (positive_pattern 11 15 b ∙ rw (lt-ltb 0 b c.if-bits-gt0.true))

pub returns-else-bits-gt0 : goal.returns-else-bits-gt0
returns-else-bits-gt0 c = let b = c.args.bits in sym (positive_pattern 11 15 b ∙ rw (le-ltb 0 b c.if-bits-gt0.false))
