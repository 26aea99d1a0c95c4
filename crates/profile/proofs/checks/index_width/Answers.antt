-- `profile::checks::index_width` meets its contract: 64 less the leading zeros of n - 1 is its number of digits.
-- Assumes nothing.
use Rattle.profile.proofs.Width.{leading_width, small_width}
use Rattle.profile.proofs.checks.index_width.Goals as goal

pub returns-then-n-lt2 : goal.returns-then-n-lt2
returns-then-n-lt2 c = small_width c.args.n c.if-n-lt2.true

pub returns : goal.returns
returns c = leading_width c.args.n c.if-n-lt2.false c.ranges.n.fits
