-- `profile::checks::is_small` meets its contract: a magnitude is within
-- a bound where the value is within it either way. Assumes nothing.
use lib.Ieee.{of_bits, round, neg}
use Rattle.profile.proofs.Rate.{abs_le}
use Rattle.profile.proofs.checks.is_small.Goals as goal

pub returns-then-difference : goal.returns-then-difference
unfolding of_bits round neg
returns-then-difference c = rw (abs_le c.args.difference, c.if-difference.true)

pub returns-else-difference : goal.returns-else-difference
unfolding of_bits round neg
returns-else-difference c = rw (abs_le c.args.difference, c.if-difference.false)
