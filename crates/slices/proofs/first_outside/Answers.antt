use lib.Ieee.{nan}
use Rattle.slices.proofs.first_outside.Goals as goal

pub returns : goal.returns
returns c = c.first_failing.ensures nan
