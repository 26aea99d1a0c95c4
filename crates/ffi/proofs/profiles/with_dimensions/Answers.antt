-- `ffi::profiles::with_dimensions` meets its contract: the fields are those of the profile that is made. Assumes nothing.
use mathlib.Core.Path.{ap}
use Rattle.profile.specs.declared.FibQuantProfile.{FibQuantProfile}
use Rattle.ffi.proofs.profiles.with_dimensions.Goals as goal

pub returns : goal.returns
returns c = (ap (λ (p : FibQuantProfile). p.ambient_dim) c.profile_from.ensures, ap (λ (p : FibQuantProfile). p.block_dim) c.profile_from.ensures)
