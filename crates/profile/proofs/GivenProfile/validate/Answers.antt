-- `profile::GivenProfile::validate` meets its contract: the checks are the definition's, one after another.
-- Assumes nothing.
use Rattle.error.proofs.Refusals.{also_exit, also_on}
use Rattle.profile.specs.Fields.{profile_schema, rotation_algorithm, ascii}
use Rattle.profile.specs.Checks.{validity}
use Rattle.profile.proofs.GivenProfile.validate.Goals as goal

pub returns-in_err-named : goal.returns-in_err-named
unfolding validity profile_schema rotation_algorithm ascii
returns-in_err-named c = also_exit _ _ _ _ c.from_residual.ensures.1 c.in_err-named.ensures

pub returns-in_err-shape : goal.returns-in_err-shape
unfolding validity profile_schema rotation_algorithm ascii
returns-in_err-shape c = also_on _ _ _ c.in_ok-named.ensures (also_exit _ _ _ _ c.from_residual-in_err-shape.ensures.1 c.in_err-shape.ensures)

pub returns-in_err-sizes : goal.returns-in_err-sizes
unfolding validity profile_schema rotation_algorithm ascii
returns-in_err-sizes c = also_on _ _ _ c.in_ok-named.ensures (also_on _ _ _ c.in_ok-shape.ensures (also_exit _ _ _ _ c.from_residual-in_err-sizes.ensures.1 c.in_err-sizes.ensures))

pub returns-in_err-formats : goal.returns-in_err-formats
unfolding validity profile_schema rotation_algorithm ascii
returns-in_err-formats c = also_on _ _ _ c.in_ok-named.ensures (also_on _ _ _ c.in_ok-shape.ensures (also_on _ _ _ c.in_ok-sizes.ensures (also_exit _ _ _ _ c.from_residual-in_err-formats.ensures.1 c.in_err-formats.ensures)))

pub returns-in_err-named-2 : goal.returns-in_err-named-2
unfolding validity profile_schema rotation_algorithm ascii
returns-in_err-named-2 c = also_on _ _ _ c.in_ok-named.ensures (also_on _ _ _ c.in_ok-shape.ensures (also_on _ _ _ c.in_ok-sizes.ensures (also_on _ _ _ c.in_ok-formats.ensures (also_exit _ _ _ _ c.from_residual-in_err-named-2.ensures.1 c.in_err-named-2.ensures))))

pub returns : goal.returns
unfolding validity profile_schema rotation_algorithm ascii
returns c = also_on _ _ _ c.in_ok-named.ensures (also_on _ _ _ c.in_ok-shape.ensures (also_on _ _ _ c.in_ok-sizes.ensures (also_on _ _ _ c.in_ok-formats.ensures (also_on _ _ _ c.in_ok-named-2.ensures (c.numbers.ensures)))))
