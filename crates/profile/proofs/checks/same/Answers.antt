-- `profile::checks::same` meets its contract: the comparison of slices is the definition's. Assumes nothing.
use Rattle.std.proofs.Common.{◌∙◌, sym}
use Rattle.profile.proofs.Bytes.{same_pointwise}
use Rattle.profile.proofs.checks.same.Goals as goal

pub returns : goal.returns
returns c = c.eq.ensures ∙ sym (same_pointwise c.args.a.now c.args.b.now)
