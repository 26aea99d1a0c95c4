-- `ffi_training::fib_validate_report` meets its contract: the verdict on the report crosses. Assumes nothing.
use mathlib.Core.Path.{ap, ◌∙◌}
use Rattle.ffi_crossing.specs.Crossing.{crossed, none}
use Rattle.ffi_training.proofs.fib_validate_report.Goals as goal

pub returns : goal.returns
returns c =
    let v = c in
    c.put_answer.ensures ∙ ap (crossed none) (rw (v.profile_from-profile.ensures, v.winner_from.ensures) at v.validate_against_profile-verdict.ensures)
