-- `ffi_training::fib_refine`: what refine answers and leaves, carried over. Assumes nothing.
use Rattle.std.proofs.Common.{ap, ◌∙◌}
use Rattle.ffi_crossing.specs.Crossing.{crossed}
use Rattle.ffi_training.specs.Training.{errors_in, report_after}
use Rattle.ffi_training.proofs.fib_refine.Goals as goal

pub returns : goal.returns
returns c =
    let u = rw c.profile_from-profile.ensures at c.refine_codebook-answer.ensures in (
      c.put_refined.ensures.real_after ∙ ap (crossed errors_in) u.0,
      c.put_refined.ensures.report_after ∙ ap (λ o. report_after o c.args.report.now) u.0,
      u.1,
      u.2,
      u.3,
      u.4,
    )
