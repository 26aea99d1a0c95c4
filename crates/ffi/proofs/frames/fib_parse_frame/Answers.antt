-- `ffi::frames::fib_parse_frame` meets its contract, by the two cases of the answer. Assumes nothing.
use mathlib.Core.Path.{ap, ◌∙◌}
use lib.Ieee.{of_bits}
use Rattle.ffi_crossing.specs.Crossing.{crossed, none, whole_values, real_values}
use Rattle.ffi.specs.Frames.{lengths_in}
use Rattle.ffi_crossing.proofs.CrossingLaws.{same_refusal}
use Rattle.ffi.proofs.frames.fib_parse_frame.Goals as goal

pub returns-in-Ok : goal.returns-in-Ok
unfolding whole_values real_values of_bits
returns-in-Ok c = c.put.ensures ∙ rw (c.norm_part-norm.ensures, c.index_part-indices.ensures) (ap (crossed lengths_in) c.in-Ok.ensures.result_value)

pub returns-in-Err : goal.returns-in-Err
returns-in-Err c = c.put_refusal.ensures ∙ same_refusal none lengths_in c.in-Err.refusal ∙ ap (crossed lengths_in) c.in-Err.ensures.result_value
