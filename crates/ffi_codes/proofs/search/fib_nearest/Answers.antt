-- `ffi_codes::search::fib_nearest` meets its contract, by the two cases of the answer. Assumes nothing.
use mathlib.Core.Path.{◌≡◌, refl, ap, ◌∙◌}
use mathlib.Core.Bool.{Bool, true, false, cond}
use mir.Val.{bool_byte}
use lib.Ieee.{of_bits}
use Rattle.ffi_crossing.specs.Crossing.{crossed, whole_values, real_values}
use Rattle.ffi_codes.specs.Search.{found_in}
use Rattle.ffi_codes.proofs.search.fib_nearest.Goals as goal

-- a mark as a number
mark : (b : Bool) → bool_byte b ≡ cond b 1 0
mark true = refl
mark false = refl

pub returns-in-Ok : goal.returns-in-Ok
unfolding whole_values real_values of_bits
returns-in-Ok c = c.put.ensures ∙ rw (mark c.in-Ok.marked.tied) (ap (crossed found_in) c.in-Ok.ensures)
