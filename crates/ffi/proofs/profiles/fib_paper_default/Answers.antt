-- `ffi::profiles::fib_paper_default` meets its contract, by the two cases of the answer. Assumes nothing.
use mathlib.Core.Path.{sym, ap, ◌∙◌}
use mathlib.Core.List.{List}
use Prim.Native.Nat.{ℕ}
use lib.Ieee.{of_bits}
use Rattle.error.specs.Numbers.{Outcome}
use Rattle.profile.specs.declared.FibQuantProfile.{FibQuantProfile}
use Rattle.ffi_crossing.specs.Crossing.{crossed, none, whole_values, real_values}
use Rattle.ffi_profile.specs.Profiles.{rates_in, fields_after}
use Rattle.ffi_crossing.proofs.CrossingLaws.{same_refusal}
use Rattle.ffi_profile.proofs.ProfileLaws.{fields_kept}
use Rattle.ffi.proofs.profiles.fib_paper_default.Goals as goal

abbrev after : List ℕ → Outcome FibQuantProfile → List ℕ
after old o = fields_after o old

pub returns-in-Ok : goal.returns-in-Ok
unfolding whole_values real_values of_bits
returns-in-Ok c =
    let e = c.in-Ok.ensures in
    (c.put.ensures ∙ ap (crossed rates_in) e, c.fields_of.ensures ∙ ap (after c.args.fields.now) e)

pub returns-in-Err : goal.returns-in-Err
returns-in-Err c =
    let e = c.in-Err.ensures in
    (c.put_refusal.ensures ∙ same_refusal none rates_in c.in-Err.refusal ∙ ap (crossed rates_in) e, sym (fields_kept c.in-Err.refusal c.args.fields.now) ∙ ap (after c.args.fields.now) e)
