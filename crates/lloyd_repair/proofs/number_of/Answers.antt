-- `lloyd_repair::number_of` meets its contract: a whole number held as a float comes back as it was. Assumes nothing.
use Rattle.std.proofs.Common.{◌∙◌, subst}
use Rattle.lloyd_repair.specs.declared.Numbers.{Numbers}
use Rattle.lloyd_repair.specs.Running.{NumberAt}
use Rattle.lloyd_repair.proofs.NumberLaw.{number_above, number_below, number_back}
use Rattle.lloyd_repair.proofs.number_of.Goals as goal

pub truncating_f64_to_u64-requires : goal.truncating_f64_to_u64-requires
truncating_f64_to_u64-requires c =
    let a = c.args in
    let s = c.requires.number in
    let h = subst (λ (m : Numbers). NumberAt m a.work.now a.ints.now a.cell s) c.in-InFloats.is c.requires.is in
    record { lower_bound = number_above _ s h.0 h.1; upper_bound = number_below _ s h.0 h.1 }

pub returns-in-InFloats : goal.returns-in-InFloats
returns-in-InFloats c = λ s g.
    let a = c.args in
    let h = subst (λ (m : Numbers). NumberAt m a.work.now a.ints.now a.cell s) c.in-InFloats.is g in
    c.truncating_f64_to_u64.ensures ∙ number_back _ s h.0 h.1
