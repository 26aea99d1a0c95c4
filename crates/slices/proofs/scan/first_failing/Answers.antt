-- The place returned fails and all before it pass, or all pass. Assumes nothing.
use Rattle.std.proofs.Common.{◌∙◌, rules, length, slice_index_or, sym, ap}
use Rattle.std.proofs.lemmas.List.{get_or_default}
use Rattle.slices.proofs.FirstLaw.{none_fails, fails_first}
use Rattle.slices.proofs.scan.first_failing.Goals as goal

pub returns-then-not-passes : goal.returns-then-not-passes
returns-then-not-passes g c = λ d.
    let s = c.args.s.now in
    let place = c.loop-place.place in
    let passes = g.C.Test.passes c.args.test in
    let read = get_or_default s place d c.index-s-place.result (search rules) ∙ sym c.index-s-place.is in
    sym (fails_first (λ i. passes (slice_index_or s i d)) (length s) place (search rules) (λ j h. c.loop-place.invariant j d h)
    (ap passes read ∙ sym c.passes.ensures ∙ c.if-not-passes.true))

pub returns : goal.returns
returns g c = λ d.
    let s = c.args.s.now in
    sym (none_fails (λ i. g.C.Test.passes c.args.test (slice_index_or s i d)) (length s) (λ j h. c.loop-place.invariant j d (search rules)))
