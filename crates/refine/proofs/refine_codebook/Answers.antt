-- `refine::refine_codebook`: the end is by the answer. Assumes nothing.
use Rattle.std.proofs.Common.{◌≡◌, length, refl, sym, ap, ◌∙◌}
use Rattle.ieee.specs.Sum.{plus_zero}
use Rattle.error.specs.Numbers.{completed, outcome}
use Rattle.lloyd_refine.specs.Refine.{Job, refine_checks}
use Rattle.lloyd_refine.specs.Standing.{job_of}
use Rattle.lloyd_steps.proofs.ReadyLaw.{fits}
use Rattle.refine.proofs.EndLaw.{long_enough, codewords_are, work_is, slots_are}
use Rattle.refine.proofs.refine_codebook.Goals as goal

pub finish_refine-requires : goal.finish_refine-requires
finish_refine-requires c = λ h.
    let a = c.args in
    let n = c.write_repairs-answer in
    let j : Job = job_of a.given.profile a.given.schema.now a.given.rotation_algorithm.now a.given.log2 a.initial.now a.samples.now a.matrices.now (length a.codewords.now) (length a.work.now) (length a.ints.now) (length a.events.now) in
    let checked : refine_checks j ≡ completed tt = sym c.in_ok-check_refine.ensures in
    long_enough j checked n.new.work n.new.events a.events.now n.result (n.ensures j (fits j _) checked refl refl) a.codewords.now refl n.auto.work

pub returns : goal.returns
returns c =
    let a = c.args in
    let n = c.write_repairs-answer in
    let j : Job = job_of a.given.profile a.given.schema.now a.given.rotation_algorithm.now a.given.log2 a.initial.now a.samples.now a.matrices.now (length a.codewords.now) (length a.work.now) (length a.ints.now) (length a.events.now) in
    let checked : refine_checks j ≡ completed tt = sym c.in_ok-check_refine.ensures in
    let e = n.ensures j (fits j _) checked refl refl in
    let end = c.finish_refine.ensures in (
      ap outcome end.answer ∙ e.0,
      end.codewords ∙ codewords_are j checked n.new.work n.new.events a.events.now n.result e a.codewords.now refl,
      end.work ∙ work_is j checked n.new.work n.new.events a.events.now n.result e plus_zero a.work.now (length n.new.work) n.auto.work,
      end.ints ∙ work_is j checked n.new.work n.new.events a.events.now n.result e 0 a.ints.now (length n.new.ints) n.auto.ints,
      c.finish_events.ensures ∙ slots_are j checked n.new.work n.new.events a.events.now n.result e (length n.new.events) n.auto.events,
    )
