-- `lloyd_steps::start_refine` meets its contract: the initial codebook
-- stands twice in the work, and the first round begins. Assumes nothing.
use mathlib.Core.Path.{◌≡◌, ap, subst}
use mathlib.Core.List.{[]}
use native.Mathlib.Omega.{arith}
use lib.ListN.{length}
use Rattle.error.specs.Numbers.{completed}
use Rattle.lloyd_refine.specs.declared.RefineState.{RefineState}
use Rattle.lloyd_refine.specs.Refine.{Job, refine_checks, trained_from, start_best}
use Rattle.lloyd_refine.specs.Standing.{RefineProgress}
use Rattle.lloyd_refine.proofs.TurnLaw.{job_for, is_job, handed_on}
use Rattle.lloyd_steps.proofs.ReadyLaw.{fits, first_job, first_checked, first_passed}
use Rattle.lloyd_steps.proofs.RestartLaw.{can_measure}
use Rattle.lloyd_steps.proofs.BeginLaw.{begins}
use Rattle.lloyd_steps.proofs.start_refine.Goals as goal

pub copy_in-requires : goal.copy_in-requires
copy_in-requires c = let p = first_passed c.requires in omega (arith, p.initial_length, p.floats, c.requires.float_work)

pub copy_in-requires-2 : goal.copy_in-requires-2
copy_in-requires-2 c = let p = first_passed c.requires in omega (arith, p.initial_length, p.floats, c.requires.float_work, c.copy_in.auto.work)

pub invariant_of-codewords-clause-shape : goal.invariant_of-codewords-clause-shape
invariant_of-codewords-clause-shape c = (first_passed c.requires).initial_length

pub mean_error-error-requires : goal.mean_error-error-requires
mean_error-error-requires c = can_measure (first_job c.requires) (first_checked c.requires)

pub start_round-requires : goal.start_round-requires
start_round-requires c =
    let q = c.requires in
    let z = first_job q in
    let m = c.mean_error-error in
    record {
      job = z;
      b = start_best z;
      t = trained_from z 0 (start_best z);
      matches = (fits z c.args.terms).round;
      standing = rw c.first_state-state.ensures (begins z (first_checked q) c.args.work.now c.copy_in.new.work c.copy_in-2.new.work q.float_work c.copy_in.ensures c.copy_in-2.ensures m.result m.ensures c.args.ints.now q.integer_work);
      below = omega (arith, ap (λ (x : RefineState). x.iteration) c.first_state-state.ensures, (first_passed q).valid.settings.iterations_least);
    }

pub returns-in_err-p : goal.returns-in_err-p
returns-in_err-p c =
    let a = c.args in
    let n = c.start_round.new in
    let m = c.mean_error-error in
    λ j same. subst (λ (z : Job). refine_checks z ≡ completed tt → length a.work.now ≡ z.float_work → length a.ints.now ≡ z.integer_work → RefineProgress z [] n.work n.ints c.from_residual.result) (is_job same)
    (λ k f i. let z = job_for j a.terms in
    rw (handed_on _ _ c.from_residual.ensures.1) (c.in_err-p.ensures.stands z (start_best z) (trained_from z 0 (start_best z)) (fits z a.terms).round
    (rw c.first_state-state.ensures (begins z k a.work.now c.copy_in.new.work c.copy_in-2.new.work f c.copy_in.ensures c.copy_in-2.ensures m.result m.ensures a.ints.now i))))

pub advance-requires : goal.advance-requires
advance-requires c =
    let q = c.requires in
    let z = first_job q in
    let m = c.mean_error-error in
    record {
      job = z;
      events = [];
      matches = fits z c.args.terms;
      stands = c.in_ok-p.ensures.stands z (start_best z) (trained_from z 0 (start_best z)) (fits z c.args.terms).round
          (rw c.first_state-state.ensures (begins z (first_checked q) c.args.work.now c.copy_in.new.work c.copy_in-2.new.work q.float_work c.copy_in.ensures c.copy_in-2.ensures m.result m.ensures c.args.ints.now q.integer_work));
    }

pub returns : goal.returns
returns c =
    let a = c.args in
    let n = c.advance in
    let m = c.mean_error-error in
    λ j same. subst (λ (z : Job). refine_checks z ≡ completed tt → length a.work.now ≡ z.float_work → length a.ints.now ≡ z.integer_work → RefineProgress z [] n.new.work n.new.ints n.result) (is_job same)
    (λ k f i. let z = job_for j a.terms in
    n.ensures z [] (fits z a.terms) (c.in_ok-p.ensures.stands z (start_best z) (trained_from z 0 (start_best z)) (fits z a.terms).round
    (rw c.first_state-state.ensures (begins z k a.work.now c.copy_in.new.work c.copy_in-2.new.work f c.copy_in.ensures c.copy_in-2.ensures m.result m.ensures a.ints.now i))))
