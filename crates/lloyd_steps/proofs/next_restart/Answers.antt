-- `lloyd_steps::next_restart` meets its contract: the better codebook is
-- kept, and then comes the next restart or the report. Assumes nothing.
use Rattle.std.specs.Prelude.{Ok}
use mathlib.Core.Path.{subst}
use mathlib.Core.List.{List}
use Prim.Native.Nat.{ℕ, ◌+◌, ◌<◌}
use native.Mathlib.Omega.{arith}
use Rattle.lloyd_events.specs.declared.LloydRepairEvent.{LloydRepairEvent}
use Rattle.lloyd_refine.specs.Refine.{Job, Best, restarts_of, after_restart, trained_from}
use Rattle.lloyd_refine.specs.declared.RefineStep.TheVariants.{Done}
use Rattle.lloyd_refine.specs.declared.Pause.TheVariants.{At}
use Rattle.lloyd_refine.specs.Standing.{Ended}
use Rattle.lloyd_refine.specs.Pauses.{report_in, Pausing}
use Rattle.lloyd_steps.specs.Steps.{AtRound}
use Rattle.lloyd_refine.proofs.CheckLaw.{checks_passed}
use Rattle.lloyd_refine.proofs.EventLaw.{after_events}
use Rattle.lloyd_refine.proofs.TurnLaw.{job_for, is_job}
use Rattle.lloyd_steps.proofs.ReadyLaw.{fits, end_job, end_stands}
use Rattle.lloyd_steps.proofs.RestartLaw.{can_measure, Kept, room, restart_ended, started_at, kept_started, few_events, restart_starts, matrix_lent, refined}
use Rattle.lloyd_steps.proofs.next_restart.Goals as goal

pub keep_better-kept-requires : goal.keep_better-kept-requires
keep_better-kept-requires c =
    let h = end_stands c.requires in
    let m = can_measure (end_job c.requires) h.checked in
    (m.0, m.1, m.2, room h c.requires.last)

pub report-report-requires : goal.report-report-requires
report-report-requires c =
    let h = end_stands c.requires in
    let e = c.keep_better-kept.ensures in
    few_events (restart_ended h c.requires.last _ _ e.state e.work) h.checked

pub returns-then-restart-profile-clause-stands : goal.returns-then-restart-profile-clause-stands
returns-then-restart-profile-clause-stands c =
    let a = c.args in
    let k = c.keep_better-kept in
    λ j b t same h. subst (λ (z : Job). AtRound z b t a.s a.work.now a.ints.now → Pausing z t.events k.new.work a.ints.now (Ok (At (Done c.report-report.result)))) (is_job same)
    (λ g. let z = job_for j a.terms in
    let kept : Kept z (a.s.restart + 1) (after_restart z a.s.restart b t) (started_at (a.s.restart + 1) k.result) k.new.work =
    kept_started (restart_ended g c.requires.last k.result k.new.work k.ensures.state k.ensures.work) in
    rw c.report-report.ensures
    (subst (λ (x : List LloydRepairEvent). Ended z x k.new.work (Ok (report_in a.terms.given.profile (started_at (a.s.restart + 1) k.result)))) (after_events z a.s.restart b t)
    (refined (subst (λ (x : ℕ). Kept z x (after_restart z a.s.restart b t) (started_at (a.s.restart + 1) k.result) k.new.work) c.if-restart-profile.true kept) g.checked))) h

pub start_restart-requires : goal.start_restart-requires
start_restart-requires c =
    let z = end_job c.requires in
    let h = end_stands c.requires in
    let p = checks_passed z h.checked in
    let e = c.keep_better-kept.ensures in
    let k = restart_ended h c.requires.last _ _ e.state e.work in
    let below : c.args.s.restart + 1 < restarts_of z = omega (arith, h.restart_below, c.if-restart-profile.false) in
    (omega arith, matrix_lent k h.checked c.args.ints.now h.integers below (omega arith), p.initial_length, omega (arith, k.floats, p.floats))

pub start_round-requires : goal.start_round-requires
start_round-requires c =
    let z = end_job c.requires in
    let h = end_stands c.requires in
    let e = c.keep_better-kept.ensures in
    let r = c.args.s.restart + 1 in
    let b : Best = after_restart z c.args.s.restart c.requires.b c.requires.t in
    let k : Kept z r b c.keep_better-kept.result c.keep_better-kept.new.work = restart_ended h c.requires.last _ _ e.state e.work in
    let below : c.args.s.restart + 1 < restarts_of z = omega (arith, h.restart_below, c.if-restart-profile.false) in
    record { job = z; b = b; t = trained_from z r b; matches = (fits z c.args.terms).round; standing = restart_starts k h.checked c.args.ints.now h.integers below (omega arith) c.start_restart.new.work c.start_restart.ensures; below = omega (arith, (checks_passed z h.checked).valid.settings.iterations_least) }

pub returns-clause-stands : goal.returns-clause-stands
returns-clause-stands c =
    let a = c.args in
    let k = c.keep_better-kept in
    let n = c.start_round in
    λ j b t same h. subst (λ (z : Job). AtRound z b t a.s a.work.now a.ints.now → Pausing z t.events n.new.work n.new.ints n.result) (is_job same)
    (λ g. let z = job_for j a.terms in
    let r = a.s.restart + 1 in
    let best : Best = after_restart z a.s.restart b t in
    let kept : Kept z r best k.result k.new.work = restart_ended g c.requires.last k.result k.new.work k.ensures.state k.ensures.work in
    let below : a.s.restart + 1 < restarts_of z = omega (arith, g.restart_below, c.if-restart-profile.false) in
    subst (λ (x : List LloydRepairEvent). Pausing z x n.new.work n.new.ints n.result) (after_events z a.s.restart b t)
    (n.ensures.stands z best (trained_from z r best) (fits z a.terms).round (restart_starts kept g.checked a.ints.now g.integers below (omega arith) c.start_restart.new.work c.start_restart.ensures))) h
