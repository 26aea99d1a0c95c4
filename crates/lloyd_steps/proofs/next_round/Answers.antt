-- `lloyd_steps::next_round` meets its contract: the words of the round are the next codebook, and the rounds left fall.
-- Assumes nothing.
use mathlib.Core.Path.{subst}
use mathlib.Core.List.{List}
use native.Mathlib.Omega.{arith}
use Rattle.lloyd_events.specs.declared.LloydRepairEvent.{LloydRepairEvent}
use Rattle.lloyd_refine.specs.Refine.{Job, after_round}
use Rattle.lloyd_refine.specs.Pauses.{Over, Pausing}
use Rattle.lloyd_refine.proofs.TurnLaw.{job_for, is_job, few_before, few_made}
use Rattle.lloyd_steps.proofs.ReadyLaw.{fits, over_job, over_stands}
use Rattle.lloyd_steps.proofs.RoundLaw.{round_ended}
use Rattle.lloyd_steps.proofs.next_round.Goals as goal

pub overflow_add-t : goal.overflow_add-t
overflow_add-t c = let o = (over_stands c.requires).standing in record { fits = omega (arith, few_before o, few_made o) }

pub start_round-requires : goal.start_round-requires
start_round-requires c =
    let z = over_job c.requires in
    let h = over_stands c.requires in
    record { job = z; b = h.b; t = after_round z h.t h.u; matches = (fits z c.args.terms).round; standing = round_ended h.standing h.all c.copy_part.new.work c.copy_part.ensures; below = c.if-round-profile.true }

pub returns-then-round-profile-clause-stands : goal.returns-then-round-profile-clause-stands
returns-then-round-profile-clause-stands c =
    let a = c.args in
    let n = c.start_round in
    λ j events same h. subst (λ (z : Job). Over z events a.work.now a.ints.now a.s → Pausing z events n.new.work n.new.ints n.result) (is_job same)
    (λ g. let z = job_for j a.terms in
    subst (λ (x : List LloydRepairEvent). Pausing z x n.new.work n.new.ints n.result) g.so_far
    (n.ensures.stands z g.b (after_round z g.t g.u) (fits z a.terms).round (round_ended g.standing g.all c.copy_part.new.work c.copy_part.ensures))) h

pub next_restart-requires : goal.next_restart-requires
next_restart-requires c =
    let z = over_job c.requires in
    let h = over_stands c.requires in
    record { job = z; b = h.b; t = after_round z h.t h.u; matches = fits z c.args.terms; standing = round_ended h.standing h.all c.copy_part.new.work c.copy_part.ensures; last = omega (arith, c.if-round-profile.false, h.standing.round_below) }

pub returns-clause-stands : goal.returns-clause-stands
returns-clause-stands c =
    let a = c.args in
    let n = c.next_restart in
    λ j events same h. subst (λ (z : Job). Over z events a.work.now a.ints.now a.s → Pausing z events n.new.work n.new.ints n.result) (is_job same)
    (λ g. let z = job_for j a.terms in
    subst (λ (x : List LloydRepairEvent). Pausing z x n.new.work n.new.ints n.result) g.so_far
    (n.ensures.stands z g.b (after_round z g.t g.u) (fits z a.terms) (round_ended g.standing g.all c.copy_part.new.work c.copy_part.ensures))) h
