-- `lloyd_steps::advance` meets its contract: whatever stood at the start
-- stands at every turn, and the rounds left fall. Assumes nothing.
use Rattle.std.specs.Prelude.{Ok}
use mathlib.Core.Path.{◌∙◌, subst}
use Rattle.lloyd_refine.specs.declared.Pause.{Pause}
use Rattle.lloyd_refine.specs.Pauses.{Pausing}
use Rattle.lloyd_refine.proofs.TurnLaw.{handed_on}
use Rattle.lloyd_steps.proofs.advance.Goals as goal

pub next_round-requires : goal.next_round-requires
next_round-requires c =
    let q = c.requires in
    let l = c.loop-pause in
    record { job = q.job; events = q.events; matches = q.matches; over = subst (λ (x : Pause). Pausing q.job q.events l.work l.ints (Ok x)) c.in-RoundOver.is (l.invariant.2 q.job q.events q.matches q.stands) }

pub returns-in_err-pause-in-RoundOver : goal.returns-in_err-pause-in-RoundOver
returns-in_err-pause-in-RoundOver c =
    let l = c.loop-pause in
    let n = c.in_err-pause-in-RoundOver in
    λ j events same h. rw (handed_on _ _ c.from_residual.ensures.1)
    (n.ensures.stands j events same (subst (λ (x : Pause). Pausing j events l.work l.ints (Ok x)) c.in-RoundOver.is (l.invariant.2 j events same h)))

pub loop-pause-preserved : goal.loop-pause-preserved
loop-pause-preserved c =
    let l = c.loop-pause in
    let n = c.next_round in
    let k = c.in_ok-pause-in-RoundOver in
    (n.auto.work ∙ l.invariant.0, n.auto.ints ∙ l.invariant.1, λ j events same h. k.ensures.stands j events same (subst (λ (x : Pause). Pausing j events l.work l.ints (Ok x)) c.in-RoundOver.is (l.invariant.2 j events same h)))

pub returns-in-At : goal.returns-in-At
returns-in-At c =
    let l = c.loop-pause in
    λ j events same h. subst (λ (x : Pause). Pausing j events l.work l.ints (Ok x)) c.in-At.is (l.invariant.2 j events same h)
