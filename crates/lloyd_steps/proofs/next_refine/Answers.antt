-- `lloyd_steps::next_refine` meets its contract: the repairs go on after
-- the one that was made, and the rounds after them. Assumes nothing.
use mathlib.Core.Path.{subst}
use mathlib.Core.List.{List, ◌++◌}
use Rattle.lloyd_events.specs.declared.LloydRepairEvent.{LloydRepairEvent}
use Rattle.lloyd_refine.specs.Standing.{RefineProgress}
use Rattle.lloyd_steps.proofs.next_refine.Goals as goal

pub advance-requires : goal.advance-requires
advance-requires c =
    let q = c.requires in
    let g = q.going in
    record { job = q.job; events = g.t.events ++ g.u.events; matches = q.matches; stands = c.in_ok-p.ensures.stands q.job g.b g.t g.u q.matches.round g.standing }

pub returns : goal.returns
returns c =
    let n = c.advance in
    λ j events same h. subst (λ (z : List LloydRepairEvent). RefineProgress j z n.new.work n.new.ints n.result) h.last
    (n.ensures j (h.t.events ++ h.u.events) same (c.in_ok-p.ensures.stands j h.b h.t h.u same.round h.standing))
