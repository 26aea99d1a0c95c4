-- `lloyd_refine::repair_on` meets its contract: a turn of the
-- repairs says where it leaves the refinement. Assumes nothing.
use Rattle.std.specs.Prelude.{Ok, Err}
use mathlib.Core.Path.{sym, subst}
use mathlib.Core.List.{◌++◌}
use Rattle.lloyd_cells.specs.declared.Places.{Places}
use Rattle.lloyd_cells.specs.Work.{Kept}
use Rattle.lloyd_refine.specs.Refine.{Job}
use Rattle.lloyd_refine.specs.Standing.{InRound}
use Rattle.lloyd_refine.specs.Pauses.{Pausing}
use Rattle.lloyd_refine.proofs.TurnLaw.{is_round, handed_on, few_made, room_before, small_of, to_turn, of_turn, turned, turn_refused}
use Rattle.lloyd_refine.proofs.repair_on.Goals as goal

pub overflow_sub-repairs : goal.overflow_sub-repairs
overflow_sub-repairs c = room_before c.requires

pub places-requires : goal.places-requires
places-requires c = small_of c.requires

pub returns-in_err-turn-clause-stands : goal.returns-in_err-turn-clause-stands
returns-in_err-turn-clause-stands c =
    let a = c.args in
    let n = c.repair_next in
    let p = c.places.result in
    let e = c.places.ensures in
    let k = c.in_err-turn.ensures in
    λ j b t u same h. subst (λ (z : Job). InRound z b t u a.s a.work.now a.ints.now → Pausing z (t.events ++ u.events) n.new.work n.new.ints c.from_residual.result) (is_round same)
    (λ g. rw (handed_on _ _ c.from_residual.ensures.1) (turn_refused g n.new.work n.new.ints (subst (λ (z : Places). Kept z a.terms.given.profile.codebook_size a.terms.given.profile.block_dim a.work.now n.new.work) e k.kept) n.auto.ints _
    (of_turn g p e n.new.work n.new.ints (Err _) (k.turned _ _ u (sym g.made) (to_turn g p e))))) h

pub paused-requires : goal.paused-requires
paused-requires c = few_made c.requires.standing

pub returns-clause-stands : goal.returns-clause-stands
returns-clause-stands c =
    let a = c.args in
    let n = c.repair_next in
    let p = c.places.result in
    let e = c.places.ensures in
    let k = c.in_ok-turn.ensures in
    λ j b t u same h. subst (λ (z : Job). InRound z b t u a.s a.work.now a.ints.now → Pausing z (t.events ++ u.events) n.new.work n.new.ints (Ok c.paused.result)) (is_round same)
    (λ g. rw c.paused.ensures (turned g n.new.work n.new.ints (subst (λ (z : Places). Kept z a.terms.given.profile.codebook_size a.terms.given.profile.block_dim a.work.now n.new.work) e k.kept) n.auto.ints c.in_ok-turn.turn
    (of_turn g p e n.new.work n.new.ints (Ok c.in_ok-turn.turn) (k.turned _ _ u (sym g.made) (to_turn g p e))))) h
