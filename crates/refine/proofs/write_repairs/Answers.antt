-- `refine::write_repairs`: a turn writes one event more, and the end is by the last step. Assumes nothing.
use Rattle.std.proofs.Common.{ℕ, ◌+◌, ◌<◌, Ok, List, [], ◌∷◌, ◌++◌, length, set, sym, ap, ◌∙◌, subst}
use Rattle.lloyd_events.specs.declared.LloydRepairEvent.{LloydRepairEvent}
use Rattle.lloyd_events.proofs.Log.{logged, log_more, length_more}
use Rattle.lloyd_refine.specs.declared.RefineStep.{RefineStep}
use Rattle.lloyd_refine.specs.Standing.{RefineProgress}
use Rattle.refine.proofs.write_repairs.Goals as goal

pub loop-step-preserved : goal.loop-step-preserved
loop-step-preserved c = λ j same k f i.
    let l = c.loop-step in
    let t = l.invariant j same k f i in
    let e = c.in-Made.repair.event in
    let slots = c.args.events.now in
    let going = subst (λ (x : RefineStep). RefineProgress j t.events l.work l.ints (Ok x)) c.in-Made.is t.progress in
    record {
      events = t.events ++ (e ∷ []);
      progress = c.in_ok-step-in-Made.ensures j t.events same going;
      is_used = ap (λ (k : ℕ). k + 1) t.is_used ∙ sym (length_more t.events e);
      is_log = c.put_event.ensures ∙ ap (λ (z : List LloydRepairEvent). set z l.used e) t.is_log ∙ ap (λ (k : ℕ). set (logged t.events slots) k e) t.is_used
          ∙ log_more t.events slots e (subst (λ (k : ℕ). length t.events < k) (same.round.slots ∙ sym c.requires.slots) going.room);
    }

pub returns-in-Done : goal.returns-in-Done
returns-in-Done c = λ j same k f i.
    let l = c.loop-step in
    let t = l.invariant j same k f i in
    let last = subst (λ (x : RefineStep). RefineProgress j t.events l.work l.ints (Ok x)) c.in-Done.is t.progress in
    (last.answers, λ b r. let d = last.done b r in (t.is_log ∙ ap (λ (z : List LloydRepairEvent). logged z c.args.events.now) d.0, d.1))
