-- `update::update_centroids`: a turn writes one event more, and the end is by the last step. Assumes nothing.
use Rattle.std.proofs.Common.{is_ok, ◌≡◌, ℕ, ◌+◌, cond, List, [], ◌∷◌, ◌++◌, length, set, replicate, refl, sym, ap, ◌∙◌, subst, arith}
use Rattle.error.specs.Numbers.{outcome}
use Rattle.ieee.specs.Sum.{plus_zero}
use Rattle.lloyd_events.specs.declared.LloydRepairEvent.{LloydRepairEvent}
use Rattle.lloyd_events.specs.Events.{zero_event}
use Rattle.lloyd_events.proofs.Log.{logged, log_more, length_more}
use Rattle.lloyd_update.specs.Alone.{Call}
use Rattle.lloyd_update.specs.Progress.{call_of, UpdateProgress}
use Rattle.lloyd_update.proofs.BeginLaw.{has_begun}
use Rattle.update.proofs.EndLaw.{zeroed, kept, long_enough, codebook_is, work_is, slots_are}
use Rattle.update.proofs.update_centroids.Goals as goal
use Rattle.update.proofs.update_centroids.Goals.{then-is_err, else-is_err}

pub loop-s-preserved : goal.loop-s-preserved
loop-s-preserved c =
    let a = c.args in
    let t = c.loop-s.invariant in
    let e = c.in-Made.repair.event in
    let slots = a.events.now in
    let call : Call = call_of a.t a.codebook.now (length a.work.now) (length a.counts.now) (length slots) in
    let going = subst (UpdateProgress call t.events c.loop-s.work c.loop-s.counts) c.in-Made.is t.progress in
    let one_more : c.loop-s.used + 1 ≡ length (t.events ++ (e ∷ [])) = ap (λ (k : ℕ). k + 1) t.is_used ∙ sym (length_more t.events e) in
    let goes_on = c.next_repair-s.ensures call t.events (record { size = refl; dim = refl; restart = refl; iteration = refl; samples = refl; slots = refl }) one_more going in
    record {
      events = t.events ++ (e ∷ []);
      progress = goes_on;
      early = λ x q. absurd (has_begun call (t.events ++ (e ∷ [])) c.next_repair-s.new.work c.next_repair-s.new.counts c.next_repair-s.result goes_on going.under.checked x q);
      is_used = one_more;
      is_log = c.put_event.ensures ∙ ap (λ (l : List LloydRepairEvent). set l c.loop-s.used e) t.is_log ∙ ap (λ (k : ℕ). set (logged t.events slots) k e) t.is_used
          ∙ log_more t.events slots e going.room;
    }

pub finish_update-requires : goal.finish_update-requires
finish_update-requires c = λ h.
    let a = c.args in
    let t = c.loop-s.invariant in
    let call : Call = call_of a.t a.codebook.now (length a.work.now) (length a.counts.now) (length a.events.now) in
    let last = subst (UpdateProgress call t.events c.loop-s.work c.loop-s.counts) c.in-Stopped.is t.progress in
    let long = long_enough call t.events c.loop-s.work c.loop-s.counts c.in-Stopped.answer last (c.loop-s.auto.work ∙ c.begin-s.auto.work) in
    omega arith

pub returns : goal.returns
returns c =
    let a = c.args in
    let t = c.loop-s.invariant in
    let slots = a.events.now in
    let call : Call = call_of a.t a.codebook.now (length a.work.now) (length a.counts.now) (length slots) in
    let x = c.in-Stopped.answer in
    let last = subst (UpdateProgress call t.events c.loop-s.work c.loop-s.counts) c.in-Stopped.is t.progress in
    let zeros = replicate (length slots) zero_event in
    let log : c.if-is_err.events ≡ cond (is_ok x) (logged t.events slots) zeros =
    elim c.if-is_err.branch [
      | then-is_err w ↦
          w.events-is ∙ w.zero_events.ensures ∙ ap (λ (k : ℕ). replicate k zero_event) c.loop-s.auto.events ∙ zeroed x (logged t.events slots) zeros (sym c.is_err.ensures.value ∙ w.if-is_err.true)
      | else-is_err w ↦ w.events-is ∙ t.is_log ∙ kept x (logged t.events slots) zeros (sym c.is_err.ensures.value ∙ w.if-is_err.false)
    ] in
    let end = c.finish_update.ensures in (
      ap outcome end.answer ∙ last.answers,
      (rw c.begin-s.ensures.codebook at end.codebook) ∙ codebook_is call t.events c.loop-s.work c.loop-s.counts x last,
      end.work ∙ work_is call t.events c.loop-s.work c.loop-s.counts x last plus_zero a.work.now (length c.loop-s.work) (c.loop-s.auto.work ∙ c.begin-s.auto.work),
      end.counts ∙ work_is call t.events c.loop-s.work c.loop-s.counts x last 0 a.counts.now (length c.loop-s.counts) (c.loop-s.auto.counts ∙ c.begin-s.auto.counts),
      log ∙ slots_are call t.events c.loop-s.work c.loop-s.counts x last slots,
    )
