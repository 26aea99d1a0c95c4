-- `lloyd_update::begin_update` meets its contract: the checks, the means, and the repairs up to the first that is made.
-- Assumes nothing.
use Rattle.std.proofs.Common.{◌≡◌, [], length, sym, refl, ap, ◌∙◌, arith}
use Rattle.error.specs.declared.Refusal.TheVariants.{EmptyCells}
use Rattle.error.specs.Numbers.{completed, outcome}
use Rattle.lloyd_cells.specs.Repair.{repair_to}
use Rattle.lloyd_update.specs.Alone.{terms_of, update_checks, update_of}
use Rattle.lloyd_update.specs.Progress.{call_of, start_cells, far_of}
use Rattle.lloyd_update.proofs.CheckLaw.{checks_passed}
use Rattle.lloyd_update.proofs.AddLaw.{places_small}
use Rattle.lloyd_update.proofs.BeginLaw.{can_add, can_divide, begun, empties, unrepaired, split_repairs, closed_repairs, closed_refuses, has_begun}
use Rattle.lloyd_update.proofs.RepairsLaw.{not_repaired}
use Rattle.lloyd_update.proofs.begin_update.Goals as goal
use Rattle.lloyd_update.proofs.begin_update.Goals.{in-FailClosed+else-empty-gt0, in_default-policy}

pub places-p-requires : goal.places-p-requires
places-p-requires c =
    let a = c.args in
    let call = call_of a.t a.codebook.now (length a.work.now) (length a.counts.now) a.slots in
    let accepted : update_checks call ≡ completed tt = sym c.check_update.ensures ∙ ap outcome c.in_default.is in
    let passed = checks_passed call accepted in
    let b = passed.book in
    places_small call.size call.dim b.codewords_upto b.coordinates_upto

pub clear-requires : goal.clear-requires
clear-requires c =
    let a = c.args in
    let call = call_of a.t a.codebook.now (length a.work.now) (length a.counts.now) a.slots in
    let accepted : update_checks call ≡ completed tt = sym c.check_update.ensures ∙ ap outcome c.in_default.is in
    let passed = checks_passed call accepted in
    rw c.places-p.ensures (omega arith, omega (arith, passed.floats, passed.integers))

pub add_samples-requires : goal.add_samples-requires
add_samples-requires c =
    let a = c.args in
    let call = call_of a.t a.codebook.now (length a.work.now) (length a.counts.now) a.slots in
    let accepted : update_checks call ≡ completed tt = sym c.check_update.ensures ∙ ap outcome c.in_default.is in
    let passed = checks_passed call accepted in
    let p = c.places-p in
    let v = c.clear in
    can_add call passed a.work.now v.new.work a.counts.now v.new.counts refl refl p.result p.ensures v.ensures.work v.ensures.counts

pub means-requires : goal.means-requires
means-requires c =
    let a = c.args in
    let call = call_of a.t a.codebook.now (length a.work.now) (length a.counts.now) a.slots in
    let accepted : update_checks call ≡ completed tt = sym c.check_update.ensures ∙ ap outcome c.in_default.is in
    let p = c.places-p in
    let v = c.clear in
    let w = c.add_samples in
    can_divide call (checks_passed call accepted) a.work.now v.new.work a.counts.now v.new.counts refl refl p.result p.ensures v.ensures.work v.ensures.counts w.new.work w.new.counts w.auto.work w.auto.counts

pub returns-then-empty-gt0-clause-progress : goal.returns-then-empty-gt0-clause-progress
returns-then-empty-gt0-clause-progress c =
    let a = c.args in
    let call = call_of a.t a.codebook.now (length a.work.now) (length a.counts.now) a.slots in
    let accepted : update_checks call ≡ completed tt = sym c.check_update.ensures ∙ ap outcome c.in_default.is in
    let passed = checks_passed call accepted in
    let p = c.places-p in
    let v = c.clear in
    let w = c.add_samples in
    let none = empties call passed a.work.now v.new.work a.counts.now v.new.counts refl refl p.result p.ensures v.ensures.work v.ensures.counts w.new.work w.new.counts w.auto.work w.auto.counts c.means.new.work (w.ensures (length a.work.now) (length a.counts.now) a.slots) c.means.ensures c.count_empty-empty.result c.count_empty-empty.ensures in
    not_repaired call [] c.means.new.work w.new.counts (EmptyCells c.count_empty-empty.result) accepted (closed_refuses call c.count_empty-empty.result none c.if-empty-gt0.true c.in-FailClosed.is)

pub repair_on-requires : goal.repair_on-requires
repair_on-requires c =
    let a = c.args in
    let call = call_of a.t a.codebook.now (length a.work.now) (length a.counts.now) a.slots in
    let accepted : update_checks call ≡ completed tt = sym c.check_update.ensures ∙ ap outcome c.in_default.is in
    let passed = checks_passed call accepted in
    let p = c.places-p in
    let v = c.clear in
    let w = c.add_samples in
    let none = empties call passed a.work.now v.new.work a.counts.now v.new.counts refl refl p.result p.ensures v.ensures.work v.ensures.counts w.new.work w.new.counts w.auto.work w.auto.counts c.means.new.work (w.ensures (length a.work.now) (length a.counts.now) a.slots) c.means.ensures c.count_empty-empty.result c.count_empty-empty.ensures in
    let repairs : update_of call ≡ repair_to (terms_of call) (far_of call) (start_cells call) call.size =
    elim c.match-policy.branch [ in-FailClosed+else-empty-gt0 w ↦ closed_repairs call c.count_empty-empty.result none w.if-empty-gt0.false w.in-FailClosed.is | in_default-policy w ↦ split_repairs call w.in_default-policy.is ] in
    record { call = call; r = unrepaired call; matches = record { size = refl; dim = refl; restart = refl; iteration = refl; samples = refl; slots = refl }; under = begun call passed a.work.now v.new.work a.counts.now v.new.counts refl refl p.result p.ensures v.ensures.work v.ensures.counts w.new.work w.new.counts w.auto.work w.auto.counts c.means.new.work (w.ensures (length a.work.now) (length a.counts.now) a.slots) c.means.ensures repairs accepted; used = refl }

pub returns : goal.returns
returns c =
    let a = c.args in
    let call = call_of a.t a.codebook.now (length a.work.now) (length a.counts.now) a.slots in
    let accepted : update_checks call ≡ completed tt = sym c.check_update.ensures ∙ ap outcome c.in_default.is in
    let passed = checks_passed call accepted in
    let p = c.places-p in
    let v = c.clear in
    let w = c.add_samples in
    let r = c.repair_on in
    let none = empties call passed a.work.now v.new.work a.counts.now v.new.counts refl refl p.result p.ensures v.ensures.work v.ensures.counts w.new.work w.new.counts w.auto.work w.auto.counts c.means.new.work (w.ensures (length a.work.now) (length a.counts.now) a.slots) c.means.ensures c.count_empty-empty.result c.count_empty-empty.ensures in
    let repairs : update_of call ≡ repair_to (terms_of call) (far_of call) (start_cells call) call.size =
    elim c.match-policy.branch [ in-FailClosed+else-empty-gt0 w ↦ closed_repairs call c.count_empty-empty.result none w.if-empty-gt0.false w.in-FailClosed.is | in_default-policy w ↦ split_repairs call w.in_default-policy.is ] in
    let progress = r.ensures call (unrepaired call) (record { size = refl; dim = refl; restart = refl; iteration = refl; samples = refl; slots = refl }) refl (begun call passed a.work.now v.new.work a.counts.now v.new.counts refl refl p.result p.ensures v.ensures.work v.ensures.counts w.new.work w.new.counts w.auto.work w.auto.counts c.means.new.work (w.ensures (length a.work.now) (length a.counts.now) a.slots) c.means.ensures repairs accepted) in
    record { progress = progress; early = λ x e. absurd (has_begun call [] r.new.work r.new.counts r.result progress accepted x e) }
