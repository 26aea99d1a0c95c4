-- `lloyd_steps::start_round` meets its contract: the means of the round, the
-- policy for empty cells, and the repairs from cell 0 on. Assumes nothing.
use Rattle.std.proofs.Common.{Err, rules, arith}
use Rattle.error.specs.declared.Refusal.TheVariants.{EmptyCells}
use mathlib.Core.Path.{◌≡◌, refl, sym, subst}
use mathlib.Core.Bool.{true≢false}
use mathlib.Core.List.{List, append-nil}
use Prim.Native.Nat.{ℕ, ◌≤◌}
use lib.Ieee.{Float}
use lib.ListN.{length}
use lib.Seq.{length-take-le}
use Rattle.profile.specs.declared.EmptyCellPolicy.TheVariants.{FailClosed}
use Rattle.lloyd_events.specs.declared.LloydRepairEvent.{LloydRepairEvent}
use Rattle.lloyd_round.specs.Round.{AtFirst}
use Rattle.lloyd_refine.specs.declared.RefineState.{RefineState}
use Rattle.lloyd_refine.specs.Refine.{Job, Trained, size_of, dim_of, count_of, round_terms}
use Rattle.lloyd_refine.specs.Pauses.{Pausing}
use Rattle.lloyd_steps.specs.Steps.{AtRound}
use Rattle.lloyd_refine.proofs.TurnLaw.{round_for, is_round}
use Rattle.lloyd_steps.proofs.ReadyLaw.{fits_round, round_job, round_stands}
use Rattle.lloyd_steps.proofs.RoundLaw.{unrepaired, roomy, in_round, closed}
use Rattle.lloyd_steps.proofs.start_round.Goals as goal
use Rattle.lloyd_steps.proofs.start_round.Goals.{else-eq-via-then-eq+else-empty-gt0, else-eq-via-else-eq}

-- the round has its means
abbrev First : Job → Trained → RefineState → List Float → List ℕ → Type 0
First j t s after left = AtFirst (dim_of j) (size_of j) (count_of j) j.samples t.codebook (round_terms j s.restart s.iteration (length t.events)) after left

pub overflow_cast-count : goal.overflow_cast-count
overflow_cast-count c = record { fits = omega (arith, (roomy (round_stands c.requires)).few) }

pub begin_round-requires : goal.begin_round-requires
begin_round-requires c = roomy (round_stands c.requires)

pub slice_bounds-count_empty-end : goal.slice_bounds-count_empty-end
slice_bounds-count_empty-end c =
    let q = c.requires in
    let first : First (round_job q) q.t c.args.s c.begin_round.new.work c.begin_round.new.ints = c.begin_round.ensures.first _ _ refl refl (round_stands q).current in
    first.counts

pub slice_bounds-count_empty-end-2 : goal.slice_bounds-count_empty-end-2
slice_bounds-count_empty-end-2 c =
    let q = c.requires in
    let first : First (round_job q) q.t c.args.s c.begin_round.new.work c.begin_round.new.ints = c.begin_round.ensures.first _ _ refl refl (round_stands q).current in
    sym (length-take-le c.args.terms.given.profile.codebook_size c.begin_round.new.ints first.counts)

pub returns-then-empty-gt0-clause-stands : goal.returns-then-empty-gt0-clause-stands
returns-then-empty-gt0-clause-stands c =
    let a = c.args in
    let n = c.begin_round.new in
    let k = c.begin_round.ensures.kept in
    let policy : a.terms.given.profile.empty_cell_policy ≡ FailClosed = search rules in
    λ j b t same h. subst (λ (z : Job). AtRound z b t a.s a.work.now a.ints.now → Pausing z t.events n.work n.ints (Err (EmptyCells c.count_empty-empty.result))) (is_round same)
    (λ g. closed g n.work n.ints k.0 k.1 k.2 (c.begin_round.ensures.first _ _ refl refl g.current) c.requires.below c.count_empty-empty.result c.count_empty-empty.ensures c.if-empty-gt0.true policy) h

pub repair_on-requires : goal.repair_on-requires
repair_on-requires c =
    let q = c.requires in
    let n = c.begin_round.new in
    let k = c.begin_round.ensures.kept in
    let h = round_stands q in
    let allowed : c.args.terms.given.profile.empty_cell_policy ≡ FailClosed → c.count_empty-empty.result ≤ 0 =
    elim c.else-eq.branch [ else-eq-via-then-eq+else-empty-gt0 w ↦ λ e. w.if-empty-gt0.false | else-eq-via-else-eq w ↦ λ e. absurd (true≢false (sym (rw e at w.if-eq.ensures))) ] in
    record { job = round_job q; b = q.b; t = q.t; u = unrepaired (round_job q) q.t.codebook; matches = fits_round q.job c.args.terms; standing = in_round h n.work n.ints k.0 k.1 k.2 (c.begin_round.ensures.first _ _ refl refl h.current) q.below c.count_empty-empty.result c.count_empty-empty.ensures allowed }

pub returns-clause-stands : goal.returns-clause-stands
returns-clause-stands c =
    let a = c.args in
    let n = c.begin_round.new in
    let k = c.begin_round.ensures.kept in
    let o = c.repair_on in
    let allowed : c.args.terms.given.profile.empty_cell_policy ≡ FailClosed → c.count_empty-empty.result ≤ 0 =
    elim c.else-eq.branch [ else-eq-via-then-eq+else-empty-gt0 w ↦ λ e. w.if-empty-gt0.false | else-eq-via-else-eq w ↦ λ e. absurd (true≢false (sym (rw e at w.if-eq.ensures))) ] in
    λ j b t same h. subst (λ (z : Job). AtRound z b t a.s a.work.now a.ints.now → Pausing z t.events o.new.work o.new.ints o.result) (is_round same)
    (λ g. let z = round_for j a.terms in
    subst (λ (y : List LloydRepairEvent). Pausing z y o.new.work o.new.ints o.result) (append-nil t.events)
    (o.ensures.stands z b t (unrepaired z t.codebook) (fits_round j a.terms) (in_round g n.work n.ints k.0 k.1 k.2 (c.begin_round.ensures.first _ _ refl refl g.current) c.requires.below c.count_empty-empty.result c.count_empty-empty.ensures allowed))) h
