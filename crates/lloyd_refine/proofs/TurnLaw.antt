-- What a turn of the repairs says of a refinement that stands in a round. Assumes nothing.
use Rattle.std.specs.Prelude.{Option, None, Some, Result, Ok, Err}
use Rattle.std.specs.Result.{IsErrAnd}
use mathlib.Core.Path.{◌≡◌, refl, sym, ap, ◌∙◌, subst}
use Prim.Native.Nat.{ℕ, ◌+◌, ◌*◌, ◌≤◌, ◌<◌}
use native.Mathlib.Omega.{arith}
use mathlib.Core.List.{List, [], ◌∷◌, ◌++◌, append_assoc}
use lib.ListN.{length, length-append}
use lib.Ieee.{Float}
use Rattle.error.specs.declared.Refusal.{Refusal}
use Rattle.error.specs.Numbers.{Outcome, completed, refusal, and_then}
use Rattle.error.proofs.Refusals.{by_refusal}
use Rattle.profile.specs.declared.FibQuantProfile.{FibQuantProfile}
use Rattle.lloyd_events.specs.declared.LloydRepairEvent.{LloydRepairEvent}
use Rattle.lloyd_cells.specs.declared.Places.{Places}
use Rattle.lloyd_cells.specs.Repair.{Repaired}
use Rattle.lloyd_cells.specs.Work.{Kept}
use Rattle.lloyd_cells.proofs.TallyLaw.{events_upto}
use Rattle.lloyd_repair.specs.declared.Repair.{Repair}
use Rattle.lloyd_repair.specs.Running.{Running, Turned}
use Rattle.lloyd_update.proofs.RepairsLaw.{events_within, not_completed}
use Rattle.lloyd_round.specs.Round.{places_of, numbers_of, Holding}
use Rattle.lloyd_refine.specs.declared.LloydReport.{LloydReport}
use Rattle.lloyd_refine.specs.declared.RefineTerms.{RefineTerms}
use Rattle.lloyd_refine.specs.declared.RefineState.{RefineState}
use Rattle.lloyd_refine.specs.Refine.{Job, size_of, dim_of, refine_checks, round_terms, Trained, trained_from, Best, refinement}
use Rattle.lloyd_refine.specs.Report.{report_of}
use Rattle.lloyd_refine.specs.Standing.{job_of, round_means, round_far, InRound, Ended, MatchesRound, Matches}
use Rattle.lloyd_refine.specs.Pauses.{at_cell, paused, Pausing, ReadyIn}
use Rattle.lloyd_refine.proofs.CheckLaw.{checks_passed}
use Rattle.lloyd_refine.proofs.EventLaw.{bests_within, rounds_within, refused_by}

-- ---- a job is the one that its terms make, with its own strings and lengths
abbrev pub job_for : Job → RefineTerms → Job
job_for j terms = job_of terms.given.profile j.schema j.algorithm j.log2 terms.initial.now terms.samples.now terms.matrices.now j.codewords j.float_work j.integer_work terms.slots

-- and with its own initial codebook and matrices, which a round does not read
abbrev pub round_for : Job → RefineTerms → Job
round_for j terms = job_of terms.given.profile j.schema j.algorithm j.log2 j.initial terms.samples.now j.matrices j.codewords j.float_work j.integer_work terms.slots

pub is_job : {j : Job} {terms : RefineTerms} → Matches j terms → job_for j terms ≡ j
is_job same = let r = same.round in rw (← r.profile, ← same.initial, ← r.samples, ← same.matrices, ← r.slots)

pub is_round : {j : Job} {terms : RefineTerms} → MatchesRound j terms → round_for j terms ≡ j
is_round same = rw (← same.profile, ← same.samples, ← same.slots)

-- ---- a refusal that `?` hands on
pub handed_on : {A : Type 0} (y : Result A Refusal) (x : Refusal) → IsErrAnd y (λ e. e ≡ x) → y ≡ Err x
handed_on (Ok r) x h = absurd h
handed_on (Err e) x h = ap Err h

-- ---- a refinement that is refused once its checks are passed
abbrev reported : Job → Outcome Best → Outcome LloydReport
reported j o = and_then o (λ b. completed (report_of j b))

pub report_refused : (j : Job) (x : Refusal) → refusal x ≡ reported j (refusal x)
report_refused j x = by_refusal (λ (q : Outcome Best) (p : Outcome LloydReport). p ≡ reported j q) (λ n vs. refl) x

pub not_refined : (j : Job) (events : List LloydRepairEvent) (work : List Float) (x : Refusal) → refine_checks j ≡ completed tt → refinement j ≡ refusal x → Ended j events work (Err x)
not_refined j events work x k e = record {
  answers = report_refused j x ∙ sym (ap (reported j) e);
  done = λ r q. absurd (not_completed x r (sym e ∙ q));
  checked = k;
}

-- ---- what a turn is told
module _ {j : Job} {b : Best} {t : Trained} {u : Repaired} {s : RefineState} {work : List Float} {ints : List ℕ} (h : InRound j b t u s work ints) where
  pub before_within : s.before ≤ j.slots
  before_within =
      subst (λ (z : ℕ). z ≤ j.slots) (sym h.earlier) (rounds_within j s.restart (trained_from j s.restart b) t s.iteration (bests_within j s.restart b h.bests) h.rounds)

  pub few_before : s.before ≤ 1048576
  few_before = omega (arith, before_within, (checks_passed j h.checked).slots_upto)

  pub few_made : s.made ≤ 1048576
  few_made =
      let r = h.running in
      omega (arith, h.made, events_upto (round_terms j s.restart s.iteration (length t.events)) (round_far j t.codebook) (round_means j t.codebook) s.next u r.reached r.came, r.reached, r.small)

  pub small_places : 3 * (size_of j * dim_of j) + size_of j < 0x1_0000_0000_0000
  small_places = let v = (checks_passed j h.checked).valid in omega (arith, v.values_most, v.shape.book_most)

  module _ (p : Places) (is : p ≡ places_of (size_of j) (dim_of j)) where
    pub to_turn : Running p (numbers_of (size_of j)) (round_terms j s.restart s.iteration s.before) j.samples (round_far j t.codebook) (round_means j t.codebook) s.next u work ints
    to_turn = rw (is, h.earlier) h.running

    pub of_turn : (after : List Float) (left : List ℕ) (o : Result (Option Repair) Refusal) → Turned p (numbers_of (size_of j)) (round_terms j s.restart s.iteration s.before) j.samples (round_far j t.codebook) (round_means j t.codebook) u after left o
        → Turned (places_of (size_of j) (dim_of j)) (numbers_of (size_of j)) (round_terms j s.restart s.iteration (length t.events)) j.samples (round_far j t.codebook) (round_means j t.codebook) u after left o
    of_turn after left o q =
        subst (λ (z : ℕ). Turned (places_of (size_of j) (dim_of j)) (numbers_of (size_of j)) (round_terms j s.restart s.iteration z) j.samples (round_far j t.codebook) (round_means j t.codebook) u after left o) h.earlier
        (subst (λ (z : Places). Turned z (numbers_of (size_of j)) (round_terms j s.restart s.iteration s.before) j.samples (round_far j t.codebook) (round_means j t.codebook) u after left o) is q)

  -- ---- where it leaves the refinement
  module _ (after : List Float) (left : List ℕ) (kept : Kept (places_of (size_of j) (dim_of j)) (size_of j) (dim_of j) work after) (same : length left ≡ length ints) where
    held_still : (at : ℕ) (codebook : List Float) → at ≤ size_of j * dim_of j → Holding (size_of j) (dim_of j) at codebook work → Holding (size_of j) (dim_of j) at codebook after
    held_still at codebook l q = record { size = q.size; values = λ i m. kept.below (at + i) (omega arith) ∙ q.values i m }

    stands_on : (w : Repaired) (next made : ℕ) → made ≡ length w.events
        → Running (places_of (size_of j) (dim_of j)) (numbers_of (size_of j)) (round_terms j s.restart s.iteration (length t.events)) j.samples (round_far j t.codebook) (round_means j t.codebook) next w after left
        → InRound j b t w (at_cell next made s) after left
    stands_on w next made e r = record {
      checked = h.checked;
      floats = kept.size ∙ h.floats;
      integers = same ∙ h.integers;
      restart_below = h.restart_below;
      round_below = h.round_below;
      bests = h.bests;
      rounds = h.rounds;
      repairs = h.repairs;
      running = r;
      current = held_still 0 t.codebook (omega arith) h.current;
      kept = held_still (size_of j * dim_of j) b.codebook (omega arith) h.kept;
      earlier = h.earlier;
      made = e;
      init = h.init;
      best = h.best;
      winner = h.winner;
    }

    pub turned : (o : Option Repair)
        → Turned (places_of (size_of j) (dim_of j)) (numbers_of (size_of j)) (round_terms j s.restart s.iteration (length t.events)) j.samples (round_far j t.codebook) (round_means j t.codebook) u after left (Ok o)
        → Pausing j (t.events ++ u.events) after left (Ok (paused j.profile s o))
    turned (Some w) o =
        let k = length-append u.events (w.event ∷ []) in
        let n = ap length o.event in
        let made : s.made + 1 ≡ length o.after.events = omega (arith, h.made) in
        let fit = events_within (round_terms j s.restart s.iteration (length t.events)) (round_far j t.codebook) (round_means j t.codebook) w.next o.after o.running.came in
        record {
          b = b;
          t = t;
          u = o.after;
          standing = stands_on o.after w.next (s.made + 1) made o.running;
          last = ap (λ (x : List LloydRepairEvent). t.events ++ x) o.event ∙ sym (append_assoc t.events u.events (w.event ∷ []));
          room = omega (arith, length-append t.events u.events);
        }
    turned None o = record { b = b; t = t; u = u; standing = stands_on u (size_of j) s.made h.made o.1; all = refl; so_far = refl }

    pub turn_refused : (x : Refusal)
        → Turned (places_of (size_of j) (dim_of j)) (numbers_of (size_of j)) (round_terms j s.restart s.iteration (length t.events)) j.samples (round_far j t.codebook) (round_means j t.codebook) u after left (Err x)
        → Pausing j (t.events ++ u.events) after left (Err x)
    turn_refused x o =
        not_refined j (t.events ++ u.events) after x h.checked
        (refused_by j x s.restart s.iteration b t h.checked h.restart_below h.round_below h.bests h.rounds (h.repairs ∙ o))

-- ---- what is ready, by the terms
module _ {terms : RefineTerms} {work : List Float} {ints : List ℕ} {s : RefineState} (q : ReadyIn terms work ints s) where
  pub room_before : s.before ≤ terms.slots
  room_before = subst (λ (z : ℕ). s.before ≤ z) q.matches.slots (before_within q.standing)

  pub small_of : let p = terms.given.profile in 3 * (p.codebook_size * p.block_dim) + p.codebook_size < 0x1_0000_0000_0000
  small_of = subst (λ (z : FibQuantProfile). 3 * (z.codebook_size * z.block_dim) + z.codebook_size < 0x1_0000_0000_0000) q.matches.profile (small_places q.standing)
