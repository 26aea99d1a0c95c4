-- The repairs of an update alone: what a turn says of it, and that its events fit the slots. Assumes nothing.
use Rattle.std.proofs.Common.{◌≡◌, ℕ, zero, suc, ◌+◌, ◌*◌, ◌<◌, ◌≤◌, Bool, true, false, cond, eqb, leb, List, [], ◌∷◌, length, sym, refl, ap, ◌∙◌, subst, arith, length-append, leb-false, Option, None, Some, Err, Result, Ok}
use lib.Ieee.{Float, le}
use Rattle.error.specs.declared.Refusal.{Refusal}
use Rattle.error.specs.Numbers.{Outcome, completed, refused, and_then, whole, refusal}
use Rattle.error.proofs.Outcomes.{never, completed_same, then_completed}
use Rattle.error.proofs.Refusals.{by_refusal}
use Rattle.lloyd_events.specs.declared.LloydRepairEvent.{LloydRepairEvent}
use Rattle.lloyd_cells.specs.declared.Places.{Places}
use Rattle.lloyd_cells.specs.Repair.{Cells, Terms, Repaired, donor_to, least_norm, residual_norm, event_of, repair_by, turn, repair_to}
use Rattle.lloyd_cells.proofs.TallyLaw.{split_by, events_upto}
use Rattle.lloyd_repair.specs.declared.Numbers.{Numbers}
use Rattle.lloyd_repair.specs.declared.RepairTerms.{RepairTerms}
use Rattle.lloyd_repair.specs.declared.Repair.{Repair}
use Rattle.lloyd_repair.specs.Running as running
use Rattle.lloyd_repair.specs.Running.{Running, Turned}
use Rattle.lloyd_update.specs.declared.UpdateTerms.{UpdateTerms}
use Rattle.lloyd_update.specs.Alone.{Call, terms_of, update_checks, update_of, update_alone}
use Rattle.lloyd_update.specs.Progress.{places_of, numbers_of, start_cells, far_of, Under, Going, Ended, Matches, ReadyAt}
use Rattle.lloyd_update.proofs.CheckLaw.{checks_passed}
use Rattle.lloyd_update.proofs.AddLaw.{places_small}

pub not_completed : {A : Type 0} (x : Refusal) (r : A) → refusal x ≡ completed r → ⊥
not_completed {A} x r = by_refusal (λ (q p : Outcome A). q ≡ completed r → ⊥) (λ n vs k. never n vs r k) x

-- how many repairs an update comes to
abbrev pub event_count : Outcome Repaired → Outcome ℕ
event_count o = and_then o (λ r. completed (length r.events))

pub count_refused : (x : Refusal) → refusal x ≡ event_count (refusal x)
count_refused x = by_refusal (λ (q : Outcome Repaired) (p : Outcome ℕ). p ≡ event_count q) (λ n vs. refl) x

-- an update that is refused once its checks are passed
pub not_repaired : (c : Call) (events : List LloydRepairEvent) (work : List Float) (counts : List ℕ) (x : Refusal) → update_checks c ≡ completed tt → update_of c ≡ refusal x → Ended c events work counts (Err x)
not_repaired c events work counts x k e =
    let alone : update_alone c ≡ refusal x = ap (λ (o : Outcome Unit). and_then o (λ u. update_of c)) k ∙ e in
    record { answers = count_refused x ∙ sym (ap event_count alone); done = λ r q. absurd (not_completed x r (sym alone ∙ q)); checked = k }

-- ---- the events fit the free slots
module _ (t : Terms) (far : ℕ → ℕ → Float) where
  module _ (e : ℕ) (r s : Repaired) (h : length r.events ≤ t.free) where
    by_donor : (d : Option ℕ) → repair_by t far e r d ≡ completed s → length s.events ≤ t.free
    by_donor None k = absurd (never 15 (whole e ∷ []) s k)
    by_donor (Some c) k = tests (le (residual_norm t.dim (far c) (r.cells.word c)) least_norm) (leb t.free (length r.events)) refl k
      where
        tests : (a b : Bool) → leb t.free (length r.events) ≡ b → cond a (refused 16 (whole c ∷ [])) (cond b (refused 19 (whole t.shown ∷ [])) (completed (split_by t far e r c))) ≡ completed s → length s.events ≤ t.free
        tests true b q z = absurd (never 16 (whole c ∷ []) s z)
        tests false true q z = absurd (never 19 (whole t.shown ∷ []) s z)
        tests false false q z =
            let l = leb-false t.free (length r.events) q in
            let n = length-append r.events (event_of t r.cells c e (residual_norm t.dim (far c) (r.cells.word c)) ∷ []) in
            subst (λ (x : Repaired). length x.events ≤ t.free) (completed_same (split_by t far e r c) s z) (omega arith)

    events_turn : turn t far e r ≡ completed s → length s.events ≤ t.free
    events_turn k = go (eqb (r.cells.tally e) 0) k
      where
        go : (b : Bool) → cond b (repair_by t far e r (donor_to r.cells.tally r.cells.distortion t.cells)) (completed r) ≡ completed s → length s.events ≤ t.free
        go true z = by_donor (donor_to r.cells.tally r.cells.distortion t.cells) z
        go false z = subst (λ (x : Repaired). length x.events ≤ t.free) (completed_same r s z) h

  pub events_within : (st : Cells) (e : ℕ) (r : Repaired) → repair_to t far st e ≡ completed r → length r.events ≤ t.free
  unfolding repair_to
  events_within st zero r h = subst (λ (x : Repaired). length x.events ≤ t.free) (completed_same (record { cells = st; events = [] }) r h) (omega arith)
  events_within st (suc e) r h =
      let (x, p, q) = then_completed (repair_to t far st e) (turn t far e) r h in
      events_turn e x r (events_within st e x p) q

-- ---- what a turn is told, and what the update is
abbrev pub repair_terms : UpdateTerms → ℕ → RepairTerms
repair_terms t slots = record { dim = t.block_dim; cells = t.codebook_size; restart = t.restart; iteration = t.iteration; free = slots; shown = slots }

module _ (far : ℕ → ℕ → Float) (start : Cells) (r : Repaired) (work : List Float) (ints : List ℕ) {p q : Places} {m l : Numbers} {t u : Terms} {xs ys : List Float}
    (ep : p ≡ q) (em : m ≡ l) (et : t ≡ u) (ex : xs ≡ ys) where
  same_run : (next : ℕ) → Running p m t xs far start next r work ints → Running q l u ys far start next r work ints
  same_run next h =
      subst (λ (z : Places). Running z l u ys far start next r work ints) ep
      (subst (λ (z : Numbers). Running p z u ys far start next r work ints) em
      (subst (λ (z : Terms). Running p m z ys far start next r work ints) et (subst (λ (z : List Float). Running p m t z far start next r work ints) ex h)))

  same_turn : (o : Result (Option Repair) Refusal) → Turned p m t xs far start r work ints o → Turned q l u ys far start r work ints o
  same_turn o h =
      subst (λ (z : Places). Turned z l u ys far start r work ints o) ep
      (subst (λ (z : Numbers). Turned p z u ys far start r work ints o) em
      (subst (λ (z : Terms). Turned p m z ys far start r work ints o) et (subst (λ (z : List Float). Turned p m t z far start r work ints o) ex h)))

module _ {c : Call} {t : UpdateTerms} {slots : ℕ} (same : Matches c t slots) where
  same_places : (p : Places) → p ≡ places_of t.codebook_size t.block_dim → p ≡ places_of c.size c.dim
  same_places p e = e ∙ rw (same.size, same.dim)

  same_numbers : numbers_of t.codebook_size t.block_dim ≡ numbers_of c.size c.dim
  same_numbers = rw (same.size, same.dim)

  same_terms : running.terms_of (repair_terms t slots) ≡ terms_of c
  same_terms = rw (same.size, same.dim, same.restart, same.iteration, same.slots)

  module _ (p : Places) (is-p : p ≡ places_of t.codebook_size t.block_dim) where
    pub to_turn : {next : ℕ} {r : Repaired} {work : List Float} {ints : List ℕ} → Under c next r work ints
        → Running p (numbers_of t.codebook_size t.block_dim) (running.terms_of (repair_terms t slots)) t.samples.now (far_of c) (start_cells c) next r work ints
    to_turn {next} {r} {work} {ints} h = same_run (far_of c) (start_cells c) r work ints (sym (same_places p is-p)) (sym same_numbers) (sym same_terms) same.samples next h.running

    pub of_turn : (r : Repaired) (work : List Float) (ints : List ℕ) (o : Result (Option Repair) Refusal) → Turned p (numbers_of t.codebook_size t.block_dim) (running.terms_of (repair_terms t slots)) t.samples.now (far_of c) (start_cells c) r work ints o
        → Turned (places_of c.size c.dim) (numbers_of c.size c.dim) (terms_of c) c.samples (far_of c) (start_cells c) r work ints o
    of_turn r work ints o h = same_turn (far_of c) (start_cells c) r work ints (same_places p is-p) same_numbers same_terms (sym same.samples) o h

module _ {t : UpdateTerms} {slots used : ℕ} {work : List Float} {counts : List ℕ} {from : ℕ} (h : ReadyAt t slots used work counts from) where
  pub ready_small : 2 * (t.codebook_size * t.block_dim) + t.codebook_size < 0x1_0000_0000_0000
  ready_small =
      let b = (checks_passed h.call h.under.checked).book in
      rw (← h.matches.size, ← h.matches.dim) (places_small h.call.size h.call.dim b.codewords_upto b.coordinates_upto)

  pub used_small : used ≤ 1048576
  used_small =
      let r = h.under.running in
      omega (arith, h.used, events_upto (terms_of h.call) (far_of h.call) (start_cells h.call) from h.r r.reached r.came, r.reached, r.small)

-- ---- what an update has come to after a turn
module _ {c : Call} {from : ℕ} {r : Repaired} {before : List Float} {earlier : List ℕ} (h : Under c from r before earlier) (work : List Float) (counts : List ℕ) where
  pub goes_on : (x : Repair) → Turned (places_of c.size c.dim) (numbers_of c.size c.dim) (terms_of c) c.samples (far_of c) (start_cells c) r work counts (Ok (Some x)) → Going c r.events work counts x
  goes_on x o = record {
    r = o.after;
    under = record { checked = h.checked; repairs = h.repairs; running = o.running };
    last = o.event;
    room = omega (arith, events_within (terms_of c) (far_of c) (start_cells c) x.next o.after o.running.came, ap length o.event, length-append r.events (x.event ∷ []));
  }
