-- What a repair leaves in the work, and what a refused one comes to. Assumes nothing.
use Rattle.std.proofs.Common.{◌≡◌, ℕ, suc, ◌+◌, ◌-◌, ◌<◌, ◌≤◌, true, false, List, [], ◌∷◌, ◌++◌, length, get_or, set, sym, refl, ap, ◌∙◌, subst, add-one, arith, length-set, get_or-set_other, take, drop, eq-eqb, ne_eqb, le-leb, None}
use lib.ListN.{take-append-drop}
use lib.Seq.{get_or-take, length-take-le}
use Rattle.std.proofs.Math.Seq.{take-set-lt}
use Rattle.std.proofs.lemmas.List.{drop-set-lt}
use native.Mathlib.Decide.{ℕ_discrete}
use lib.Ieee.{Float, nan, le}
use borrow.Author.Tests.{lt-leb}
use Rattle.error.specs.Numbers.{completed, refused, Value, whole}
use Rattle.lloyd_search.specs.Distance.{vector_of}
use Rattle.lloyd_events.specs.declared.LloydRepairEvent.{LloydRepairEvent}
use Rattle.lloyd_cells.specs.declared.Places.{Places}
use Rattle.lloyd_cells.specs.Repair.{Cells, Terms, Repaired, donor_to, repair_cell, repair_to, residual_norm, least_norm, split, event_of}
use Rattle.lloyd_cells.specs.Work.{Fit, Kept, split_work, split_counts}
use Rattle.lloyd_cells.proofs.DonorLaw.{donor_to_ext}
use Rattle.lloyd_cells.proofs.WorkLaw.{held_split, split_kept, held_donor}
use Rattle.lloyd_repair.specs.declared.Numbers.{Numbers}
use Rattle.lloyd_repair.specs.declared.Numbers.TheVariants.{InFloats, InInts}
use Rattle.lloyd_repair.specs.Running.{cells_in, NumberAt, NumbersFit, HoldsFarthest, Running, Chosen, OneMore, BehindKept}
use Rattle.lloyd_repair.proofs.TurnLaw.{at_turn, is_empty, skip, stays, no_donor, no_direction, no_slot, one_repair}
use Rattle.lloyd_repair.proofs.DonorFacts.{below, tally_two, tally_none, apart, found}

-- ---- the counts alone, in front of what stands behind them
module _ (n c e : ℕ) (ints : List ℕ) (h : c < n) where
  pub front_count : get_or (take n ints) c 0 ≡ get_or ints c 0
  front_count = get_or-take n ints c 0 h

  pub front_split : e < n → split_counts c e (take n ints) ++ drop n ints ≡ split_counts c e ints
  front_split l =
      let less = get_or ints c 0 - 1 in
      let given = set ints c less in
      rw (front_count, ← take-set-lt n ints c less h, ← take-set-lt n given e 1 l, ← drop-set-lt n ints c less h, ← drop-set-lt n given e 1 l)
      (take-append-drop n (set given e 1))

  pub front_event : (t : Terms) (p : Places) (k : ℕ) (work : List Float) (norm : Float) → event_of t (cells_in p k work (take n ints)) c e norm ≡ event_of t (cells_in p k work ints) c e norm
  front_event t p k work norm = rw front_count

-- and they show the same donor
pub front_donor : (n : ℕ) (ints : List ℕ) (d : ℕ → Float) → n ≤ length ints → donor_to (λ c. get_or (take n ints) c 0) d (length (take n ints)) ≡ donor_to (λ c. get_or ints c 0) d n
front_donor n ints d l = rw (length-take-le n ints l) (donor_to_ext (λ c. get_or (take n ints) c 0) (λ c. get_or ints c 0) d d n (λ i h. get_or-take n ints i 0 h) (λ i h. refl))

-- ---- the turn of an empty cell
module _ (t : Terms) (far : ℕ → ℕ → Float) (start : Cells) (e : ℕ) (r : Repaired) (came : repair_to t far start e ≡ completed r) (none : r.cells.tally e ≡ 0) where
  pub empty_turn : repair_to t far start (suc e) ≡ repair_cell t far e r
  empty_turn = at_turn t far start e r came ∙ is_empty t far start e r none

  -- where its repair is refused, all are
  pub all_refused : (n : ℕ) (vs : List Value) → e < t.cells → repair_cell t far e r ≡ refused n vs → repair_to t far start t.cells ≡ refused n vs
  all_refused n vs l h = stays t far start (suc e) t.cells n vs l (empty_turn ∙ h)

module _ {p : Places} {m : Numbers} {t : Terms} {samples : List Float} {e donor : ℕ} {work : List Float} {ints : List ℕ} {far : ℕ → ℕ → Float} {start : Cells} {r : Repaired}
    (run : Running p m t samples far start e r work ints) (chosen : Chosen p t e donor work ints) (norm : Float) (is-norm : residual_norm t.dim (far donor) (r.cells.word donor) ≡ norm) where
  by_donor : (n : ℕ) (vs : List Value) → repair_cell t far e r ≡ refused n vs → repair_to t far start t.cells ≡ refused n vs
  by_donor n vs = all_refused t far start e r run.came (tally_none run chosen) n vs chosen.below

  pub all_undirected : le norm least_norm ≡ true → repair_to t far start t.cells ≡ refused 16 (whole donor ∷ [])
  all_undirected h = by_donor 16 (whole donor ∷ []) (no_direction t far e r donor norm (found run chosen) is-norm h)

  pub all_used : le norm least_norm ≡ false → t.free ≤ length r.events → repair_to t far start t.cells ≡ refused 19 (whole t.shown ∷ [])
  all_used h l = by_donor 19 (whole t.shown ∷ []) (no_slot t far e r donor norm (found run chosen) is-norm h (le-leb t.free (length r.events) l))

-- ---- cells that are not empty are passed over
module _ {p : Places} {m : Numbers} {t : Terms} {samples : List Float} {from : ℕ} {work : List Float} {ints : List ℕ} {far : ℕ → ℕ → Float} {start : Cells} {r : Repaired}
    (run : Running p m t samples far start from r work ints) (e : ℕ) (later : from ≤ e) (reached : e ≤ t.cells) (none : (c : ℕ) → from ≤ c → c < e → get_or (take t.cells ints) c 0 ≡ 0 → ⊥) where
  pub passed : Running p m t samples far start e r work ints
  passed = record {
    fit = run.fit;
    small = run.small;
    counts = run.counts;
    room = run.room;
    reached = reached;
    came = skip t far start from e r later run.came (λ c u v z. none c u v (get_or-take t.cells ints c 0 (omega arith) ∙ run.held.tally c (omega arith) ∙ z));
    held = run.held;
    farthest = run.farthest;
  }

  -- to an empty one, for which no cell may give
  pub none_gives : e < t.cells → get_or (take t.cells ints) e 0 ≡ 0
      → donor_to (λ c. get_or (take t.cells ints) c 0) (λ c. get_or work (p.distortions + c) nan) (length (take t.cells ints)) ≡ None
      → repair_to t far start t.cells ≡ refused 15 (whole e ∷ [])
  none_gives l z h =
      all_refused t far start e r passed.came (sym (run.held.tally e l) ∙ sym (get_or-take t.cells ints e 0 l) ∙ z) 15 (whole e ∷ []) l
      (no_donor t far e r (sym (held_donor p t.cells t.dim r.cells work ints run.held) ∙ sym (front_donor t.cells ints (λ c. get_or work (p.distortions + c) nan) run.counts) ∙ h))

-- ---- a split
-- a cell that may give after it could before
still_plenty : (k : ℕ) (f : ℕ → Float) (norm : Float) (st : Cells) (c e : ℕ) → (c ≡ e → ⊥) → 1 < st.tally c → (i : ℕ) → 1 < (split k f norm st c e).tally i → 1 < st.tally i
still_plenty k f norm st c e apart plenty i h = elim (ℕ_discrete i c) [
  | yes q ↦ rw q plenty
  | no o ↦ elim (ℕ_discrete i e) [
    | yes q ↦ let one : 1 < 1 = rw (q, ne_eqb e c (λ r. apart (sym r)), eq-eqb e e refl) at h in absurd (omega arith)
    | no r ↦ rw (ne_eqb i c o, ne_eqb i e r) at h
  ]
]

-- the number held for a cell stands where a repair changes nothing
number_kept : (m : Numbers) (c s n k : ℕ) (p : Places) (work after : List Float) (ints left : List ℕ) → NumbersFit m p n k (length ints) → Kept p n k work after → BehindKept n ints left → c < n
    → NumberAt m work ints c s → NumberAt m after left c s
number_kept (InFloats start) c s n k p work after ints left fit w i l h = rw (w.between (start + c) (omega arith) (omega arith)) h
number_kept (InInts start) c s n k p work after ints left fit w i l h = i.behind (start + c) (omega arith) ∙ h

module _ {p : Places} {m : Numbers} {t : Terms} {samples : List Float} {e donor : ℕ} {work : List Float} {ints : List ℕ} {far : ℕ → ℕ → Float} {start : Cells} {r : Repaired}
    (run : Running p m t samples far start e r work ints) (chosen : Chosen p t e donor work ints)
    (part : List Float) (norm : Float) (size : length part ≡ t.dim) {after : List Float} {left : List ℕ}
    (split-work : after ≡ split_work p (length part) donor e part norm work) (split-counts : left ≡ split_counts donor e ints) where
  within : donor < t.cells
  within = below run chosen

  two : 1 < r.cells.tally donor
  two = tally_two run chosen

  distinct : donor ≡ e → ⊥
  distinct = apart run chosen

  is_split : after ≡ split_work p t.dim donor e part norm work
  is_split = split-work ∙ ap (λ (z : ℕ). split_work p z donor e part norm work) size

  pub work_kept : Kept p t.cells t.dim work after
  work_kept = rw is_split (split_kept p t.cells t.dim donor e part norm work run.fit within chosen.below distinct)

  pub counts_kept : BehindKept t.cells ints left
  counts_kept =
      let d = within in
      let b = chosen.below in
      rw split-counts (record {
        size = length-set (set ints donor (get_or ints donor 0 - 1)) e 1 ∙ length-set ints donor (get_or ints donor 0 - 1);
        behind = λ i l.
            get_or-set_other (set ints donor (get_or ints donor 0 - 1)) e i 1 0 (λ q. omega arith) ∙ get_or-set_other ints donor i (get_or ints donor 0 - 1) 0 (λ q. omega arith);
      })

  module _ (is-far : (j : ℕ) → j < t.dim → vector_of part j ≡ far donor j) (is-norm : residual_norm t.dim (far donor) (r.cells.word donor) ≡ norm)
      (wide : le norm least_norm ≡ false) (slot : length r.events < t.free) where
    abbrev repaired : Repaired
    repaired = record { cells = split t.dim (far donor) norm r.cells donor e; events = r.events ++ (event_of t r.cells donor e norm ∷ []) }

    came_to : repair_to t far start (e + 1) ≡ completed repaired
    came_to =
        rw add-one
        (empty_turn t far start e r run.came (tally_none run chosen)
        ∙ one_repair t far e r donor norm (found run chosen) is-norm wide (lt-leb t.free (length r.events) slot))

    holds_farthest : (c : ℕ) → c < t.cells → 1 < repaired.cells.tally c → HoldsFarthest m t.dim samples (far c) c after left
    holds_farthest c l h =
        let f = run.farthest c l (still_plenty t.dim (far donor) norm r.cells donor e distinct two c h) in
        record {
          number = f.number;
          at = number_kept m c f.number t.cells t.dim p work after ints left run.room work_kept counts_kept l f.at;
          inside = f.inside;
          is = f.is;
        }

    runs_on : Running p m t samples far start (e + 1) repaired after left
    runs_on = record {
      fit = subst (λ (L : ℕ). Fit p t.cells t.dim L) (sym work_kept.size) run.fit;
      small = run.small;
      counts = subst (λ (L : ℕ). t.cells ≤ L) (sym counts_kept.size) run.counts;
      room = subst (λ (L : ℕ). NumbersFit m p t.cells t.dim L) (sym counts_kept.size) run.room;
      reached = let b = chosen.below in omega arith;
      came = came_to;
      held = rw (is_split, split-counts)
          (held_split p t.cells t.dim donor e part norm work (far donor) r.cells ints run.fit run.held run.counts within chosen.below distinct two is-far);
      farthest = holds_farthest;
    }

    -- the donor is shown as the work held it
    pub one_more : (event : LloydRepairEvent) → event ≡ event_of t (cells_in p t.dim work ints) donor e norm → OneMore p m t samples far start r event (e + 1) after left
    one_more event h = record {
      after = repaired;
      event = rw (h, run.held.tally donor within, run.held.distortions donor within);
      running = runs_on;
    }
