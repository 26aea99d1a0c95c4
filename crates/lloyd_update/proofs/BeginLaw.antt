-- The beginning of an update alone: cleared work, samples added
-- up, means, and where that leaves the repairs. Assumes nothing.
use Rattle.std.proofs.Common.{◌≡◌, ℕ, ◌+◌, ◌*◌, ◌<◌, ◌≤◌, List, [], ◌∷◌, length, get_or, replicate, pos, sym, refl, ap, ◌∙◌, subst, mul-le-mul_right, le-mul_of_pos_right, arith, le-ltb, lt-ltb}
use lib.ListN.{length-replicate, get_or-replicate}
use lib.Ieee.{Float, nan, binary64, round, of_int}
use Rattle.ieee.specs.Sum.{plus_zero}
use Rattle.error.specs.declared.Refusal.{Refusal}
use Rattle.error.specs.Numbers.{completed, refused, whole}
use Rattle.profile.specs.declared.EmptyCellPolicy.TheVariants.{SplitHighestDistortion, FailClosed}
use Rattle.lloyd_events.specs.declared.LloydRepairEvent.{LloydRepairEvent}
use Rattle.lloyd_cells.specs.declared.Places.{Places}
use Rattle.lloyd_cells.specs.Cells.{count_to, farthest}
use Rattle.lloyd_cells.specs.Repair.{Repaired, repair_to}
use Rattle.lloyd_cells.specs.Update.{empty_cells, updated}
use Rattle.lloyd_cells.specs.Work.{cleared, Fit, Held, means_to}
use Rattle.lloyd_cells.proofs.CellsLaw.{count_to_ext, count_to_upto, farthest_within}
use Rattle.lloyd_cells.proofs.WorkLaw.{held_means, means_kept}
use Rattle.lloyd_cells.proofs.ClearLaw.{cleared_size, cleared_zero, cleared_gathered}
use Rattle.lloyd_repair.specs.Running.{HoldsFarthest, Running}
use Rattle.lloyd_update.specs.declared.Step.{Step}
use Rattle.lloyd_update.specs.declared.Step.TheVariants.{Refused}
use Rattle.lloyd_update.specs.Alone.{Call, terms_of, update_checks, update_of}
use Rattle.lloyd_update.specs.Progress.{places_of, numbers_of, samples_of, sample_of, cell_of, old_word_of, start_cells, far_of, distance_of, Added, Addable, Under, UpdateProgress}
use Rattle.lloyd_update.proofs.CheckLaw.{Passed}
use Rattle.lloyd_update.proofs.AddLaw.{shape, numbers_room}
use Rattle.lloyd_update.proofs.RepairsLaw.{not_completed}

-- ---- nothing is added up yet
zero_float : of_int binary64 (pos 0) ≡ plus_zero
unfolding of_int round
zero_float = refl

module _ (c : Call) (work₀ work : List Float) (counts₀ counts : List ℕ) (some : 0 < c.dim) (size : length work₀ ≡ 2 * (c.size * c.dim) + 2 * c.size) (tallies : length counts₀ ≡ c.size)
    (p : Places) (is-p : p ≡ places_of c.size c.dim) (is-work : work ≡ cleared p c.size work₀) (is-counts : counts ≡ replicate (length counts₀) 0) where
  fits : Fit (places_of c.size c.dim) c.size c.dim (length work₀)
  fits = shape c.size c.dim (length work₀) some size

  is : work ≡ cleared (places_of c.size c.dim) c.size work₀
  is = is-work ∙ ap (λ (q : Places). cleared q c.size work₀) is-p

  none : (i : ℕ) → i < c.size → get_or counts i 0 ≡ 0
  none i l = ap (λ (z : List ℕ). get_or z i 0) is-counts ∙ get_or-replicate (length counts₀) i 0 0 (omega arith)

  pub none_added : Added c 0 work counts
  unfolding farthest
  none_added = record {
    gathered = cleared_gathered (places_of c.size c.dim) c.size c.dim work₀ work fits is (cell_of c) (sample_of c) (distance_of c) counts none;
    numbers = λ i l.
        let r = numbers_room c.size c.dim i some l in
        cleared_zero (places_of c.size c.dim) c.size c.dim work₀ work fits is (c.size * c.dim + i) (omega arith) (omega arith) ∙ sym zero_float;
  }

  pub addable : Passed c → Addable c.size c.dim c.codebook c.samples c.assignments work counts
  addable p = record {
    some = some;
    least = p.book.coordinates_upto;
    most = p.book.codewords_upto;
    words = p.book.length_is;
    rows = p.rows.whole-samples ∙ ap (λ (z : ℕ). z * c.dim) (sym p.each);
    few = omega (arith, p.each, p.rows.count_upto);
    cells = p.cells;
    floats = cleared_size (places_of c.size c.dim) c.size c.dim work₀ work fits is ∙ size;
    integers = ap length is-counts ∙ length-replicate (length counts₀) 0 ∙ tallies;
    start = none;
  }

-- ---- the means
-- no repair has been made yet
abbrev pub unrepaired : Call → Repaired
unrepaired c = record { cells = start_cells c; events = [] }

module _ (c : Call) (passed : Passed c) (work : List Float) (counts : List ℕ) (added : Added c (length c.assignments) work counts)
    (floats : length work ≡ 2 * (c.size * c.dim) + 2 * c.size) (integers : length counts ≡ c.size)
    (p : Places) (is-p : p ≡ places_of c.size c.dim) (after : List Float) (is-after : after ≡ means_to p c.dim counts work c.size) where
  all-added : Added c (samples_of c) work counts
  all-added = subst (λ (s : ℕ). Added c s work counts) passed.each added

  fit : Fit (places_of c.size c.dim) c.size c.dim (length work)
  fit = shape c.size c.dim (length work) passed.book.coordinates floats

  is_means : after ≡ means_to (places_of c.size c.dim) c.dim counts work c.size
  is_means = is-after ∙ ap (λ (q : Places). means_to q c.dim counts work c.size) is-p

  after_size : length after ≡ length work
  after_size = ap length is_means ∙ (means_kept (places_of c.size c.dim) c.size c.dim counts work).size

  held : Held (places_of c.size c.dim) c.size c.dim (start_cells c) after counts
  held =
      subst (λ (w : List Float). Held (places_of c.size c.dim) c.size c.dim (start_cells c) w counts) (sym is_means)
      (held_means (places_of c.size c.dim) c.size c.dim (samples_of c) (sample_of c) (cell_of c) (old_word_of c) work counts fit all-added.gathered)

  number : (i : ℕ) → i < c.size → get_or after (c.size * c.dim + i) nan ≡ of_int binary64 (pos (farthest (cell_of c) (distance_of c) i (samples_of c)).sample)
  number i l =
      let r = numbers_room c.size c.dim i passed.book.coordinates l in
      ap (λ (w : List Float). get_or w (c.size * c.dim + i) nan) is_means
      ∙ (means_kept (places_of c.size c.dim) c.size c.dim counts work).between (c.size * c.dim + i) (omega arith) (omega arith)
      ∙ all-added.numbers i l

  farthest_held : (i : ℕ) → i < c.size → 1 < (start_cells c).tally i → HoldsFarthest (numbers_of c.size c.dim) c.dim c.samples (far_of c i) i after counts
  farthest_held i l h =
      let some : 1 ≤ samples_of c = omega (arith, count_to_upto (cell_of c) i (samples_of c)) in
      let w = farthest_within (cell_of c) (distance_of c) i (samples_of c) some in
      record {
        number = (farthest (cell_of c) (distance_of c) i (samples_of c)).sample;
        at = (number i l, omega (arith, passed.rows.count_upto));
        inside = omega (arith, mul-le-mul_right c.dim w, passed.rows.whole-samples);
        is = λ j m. refl;
      }

  pub ready : Running (places_of c.size c.dim) (numbers_of c.size c.dim) (terms_of c) c.samples (far_of c) (start_cells c) 0 (unrepaired c) after counts
  unfolding repair_to
  ready = record {
    fit = subst (λ (z : ℕ). Fit (places_of c.size c.dim) c.size c.dim z) (sym after_size) fit;
    small = passed.book.codewords_upto;
    counts = omega (arith, integers);
    room = (omega arith, omega (arith, le-mul_of_pos_right {m = c.dim} c.size passed.book.coordinates));
    reached = omega arith;
    came = refl;
    held = held;
    farthest = farthest_held;
  }

  -- the empty cells are counted in the work
  pub counted : (empty : ℕ) → empty ≡ count_to (λ i. get_or counts i 0) 0 (length counts) → empty ≡ empty_cells (start_cells c).tally c.size
  counted empty e =
      e ∙ ap (count_to (λ i. get_or counts i 0) 0) integers ∙ count_to_ext (λ i. get_or counts i 0) (start_cells c).tally 0 c.size held.tally

-- ---- the policy for empty cells
module _ (c : Call) where
  pub split_repairs : c.policy ≡ SplitHighestDistortion → update_of c ≡ repair_to (terms_of c) (far_of c) (start_cells c) c.size
  unfolding updated
  split_repairs h = rw h

  none_empty : empty_cells (start_cells c).tally c.size ≤ 0 → c.policy ≡ FailClosed → update_of c ≡ repair_to (terms_of c) (far_of c) (start_cells c) c.size
  unfolding updated
  none_empty l h = rw (h, le-ltb 0 (empty_cells (start_cells c).tally c.size) l)

  some_empty : 0 < empty_cells (start_cells c).tally c.size → c.policy ≡ FailClosed → update_of c ≡ refused 14 (whole (empty_cells (start_cells c).tally c.size) ∷ [])
  unfolding updated
  some_empty l h = rw (h, lt-ltb 0 (empty_cells (start_cells c).tally c.size) l)

  pub closed_repairs : (empty : ℕ) → empty ≡ empty_cells (start_cells c).tally c.size → empty ≤ 0 → c.policy ≡ FailClosed → update_of c ≡ repair_to (terms_of c) (far_of c) (start_cells c) c.size
  closed_repairs empty e l h = none_empty (subst (λ (z : ℕ). z ≤ 0) e l) h

  pub closed_refuses : (empty : ℕ) → empty ≡ empty_cells (start_cells c).tally c.size → 0 < empty → c.policy ≡ FailClosed → update_of c ≡ refused 14 (whole empty ∷ [])
  closed_refuses empty e l h = some_empty (subst (λ (z : ℕ). 0 < z) e l) h ∙ ap (λ (z : ℕ). refused 14 (whole z ∷ [])) (sym e)

-- ---- a call that has passed its checks, from its cleared work to its means
module _ (c : Call) (passed : Passed c) (work₀ v : List Float) (counts₀ u : List ℕ) (floats : length work₀ ≡ c.float_work) (integers : length counts₀ ≡ c.integer_work)
    (p : Places) (is-p : p ≡ places_of c.size c.dim) (is-v : v ≡ cleared p (length counts₀) work₀) (is-u : u ≡ replicate (length counts₀) 0) where
  room : length work₀ ≡ 2 * (c.size * c.dim) + 2 * c.size
  room = floats ∙ passed.floats

  tallied : length counts₀ ≡ c.size
  tallied = integers ∙ passed.integers

  is-cleared : v ≡ cleared p c.size work₀
  is-cleared = is-v ∙ ap (λ (n : ℕ). cleared p n work₀) tallied

  pub can_add : Addable c.size c.dim c.codebook c.samples c.assignments v u
  can_add = addable c work₀ v counts₀ u passed.book.coordinates room tallied p is-p is-cleared is-u passed

  module _ (w : List Float) (i : List ℕ) (size : length w ≡ length v) (tallies : length i ≡ length u) where
    all-tallied : length i ≡ c.size
    all-tallied = tallies ∙ can_add.integers

    pub can_divide : Fit p (length i) c.dim (length w)
    can_divide = rw (is-p, all-tallied) (shape c.size c.dim (length w) passed.book.coordinates (size ∙ can_add.floats))

    module _ (after : List Float) (added : Added c 0 v u → Added c (length c.assignments) w i) (is-after : after ≡ means_to p c.dim i w (length i)) where
      sums : Added c (length c.assignments) w i
      sums = added (none_added c work₀ v counts₀ u passed.book.coordinates room tallied p is-p is-cleared is-u)

      is-means : after ≡ means_to p c.dim i w c.size
      is-means = is-after ∙ ap (means_to p c.dim i w) all-tallied

      pub empties : (empty : ℕ) → empty ≡ count_to (λ j. get_or i j 0) 0 (length i) → empty ≡ empty_cells (start_cells c).tally c.size
      empties = counted c passed w i sums (size ∙ can_add.floats) all-tallied p is-p after is-means

      pub begun : update_of c ≡ repair_to (terms_of c) (far_of c) (start_cells c) c.size → update_checks c ≡ completed tt → Under c 0 (unrepaired c) after i
      begun repairs accepted = record { checked = accepted; repairs = repairs; running = ready c passed w i sums (size ∙ can_add.floats) all-tallied p is-p after is-means }

-- ---- what the update has come to
-- one that has passed its checks was not refused by them
pub has_begun : (c : Call) (events : List LloydRepairEvent) (work : List Float) (counts : List ℕ) (s : Step) → UpdateProgress c events work counts s → update_checks c ≡ completed tt → (x : Refusal) → s ≡ Refused x → ⊥
has_begun c events work counts s p k x e = not_completed x tt (sym (subst (UpdateProgress c events work counts) e p) ∙ k)
