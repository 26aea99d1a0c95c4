-- The events of the repairs, one after another: each tells a repair that was due, their empty cells rise, and each cell
-- without a sample has its event. Assumes nothing.
use Rattle.std.specs.Prelude.{Some}
use mathlib.Core.Path.{◌≡◌, refl, sym, ap, ◌∙◌, subst}
use mathlib.Core.Logic.{inl, inr}
use Prim.Native.Nat.{ℕ, zero, suc, ◌<◌, ◌≤◌, zero-le}
use native.Mathlib.Nat.{le_step, le_of_lt, le_refl, lt-suc_self, eq-or-lt_of_le, le_of_suc-le-suc}
use native.Mathlib.Omega.{arith}
use mathlib.Core.Bool.{false, cond}
use mathlib.Core.List.{List, [], ◌∷◌, ◌++◌}
use lib.Dec.{leb}
use lib.ListN.{length, get_or, length-append, get_or-append}
use lib.Ieee.{binary64, round, le}
use borrow.Author.Tests.{le-leb, lt-leb}
use Rattle.error.specs.Numbers.{completed}
use Rattle.error.proofs.Outcomes.{then_completed}
use Rattle.lloyd_events.specs.declared.LloydRepairEvent.{LloydRepairEvent}
use Rattle.lloyd_events.specs.Events.{zero_event}
use Rattle.lloyd_cells.specs.Repair.{Repaired, epsilon, least_norm, residual_norm, event_of, turn, repair_to}
use Rattle.lloyd_cells.proofs.TallyLaw.{split_by, turn_completed, tallied}
use Rattle.lloyd_repair.proofs.TurnLaw.{is_empty}
use Rattle.lloyd_update.specs.Alone.{Call, update_checks, terms_of}
use Rattle.lloyd_update.specs.Progress.{start_cells, far_of}
use Rattle.claim_rule.specs.Rule.{assigned, Stands, Repair, event_at, Repairs, Due}
use Rattle.claim_rule.proofs.StandsLaw.{stands, donor_in, norm, by_completed}
use Rattle.claim_rule.proofs.DueLaw.{farthest_of, Open, unassigned, donor, above}

-- ---- a list with one element more
get_d_last : {A : Type 0} (xs : List A) (x z : A) → get_or (xs ++ (x ∷ [])) (length xs) z ≡ x
get_d_last [] x z = refl
get_d_last (y ∷ ys) x z = get_d_last ys x z

module _ (c : Call) (e : ℕ) (r s : Repaired) (h : Repairs c e r) (next : Stands c (suc e) s) where
  -- cell e has a sample
  passed : (assigned c e ≡ 0 → ⊥) → s ≡ r → Repairs c (suc e) s
  passed o same = subst (λ (x : Repaired). Repairs c (suc e) x) (sym same) (record {
    stands = subst (Stands c (suc e)) same next;
    below = λ m l. le_step (h.below m l);
    rising = h.rising;
    each = λ i l z. h.each i (elim (eq-or-lt_of_le (le_of_suc-le-suc l)) [ inl q ↦ absurd (o (subst (λ (k : ℕ). assigned c k ≡ 0) q z)) | inr m ↦ m ]) z;
    state = h.state;
    first = h.first;
    repairs = h.repairs;
    last = h.last;
  })

  -- it was repaired
  module _ (x : LloydRepairEvent) (own : x.empty_cell ≡ e) (made : Repair c x r s) where
    abbrev many : ℕ
    many = length r.events

    size : length s.events ≡ suc many
    size = let k = length-append r.events (x ∷ []) in ap length made.told ∙ omega arith

    old : (m : ℕ) → m < many → event_at s m ≡ event_at r m
    old m l = rw made.told (get_or-append r.events (x ∷ []) zero_event m l)

    new : event_at s many ≡ x
    new = rw made.told (get_d_last r.events x zero_event)

    every : (P : ℕ → LloydRepairEvent → Type 0) → ((m : ℕ) → m < many → P m (event_at r m)) → P many x → (m : ℕ) → m < length s.events → P m (event_at s m)
    every P f g m l = let k = size in elim (eq-or-lt_of_le (le_of_suc-le-suc {n = m} {m = many} (omega arith))) [
      | inl z ↦ subst (λ (i : ℕ). P i (event_at s i)) (sym z) (subst (P many) (sym new) g)
      | inr u ↦ subst (P m) (sym (old m u)) (f m u)
    ]

    each : (i : ℕ) → i < suc e → assigned c i ≡ 0 → (m : ℕ) × (m < length s.events) × ((event_at s m).empty_cell ≡ i)
    each i l z = let k = size in elim (eq-or-lt_of_le (le_of_suc-le-suc l)) [
      | inl q ↦ (many, omega arith, ap (λ (y : LloydRepairEvent). y.empty_cell) new ∙ own ∙ sym q)
      | inr m ↦ let (n, u, v) = h.each i m z in (n, omega arith, ap (λ (y : LloydRepairEvent). y.empty_cell) (old n u) ∙ v)
    ]

    -- s comes after the states before
    abbrev state : ℕ → Repaired
    state m = cond (leb m many) (h.state m) s

    earlier : (m : ℕ) → m ≤ many → state m ≡ h.state m
    earlier m l = rw (le-leb m many l)

    latest : state (suc many) ≡ s
    latest = rw (lt-leb (suc many) many (lt-suc_self many))

    repaired : Repairs c (suc e) s
    repaired = record {
      stands = next;
      below = every (λ (m : ℕ) (y : LloydRepairEvent). y.empty_cell < suc e) (λ m l. le_step (h.below m l)) (rw own (lt-suc_self e));
      rising = λ m n l u.
          every (λ (n : ℕ) (y : LloydRepairEvent). m < n → (event_at s m).empty_cell < y.empty_cell) (λ n v w. rw (old m (omega arith)) (h.rising m n w v))
          (λ w. rw (old m w, own) (h.below m w)) n u l;
      each = each;
      state = state;
      first = earlier 0 zero-le ∙ h.first;
      repairs =
          every (λ (m : ℕ) (y : LloydRepairEvent). Repair c y (state m) (state (suc m))) (λ m l. rw (earlier m (le_of_lt l), earlier (suc m) l) (h.repairs m l))
          (rw (earlier many (le_refl many) ∙ h.last, latest) made);
      last = ap state size ∙ latest;
    }

-- the epsilon of a split is the value nearest to 1.0e-6
nearest-epsilon : epsilon ≡ round binary64 false 1 1000000
unfolding round
nearest-epsilon = refl

module _ (c : Call) (pass : update_checks c ≡ completed tt) (allowed : Open c) where
  abbrev event_by : ℕ → Repaired → ℕ → LloydRepairEvent
  event_by e r d = event_of (terms_of c) r.cells d e (residual_norm c.dim (far_of c d) (r.cells.word d))

  -- the turn of cell e, which is empty, came to s
  module _ (e : ℕ) (r s : Repaired) (l : e < c.size) (came : repair_to (terms_of c) (far_of c) (start_cells c) e ≡ completed r) (empty : r.cells.tally e ≡ 0) where
    repair : (d : ℕ) → donor_in (terms_of c) r ≡ Some d → le (norm (terms_of c) (far_of c) e r d) least_norm ≡ false → length r.events < c.slots → s ≡ split_by (terms_of c) (far_of c) e r d
        → Repair c (event_by e r d) r s
    repair d found wide slot is = record {
      within = l;
      policy = allowed e l (unassigned c pass e r l came empty);
      none = unassigned c pass e r l came empty;
      stands = stands c e r came;
      empty = empty;
      far = farthest_of c d;
      donor = donor c pass e r l came empty d found;
      restart = refl;
      iteration = refl;
      count = refl;
      distortion = refl;
      norm = refl;
      epsilon = nearest-epsilon;
      above = above c pass e r l came empty d found wide;
      slot = slot;
      parted = ap (λ (x : Repaired). x.cells) is;
      told = ap (λ (x : Repaired). x.events) is;
    }

    one_more : Stands c (suc e) s → turn (terms_of c) (far_of c) e r ≡ completed s → Repairs c e r → Repairs c (suc e) s
    one_more next h before =
        let (d, found, wide, slot, is) = by_completed (terms_of c) (far_of c) e r (donor_in (terms_of c) r) refl s (sym (is_empty (terms_of c) (far_of c) (start_cells c) e r empty) ∙ h) in
        repaired c e r s before next (event_by e r d) refl (repair d found wide slot is)

  pub made : (e : ℕ) (r : Repaired) → e ≤ c.size → repair_to (terms_of c) (far_of c) (start_cells c) e ≡ completed r → Repairs c e r
  unfolding repair_to
  made zero r l h =
      let q : record { cells = start_cells c; events = [] } ≡ r = cc in
      subst (Repairs c 0) q
      (record {
        stands = stands c 0 (record { cells = start_cells c; events = [] }) refl;
        below = λ m u. absurd (omega arith);
        rising = λ m n u v. absurd (omega arith);
        each = λ i u z. absurd (omega arith);
        state = λ m. record { cells = start_cells c; events = [] };
        first = refl;
        repairs = λ m u. absurd (omega arith);
        last = refl;
      })
  made (suc e) r l h =
      let (x, p, q) = then_completed (repair_to (terms_of c) (far_of c) (start_cells c) e) (turn (terms_of c) (far_of c) e) r h in
      let before = made e x (le_of_lt l) p in
      elim (turn_completed (terms_of c) (far_of c) e x r q) [
        | inl (m, s) ↦ passed c e x r before (stands c (suc e) r h) (λ z. let k = (tallied (terms_of c) (far_of c) (start_cells c) e x (le_of_lt l) p).empty e (le_refl e) z in omega arith) s
        | inr (d, z, f, s) ↦ one_more e x r l p z (stands c (suc e) r h) q before
      ]

  -- an empty cell whose turn has come
  pub due : (e : ℕ) (r : Repaired) → e < c.size → repair_to (terms_of c) (far_of c) (start_cells c) e ≡ completed r → r.cells.tally e ≡ 0 → Due c e r
  due e r l came empty =
      let none = unassigned c pass e r l came empty in
      record { within = l; policy = allowed e l none; none = none; made = made e r (le_of_lt l) came; empty = empty }
