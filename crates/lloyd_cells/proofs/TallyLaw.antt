-- What the repairs do to the tallies: empty cells are filled in their turn, no cell falls to 0, the total stays; an
-- event for each empty cell. With as many samples as cells there is always a donor.
-- Assumes nothing.
use Rattle.std.specs.Prelude.{Option, None, Some}
use mathlib.Core.Path.{◌≡◌, refl, sym, ap, ◌∙◌, subst}
use mathlib.Core.Logic.{◌⊎◌, inl, inr}
use Prim.Native.Nat.{ℕ, zero, suc, ◌+◌, ◌-◌, ◌<◌, ◌≤◌}
use native.Mathlib.Nat.{le_refl, le_step, lt-suc_self, eq-or-lt_of_le, eq-zero-or-pos, le_of_suc-le-suc}
use native.Mathlib.Omega.{arith}
use native.Mathlib.Decide.{ℕ_discrete, dec_lt}
use mathlib.Core.Bool.{Bool, true, false, cond}
use mathlib.Core.List.{List, [], ◌∷◌, ◌++◌}
use lib.Dec.{eqb, leb}
use lib.ListN.{length, length-append}
use lib.Ieee.{Float, le}
use borrow.Author.Tests.{eqb-true, eqb-false, eq-eqb, ne_eqb}
use Rattle.error.specs.Numbers.{Value, completed, refused, whole}
use Rattle.error.proofs.Outcomes.{then_completed, then_refused}
use Rattle.lloyd_cells.specs.Cells.{count_to, total}
use Rattle.lloyd_cells.specs.Repair.{Cells, Terms, Repaired, donor_to, least_norm, residual_norm, split, event_of, repair_by, turn, repair_to, Tallied}
use Rattle.lloyd_cells.proofs.CellsLaw.{count_to_in, count_to_out, count_to_upto, total_change}
use Rattle.lloyd_cells.proofs.DonorLaw.{donor_plenty, donor_none}

-- ---- one turn
module _ (t : Terms) (far : ℕ → ℕ → Float) (e : ℕ) (r : Repaired) where
  abbrev donor : Option ℕ
  donor = donor_to r.cells.tally r.cells.distortion t.cells

  -- the cells and the events once donor c is split for cell e
  abbrev pub split_by : ℕ → Repaired
  split_by c =
      let norm = residual_norm t.dim (far c) (r.cells.word c) in
      record { cells = split t.dim (far c) norm r.cells c e; events = r.events ++ (event_of t r.cells c e norm ∷ []) }

  repaired : (d : Option ℕ) → donor ≡ d → (s : Repaired) → repair_by t far e r d ≡ completed s → (c : ℕ) × (donor ≡ Some c) × (s ≡ split_by c)
  repaired None q s h = let z : ◌≡◌ {A = ℕ} 0 1 = cc in absurd (omega arith)
  repaired (Some c) q s h = (c, q, tests (le (residual_norm t.dim (far c) (r.cells.word c)) least_norm) (leb t.free (length r.events)) h)
    where
      tests : (a b : Bool) → cond a (refused 16 (whole c ∷ [])) (cond b (refused 19 (whole t.shown ∷ [])) (completed (split_by c))) ≡ completed s → s ≡ split_by c
      tests true b k = let z : ◌≡◌ {A = ℕ} 0 1 = cc in absurd (omega arith)
      tests false true k = let z : ◌≡◌ {A = ℕ} 0 1 = cc in absurd (omega arith)
      tests false false k = cc

  -- a cell with samples is passed over; an empty one is filled by a donor
  pub turn_completed : (s : Repaired) → turn t far e r ≡ completed s
      → ((0 < r.cells.tally e) × (s ≡ r)) ⊎ ((c : ℕ) × (r.cells.tally e ≡ 0) × (donor_to r.cells.tally r.cells.distortion t.cells ≡ Some c) × (s ≡ split_by c))
  turn_completed s h = go (eqb (r.cells.tally e) 0) refl h
    where
      go : (b : Bool) → eqb (r.cells.tally e) 0 ≡ b → cond b (repair_by t far e r donor) (completed r) ≡ completed s
          → ((0 < r.cells.tally e) × (s ≡ r)) ⊎ ((c : ℕ) × (r.cells.tally e ≡ 0) × (donor ≡ Some c) × (s ≡ split_by c))
      go true q k = let (c, d, x) = repaired donor refl s k in inr (c, eqb-true (r.cells.tally e) 0 q, d, x)
      go false q k = let o = eqb-false (r.cells.tally e) 0 q in inl (omega arith, cc)

  unrepaired : (d : Option ℕ) → donor ≡ d → (vs : List Value) → repair_by t far e r d ≡ refused 15 vs → donor ≡ None
  unrepaired None q vs h = q
  unrepaired (Some c) q vs h = absurd (tests (le (residual_norm t.dim (far c) (r.cells.word c)) least_norm) (leb t.free (length r.events)) h)
    where
      tests : (a b : Bool) → cond a (refused 16 (whole c ∷ [])) (cond b (refused 19 (whole t.shown ∷ [])) (completed (split_by c))) ≡ refused 15 vs → ⊥
      tests true b k = let z : ◌≡◌ {A = ℕ} 16 15 = cc in omega arith
      tests false true k = let z : ◌≡◌ {A = ℕ} 19 15 = cc in omega arith
      tests false false k = let z : ◌≡◌ {A = ℕ} 0 1 = cc in omega arith

  -- 15 comes for an empty cell where no cell has tally above 1
  pub turn_no_donor : (vs : List Value) → turn t far e r ≡ refused 15 vs → (r.cells.tally e ≡ 0) × (donor_to r.cells.tally r.cells.distortion t.cells ≡ None)
  turn_no_donor vs h = go (eqb (r.cells.tally e) 0) refl h
    where
      go : (b : Bool) → eqb (r.cells.tally e) 0 ≡ b → cond b (repair_by t far e r donor) (completed r) ≡ refused 15 vs → (r.cells.tally e ≡ 0) × (donor ≡ None)
      go true q k = (eqb-true (r.cells.tally e) 0 q, unrepaired donor refl vs k)
      go false q k = let z : ◌≡◌ {A = ℕ} 0 1 = cc in absurd (omega arith)

-- ---- the tallies after one turn
-- cell c gives a sample to cell e
abbrev given : (ℕ → ℕ) → ℕ → ℕ → ℕ → ℕ
given u c e i = cond (eqb i c) (u c - 1) (cond (eqb i e) 1 (u i))

module _ (u : ℕ → ℕ) (c e : ℕ) (none : u e ≡ 0) (plenty : 1 < u c) where
  given_donor : given u c e c ≡ u c - 1
  given_donor = rw (eq-eqb c c refl)

  given_empty : given u c e e ≡ 1
  given_empty = rw (ne_eqb e c (λ q. apart q), eq-eqb e e refl)
    where
      apart : e ≡ c → ⊥
      apart q = let k = ap u q in omega arith

  given_other : (i : ℕ) → (i ≡ c → ⊥) → (i ≡ e → ⊥) → given u c e i ≡ u i
  given_other i o q = rw (ne_eqb i c o, ne_eqb i e q)

  -- the donor alone
  abbrev less : ℕ → ℕ
  less i = cond (eqb i c) (u c - 1) (u i)

  given_total : (n : ℕ) → c < n → e < n → total (given u c e) n ≡ total u n
  given_total n l m =
      let a = total_change u less c n l (λ j h o. rw (ne_eqb j c o)) in
      let b = total_change less (given u c e) e n m (λ j h o. rw (ne_eqb j e o)) in
      let f : less c ≡ u c - 1 = rw (eq-eqb c c refl) in
      let g : less e ≡ u e = rw (ne_eqb e c (λ q. let k = ap u q in omega arith)) in
      let h = given_empty in
      omega arith

module _ (n e : ℕ) (t u : ℕ → ℕ) (g : Tallied n e t u) where
  passed : 0 < u e → Tallied n (suc e) t u
  passed h = record {
    filled = λ i l z. elim (eq-or-lt_of_le (le_of_suc-le-suc l)) [
      | inl q ↦ let y = g.empty e (le_refl e) (subst (λ (k : ℕ). t k ≡ 0) q z) in absurd (omega arith)
      | inr m ↦ g.filled i m z
    ];
    empty = λ i l z. g.empty i (omega arith) z;
    some = g.some;
    all = g.all;
  }

  module _ (c : ℕ) (none : u e ≡ 0) (plenty : 1 < u c) (cn : c < n) (en : e < n) where
    give_filled : (i : ℕ) → i < suc e → t i ≡ 0 → given u c e i ≡ 1
    give_filled i l z = elim (eq-or-lt_of_le (le_of_suc-le-suc l)) [
      | inl q ↦ rw q (given_empty u c e none plenty)
      | inr m ↦ let y = g.filled i m z in given_other u c e none plenty i (λ q. let k = ap u q in omega arith) (λ q. omega arith) ∙ y
    ]

    give_empty : (i : ℕ) → suc e ≤ i → t i ≡ 0 → given u c e i ≡ 0
    give_empty i l z = let y = g.empty i (omega arith) z in given_other u c e none plenty i (λ q. let k = ap u q in omega arith) (λ q. omega arith) ∙ y

    give_some : (i : ℕ) → 0 < t i → (0 < given u c e i) × (given u c e i ≤ t i)
    give_some i h = elim (ℕ_discrete i c) [
      | yes q ↦ let k = ap u q in let s = g.some i h in rw (ap (given u c e) q ∙ given_donor u c e none plenty) (omega arith, omega arith)
      | no o ↦ rw (given_other u c e none plenty i o (λ q. let k = ap u q in let s = g.some i h in omega arith)) (g.some i h)
    ]

    gave : Tallied n (suc e) t (given u c e)
    gave = record { filled = give_filled; empty = give_empty; some = give_some; all = given_total u c e none plenty n cn en ∙ g.all }

-- ---- the tallies after the turns of the first e cells
module _ (t : Terms) (far : ℕ → ℕ → Float) (st : Cells) where
  -- one turn more
  tallied_turn : (e : ℕ) (r s : Repaired) → e < t.cells → Tallied t.cells e st.tally r.cells.tally → turn t far e r ≡ completed s → Tallied t.cells (suc e) st.tally s.cells.tally
  tallied_turn e r s l g h = elim (turn_completed t far e r s h) [
    | inl (p, q) ↦ subst (λ (x : Repaired). Tallied t.cells (suc e) st.tally x.cells.tally) (sym q) (passed t.cells e st.tally r.cells.tally g p)
    | inr (c, z, d, q) ↦
        let k = donor_plenty r.cells.tally r.cells.distortion t.cells c d in
        subst (λ (x : Repaired). Tallied t.cells (suc e) st.tally x.cells.tally) (sym q) (gave t.cells e st.tally r.cells.tally g c z k.1 k.0 l)
  ]

  pub tallied : (e : ℕ) (r : Repaired) → e ≤ t.cells → repair_to t far st e ≡ completed r → Tallied t.cells e st.tally r.cells.tally
  unfolding repair_to
  tallied zero r l h =
      let q : record { cells = st; events = [] } ≡ r = cc in
      subst (λ (x : Repaired). Tallied t.cells 0 st.tally x.cells.tally) q
      (record { filled = λ i m z. absurd (omega arith); empty = λ i m z. z; some = λ i m. (m, le_refl (st.tally i)); all = refl })
  tallied (suc e) r l h =
      let (x, p, q) = then_completed (repair_to t far st e) (turn t far e) r h in
      tallied_turn e x r l (tallied e x (omega arith) p) q

  -- an event for each empty cell
  events_turn : (e : ℕ) (r s : Repaired) → Tallied t.cells e st.tally r.cells.tally → length r.events ≡ count_to st.tally 0 e → turn t far e r ≡ completed s
      → length s.events ≡ count_to st.tally 0 (suc e)
  events_turn e r s g n h = elim (turn_completed t far e r s h) [
    | inl (p, q) ↦ ap (λ (x : Repaired). length x.events) q ∙ n ∙ sym (count_to_out st.tally 0 e (λ z. let y = g.empty e (le_refl e) z in omega arith))
    | inr (c, z, d, q) ↦
        ap (λ (x : Repaired). length x.events) q
        ∙ length-append r.events (event_of t r.cells c e (residual_norm t.dim (far c) (r.cells.word c)) ∷ [])
        ∙ ap (λ (x : ℕ). x + 1) n
        ∙ sym (count_to_in st.tally 0 e (stood z))
  ]
    where
      stood : r.cells.tally e ≡ 0 → st.tally e ≡ 0
      stood z = elim (eq-zero-or-pos (st.tally e)) [ inl y ↦ y | inr m ↦ let k = g.some e m in absurd (omega arith) ]

  pub events_count : (e : ℕ) (r : Repaired) → e ≤ t.cells → repair_to t far st e ≡ completed r → length r.events ≡ count_to st.tally 0 e
  unfolding repair_to count_to
  events_count zero r l h = let q : record { cells = st; events = [] } ≡ r = cc in ap (λ (x : Repaired). length x.events) (sym q)
  events_count (suc e) r l h =
      let (x, p, q) = then_completed (repair_to t far st e) (turn t far e) r h in
      events_turn e x r (tallied e x (omega arith) p) (events_count e x (omega arith) p) q

  pub events_upto : (e : ℕ) (r : Repaired) → e ≤ t.cells → repair_to t far st e ≡ completed r → length r.events ≤ e
  events_upto e r l h = let a = events_count e r l h in let b = count_to_upto st.tally 0 e in omega arith

-- ---- in document 01's words
module _ {n e : ℕ} {t u : ℕ → ℕ} (g : Tallied n e t u) where
  -- every cell whose turn has come has a sample
  pub tallied_some : (i : ℕ) → i < e → 0 < u i
  tallied_some i l = elim (eq-zero-or-pos (t i)) [ inl z ↦ let y = g.filled i l z in omega arith | inr m ↦ (g.some i m).0 ]

  -- no tally rises but from 0 to 1
  pub tallied_upto : (i : ℕ) → (u i ≤ t i) ⊎ ((t i ≡ 0) × (i < e) × (u i ≡ 1))
  tallied_upto i = elim (eq-zero-or-pos (t i)) [
    | inl z ↦ elim (dec_lt i e) [ yes m ↦ inr (z, m, g.filled i m z) | no o ↦ let y = g.empty i (omega arith) z in inl (omega arith) ]
    | inr m ↦ inl (g.some i m).1
  ]

-- ---- a donor is always found
total_upto : (u : ℕ → ℕ) (n : ℕ) → ((i : ℕ) → i < n → u i ≤ 1) → total u n ≤ n
unfolding total
total_upto u zero h = omega arith
total_upto u (suc n) h = let a = total_upto u n (λ i l. h i (le_step l)) in let b = h n (lt-suc_self n) in omega arith

-- n cells of tally at most 1, one of them empty
pub total_below : (u : ℕ → ℕ) (n e : ℕ) → ((i : ℕ) → i < n → u i ≤ 1) → e < n → u e ≡ 0 → total u n < n
unfolding total
total_below u zero e h l z = absurd (omega arith)
total_below u (suc n) e h l z = elim (eq-or-lt_of_le (le_of_suc-le-suc l)) [
  | inl q ↦ let a = total_upto u n (λ i m. h i (le_step m)) in let b = ap u q in omega arith
  | inr m ↦ let a = total_below u n e (λ i k. h i (le_step k)) m z in let b = h n (lt-suc_self n) in omega arith
]

-- with at least as many samples as cells
pub donor_found : (t : Terms) (far : ℕ → ℕ → Float) (st : Cells) (e : ℕ) (vs : List Value) → e ≤ t.cells → t.cells ≤ total st.tally t.cells → repair_to t far st e ≡ refused 15 vs → ⊥
unfolding repair_to
donor_found t far st zero vs l m h = let z : ◌≡◌ {A = ℕ} 0 1 = cc in omega arith
donor_found t far st (suc e) vs l m h = elim (then_refused (repair_to t far st e) (turn t far e) 15 vs h) [
  | inl p ↦ donor_found t far st e vs (omega arith) m p
  | inr (x, p, q) ↦
      let (z, d) = turn_no_donor t far e x vs q in
      let g = (tallied t far st e x (omega arith) p).all in
      let b = total_below x.cells.tally t.cells e (donor_none x.cells.tally x.cells.distortion t.cells d) l z in
      omega arith
]

-- ---- no cell has too many
total_least : (u : ℕ → ℕ) (n : ℕ) → ((i : ℕ) → i < n → 0 < u i) → n ≤ total u n
unfolding total
total_least u zero h = omega arith
total_least u (suc n) h = let a = total_least u n (λ i l. h i (le_step l)) in let b = h n (lt-suc_self n) in omega arith

-- of n cells that all have a sample, one has at most all but n - 1 of them
pub total_share : (u : ℕ → ℕ) (n i : ℕ) → ((j : ℕ) → j < n → 0 < u j) → i < n → u i + n ≤ total u n + 1
unfolding total
total_share u zero i h l = absurd (omega arith)
total_share u (suc n) i h l = elim (eq-or-lt_of_le (le_of_suc-le-suc l)) [
  | inl q ↦ let a = total_least u n (λ j m. h j (le_step m)) in let b = ap u q in omega arith
  | inr m ↦ let a = total_share u n i (λ j k. h j (le_step k)) m in let b = h n (lt-suc_self n) in omega arith
]
