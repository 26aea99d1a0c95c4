-- A refinement has at least as many samples as codewords, so that no round of it lacks a donor.
-- Assumes nothing.
use mathlib.Core.Path.{◌≡◌, sym}
use mathlib.Core.Logic.{inl, inr}
use Prim.Native.Nat.{ℕ, zero, suc, ◌≤◌, ◌<◌}
use native.Mathlib.Nat.{le_refl, le_step, lt-suc_self, zero-lt-suc}
use native.Mathlib.Omega.{arith}
use mathlib.Core.Bool.{Bool, true, false, ◌&&◌}
use mathlib.Core.List.{List, [], ◌∷◌}
use lib.Dec.{ltb}
use lib.ListN.{length}
use lib.Ieee.{Float, inf, lt}
use Rattle.error.specs.Numbers.{Value, completed, refused, whole}
use Rattle.error.proofs.Outcomes.{never, refused_later, then_refused}
use Rattle.slices.proofs.TabulateLaw.{get_d_tabulate}
use Rattle.lloyd_search.specs.Distance.{distance, row_of}
use Rattle.lloyd_search.specs.Nearest.{pick, first_least, nearest}
use Rattle.lloyd_cells.specs.Cells.{total}
use Rattle.lloyd_cells.specs.Update.{fails_closed, empty_cells, updated}
use Rattle.lloyd_cells.proofs.CellsLaw.{total_count}
use Rattle.lloyd_cells.proofs.TallyLaw.{donor_found}
use Rattle.lloyd_round.specs.Round.{cell_of, means_of, far_of}
use Rattle.lloyd_refine.specs.Refine.{Job, size_of, dim_of, count_of, restarts_of, iterations_of, refine_checks, round_terms, round_of, Trained, after_round, round_on, rounds_to, trained_from, after_restart, restart_on, restarts_to, refine_of, refinement}
use Rattle.lloyd_refine.proofs.CheckLaw.{Passed, checks_passed}
use Rattle.claim_refinement.proofs.ChecksLaw.{checks_not_15}

-- ---- the nearest codeword is one of the codewords
least_below : (d : ℕ → Float) (n : ℕ) → (first_least d (suc n)).index < suc n
unfolding first_least
least_below d zero = go (lt (d 0) (inf false))
  where
    go : (b : Bool) → (pick b (record { index = 0; distance = d 0 }) (record { index = 0; distance = inf false })).index < 1
    go true = zero-lt-suc 0
    go false = zero-lt-suc 0
least_below d (suc n) = go (lt (d (suc n)) (first_least d (suc n)).distance) (least_below d n)
  where
    go : (b : Bool) → (first_least d (suc n)).index < suc n → (pick b (record { index = suc n; distance = d (suc n) }) (first_least d (suc n))).index < suc (suc n)
    go true l = lt-suc_self (suc n)
    go false l = le_step l

nearest_below : (k n : ℕ) (book : ℕ → ℕ → Float) (x : ℕ → Float) → 1 ≤ n → (nearest k n book x).index < n
nearest_below k zero book x h = absurd (omega arith)
nearest_below k (suc n) book x h = least_below (λ i. distance k x (book i)) n

module _ (k n S : ℕ) (samples codebook : List Float) where
  pub cell_below : 1 ≤ n → (s : ℕ) → s < S → cell_of k n S samples codebook s < n
  cell_below h s l = rw (get_d_tabulate S (λ i. (nearest k n (row_of k codebook) (row_of k samples i)).index) s 0 l) (nearest_below k n (row_of k codebook) (row_of k samples s) h)

  tally_total : 1 ≤ n → total (means_of k n S samples codebook).tally n ≡ S
  tally_total h = total_count (cell_of k n S samples codebook) n S (cell_below h)

module _ (j : Job) (pass : Passed j) where
  -- ---- a round, a restart, all of them
  pub round_donor : (r i used : ℕ) (codebook : List Float) (vs : List Value) → round_of j r i used codebook ≡ refused 15 vs → ⊥
  unfolding updated
  round_donor r i used codebook vs h =
      let n = size_of j in
      let none = empty_cells (means_of (dim_of j) n (count_of j) j.samples codebook).tally n in
      let p = pass.valid in
      let l = p.shape.book_least in
      let m = p.settings.samples_least in
      let all = tally_total (dim_of j) n (count_of j) j.samples codebook (omega arith) in
      donor_found (round_terms j r i used) (far_of (dim_of j) n (count_of j) j.samples codebook) (means_of (dim_of j) n (count_of j) j.samples codebook) n vs (le_refl n) (rw all m)
      (refused_later (fails_closed j.profile.empty_cell_policy && ltb 0 none) 14 (whole none ∷ []) _ 15 vs (λ q. omega arith) h)

  rounds_donor : (r : ℕ) (t : Trained) (i : ℕ) (vs : List Value) → rounds_to j r t i ≡ refused 15 vs → ⊥
  unfolding rounds_to
  rounds_donor r t zero vs h = never 15 vs t (sym h)
  rounds_donor r t (suc i) vs h = elim (then_refused (rounds_to j r t i) (round_on j r i) 15 vs h) [
    | inl p ↦ rounds_donor r t i vs p
    | inr (s, p, q) ↦ elim (then_refused (round_of j r i (length s.events) s.codebook) (λ u. completed (after_round j s u)) 15 vs q) [
      | inl o ↦ round_donor r i (length s.events) s.codebook vs o
      | inr (u, a, o) ↦ never 15 vs (after_round j s u) (sym o)
    ]
  ]

  restarts_donor : (r : ℕ) (vs : List Value) → restarts_to j r ≡ refused 15 vs → ⊥
  unfolding restarts_to
  restarts_donor zero vs h = never 15 vs _ (sym h)
  restarts_donor (suc r) vs h = elim (then_refused (restarts_to j r) (restart_on j r) 15 vs h) [
    | inl p ↦ restarts_donor r vs p
    | inr (b, p, q) ↦ elim (then_refused (rounds_to j r (trained_from j r b) (iterations_of j)) (λ t. completed (after_restart j r b t)) 15 vs q) [
      | inl o ↦ rounds_donor r (trained_from j r b) (iterations_of j) vs o
      | inr (t, a, o) ↦ never 15 vs (after_restart j r b t) (sym o)
    ]
  ]

pub no_donor : (j : Job) (vs : List Value) → refinement j ≡ refused 15 vs → ⊥
no_donor j vs h = elim (then_refused (refine_checks j) (λ (u : Unit). refine_of j) 15 vs h) [
  | inl p ↦ checks_not_15 j vs p
  | inr (u, p, q) ↦ restarts_donor j (checks_passed j p) (restarts_of j) vs q
]
