-- A round of a refinement, called as an update alone with the codebook
-- that stands before it, passes update's checks and comes to the same.
-- Assumes nothing.
use Rattle.std.specs.Prelude.{Option, None, Some}
use mathlib.Core.Path.{◌≡◌, refl, sym, ap, ◌∙◌}
use Prim.Native.Nat.{ℕ, zero, suc, ◌+◌, ◌-◌, ◌*◌, ◌/◌, ◌%◌, ◌≤◌}
use native.Mathlib.Nat.{mul-mod_left, div-eq_of_eq-mul_left}
use native.Mathlib.Omega.{arith}
use mathlib.Core.Bool.{Bool, true, false, ◌&&◌, cond}
use mathlib.Core.List.{List, [], ◌∷◌}
use lib.Dec.{eqb, leb, ltb}
use lib.ListN.{length, get_or}
use lib.Ieee.{Float, le}
use borrow.Author.Tests.{le-leb, lt-leb, eq-eqb}
use Rattle.error.specs.Numbers.{Outcome, completed, refused, and_then, whole}
use Rattle.error.proofs.Outcomes.{passed, then_completed}
use Rattle.slices.specs.First.{first_where}
use Rattle.slices.specs.Limit.{first_outside}
use Rattle.slices.proofs.FirstLaw.{nowhere}
use Rattle.slices.proofs.TabulateLaw.{length-tabulate}
use Rattle.profile.specs.declared.EmptyCellPolicy.{EmptyCellPolicy}
use Rattle.lloyd_search.specs.Distance.{row_of}
use Rattle.lloyd_search.specs.Shape.{codebook_shaped, samples_shaped}
use Rattle.lloyd_cells.specs.Repair.{Cells, Terms, Repaired, donor_to, least_norm, residual_norm, repair_by, turn, repair_to}
use Rattle.lloyd_cells.specs.Update.{means, farthest_sample, fails_closed, empty_cells, updated}
use Rattle.lloyd_cells.proofs.TallyLaw.{split_by}
use Rattle.lloyd_round.specs.Round.{nearest_cells, cell_of}
use Rattle.lloyd_update.specs.Alone.{Call, update_limit, value_checks, update_checks, update_of, update_alone, codebook_after}
use Rattle.slices.specs.Lists.{words_of}
use Rattle.lloyd_refine.specs.Refine.{Job, size_of, dim_of, count_of, round_terms, round_of, Trained}
use Rattle.lloyd_refine.proofs.CheckLaw.{Passed}
use Rattle.claim_history.specs.History.{call_with}
use Rattle.claim_refinement.specs.Refinement.{round_request}
use Rattle.claim_refinement.proofs.DonorLaw.{cell_below}
use Rattle.claim_refinement.proofs.StandLaw.{samples-within}

-- ---- an update that is completed is completed whatever number refusal 19 would show
module _ (t : Terms) (m : ℕ) (far : ℕ → ℕ → Float) where
  abbrev pub showing : Terms
  showing = record { dim = t.dim; cells = t.cells; restart = t.restart; iteration = t.iteration; free = t.free; shown = m }

  module _ (e : ℕ) (r s : Repaired) where
    repair_shown : (d : Option ℕ) → repair_by t far e r d ≡ completed s → repair_by showing far e r d ≡ completed s
    repair_shown None h = h
    repair_shown (Some c) h = go (le (residual_norm t.dim (far c) (r.cells.word c)) least_norm) (leb t.free (length r.events)) h
      where
        go : (a b : Bool) → cond a (refused 16 (whole c ∷ [])) (cond b (refused 19 (whole t.shown ∷ [])) (completed (split_by t far e r c))) ≡ completed s
            → cond a (refused 16 (whole c ∷ [])) (cond b (refused 19 (whole m ∷ [])) (completed (split_by t far e r c))) ≡ completed s
        go true b k = k
        go false true k = let z : ◌≡◌ {A = ℕ} 0 1 = cc in absurd (omega arith)
        go false false k = k

    turn_shown : turn t far e r ≡ completed s → turn showing far e r ≡ completed s
    turn_shown h = go (eqb (r.cells.tally e) 0) h
      where
        go : (b : Bool) → cond b (repair_by t far e r (donor_to r.cells.tally r.cells.distortion t.cells)) (completed r) ≡ completed s
            → cond b (repair_by showing far e r (donor_to r.cells.tally r.cells.distortion t.cells)) (completed r) ≡ completed s
        go true k = repair_shown (donor_to r.cells.tally r.cells.distortion t.cells) k
        go false k = k

  pub repairs_shown : (st : Cells) (e : ℕ) (r : Repaired) → repair_to t far st e ≡ completed r → repair_to showing far st e ≡ completed r
  unfolding repair_to
  repairs_shown st zero r h = h
  repairs_shown st (suc e) r h =
      let (x, p, q) = then_completed (repair_to t far st e) (turn t far e) r h in
      ap (λ (o : Outcome Repaired). and_then o (turn showing far e)) (repairs_shown st e x p) ∙ turn_shown e x r q

updated_shown : (t : Terms) (m : ℕ) (policy : EmptyCellPolicy) (S : ℕ) (x : ℕ → ℕ → Float) (a : ℕ → ℕ) (old : ℕ → ℕ → Float) (r : Repaired)
    → updated t policy S x a old ≡ completed r → updated (showing t m (farthest_sample t.dim S x a old)) policy S x a old ≡ completed r
unfolding updated
updated_shown t m policy S x a old r h =
    let st = means t.dim S x a old in
    let far = farthest_sample t.dim S x a old in
    let none = empty_cells st.tally t.cells in
    let p = passed (fails_closed policy && ltb 0 none) 14 (whole none ∷ []) (repair_to t far st t.cells) r h in
    rw p.0 (repairs_shown t m far st t.cells r p.1)

-- ---- the checks
all_cells : (k n S : ℕ) (samples : List Float) → 1 ≤ n → (codebook : List Float) → first_where (λ s. leb n (get_or (nearest_cells k n S samples codebook) s 0)) (length (nearest_cells k n S samples codebook)) ≡ None
all_cells k n S samples some codebook =
    let cells = nearest_cells k n S samples codebook in
    nowhere (λ s. leb n (get_or cells s 0)) (length cells) (λ s m. lt-leb n (get_or cells s 0) (cell_below k n S samples codebook some s (rw (length-tabulate S _) at m)))

module _ (j : Job) (pass : Passed j) (r i : ℕ) (t : Trained) (size : length t.codebook ≡ size_of j * dim_of j) (tame : first_outside update_limit t.codebook ≡ None) where
  abbrev pub round_call : Call
  round_call = call_with (round_request j r i t) t.codebook

  abbrev cells : List ℕ
  cells = round_call.assignments

  pub count_is : length j.samples / dim_of j ≡ count_of j
  count_is = div-eq_of_eq-mul_left pass.valid.shape.some_block pass.samples_length

  codebook_shaped_lem : codebook_shaped (size_of j) (dim_of j) (length t.codebook) ≡ true
  codebook_shaped_lem =
      let s = pass.valid.shape in
      let l = s.book_least in
      rw (le-leb 1 (dim_of j) s.some_block, le-leb (dim_of j) 256 s.block_most, le-leb 1 (size_of j) (omega arith), le-leb (size_of j) 1048576 s.book_most, eq-eqb (length t.codebook) (size_of j * dim_of j) size)

  samples_shaped_lem : samples_shaped (dim_of j) (length j.samples) ≡ true
  samples_shaped_lem =
      let whole-samples : length j.samples % dim_of j ≡ 0 = ap (λ (z : ℕ). z % dim_of j) pass.samples_length ∙ mul-mod_left (count_of j) (dim_of j) in
      rw (eq-eqb (length j.samples % dim_of j) 0 whole-samples, count_is, le-leb (count_of j) 10000000 pass.valid.settings.samples_most)

  values_pass : value_checks (size_of j) t.codebook j.samples cells ≡ completed tt
  unfolding value_checks
  values_pass = let l = pass.valid.shape.book_least in rw (tame, samples-within j pass, all_cells (dim_of j) (size_of j) (count_of j) j.samples (omega arith))

  pub checks_pass : update_checks round_call ≡ completed tt
  unfolding update_checks
  checks_pass =
      let n = size_of j in
      let k = dim_of j in
      let few = pass.slots_upto in
      let one_for_each : length cells ≡ length j.samples / k = length-tabulate (count_of j) _ ∙ sym count_is in
      rw (codebook_shaped_lem, samples_shaped_lem, eq-eqb (2 * (n * k) + 2 * n) (2 * (n * k) + 2 * n) refl, eq-eqb n n refl, le-leb round_call.slots 1048576 (omega arith), eq-eqb (length cells) (length j.samples / k) one_for_each, values_pass)

  -- ---- the update
  module _ (u : Repaired) (done : round_of j r i (length t.events) t.codebook ≡ completed u) where
    update_done : update_of round_call ≡ completed u
    update_done =
        rw count_is
        (updated_shown (round_terms j r i (length t.events)) (j.slots - length t.events) j.profile.empty_cell_policy (count_of j) (row_of (dim_of j) j.samples) (cell_of (dim_of j) (size_of j) (count_of j) j.samples t.codebook) (row_of (dim_of j) t.codebook) u done)

    pub alone_done : update_alone round_call ≡ completed u
    alone_done = rw (checks_pass, update_done)

    pub alone_leaves : codebook_after round_call ≡ words_of (size_of j) (dim_of j) u.cells.word
    alone_leaves = rw (checks_pass, update_done)
