-- `lloyd_update::check_values` meets its contract: the two slices of
-- values, and then no assignment passed is out of range. Assumes nothing.
use Rattle.std.proofs.Common.{◌≡◌, ℕ, ◌<◌, ◌≤◌, Bool, false, leb, List, [], ◌∷◌, length, get_or, refl, sym, ap, ◌∙◌, arith, le-leb, Option, None, Some, Result}
use Rattle.std.specs.Result.{IsErrAnd}
use lib.Ieee.{Float, of_bits}
use Rattle.error.specs.declared.Refusal.{Refusal}
use Rattle.error.specs.Numbers.{Outcome, completed, refused, refusal, outcome, also, whole}
use Rattle.error.proofs.Refusals.{also_exit}
use Rattle.slices.specs.Limit.{first_outside, bounded}
use Rattle.slices.proofs.FirstLaw.{nowhere, at_first}
use Rattle.lloyd_search.proofs.LimitLaw.{passed_bounded}
use Rattle.lloyd_update.specs.Alone.{update_limit, value_checks}
use Rattle.lloyd_update.proofs.check_values.Goals as goal

-- a check of values that refuses is the answer, whatever comes after it
bounded_also : (slice : ℕ) (f : Option ℕ) (rest : Outcome Unit) → also (bounded slice f (completed tt)) rest ≡ bounded slice f rest
bounded_also slice None rest = refl
bounded_also slice (Some place) rest = refl

bounded_exit : (y : Result Unit Refusal) (r : Refusal) (slice : ℕ) (f : Option ℕ) (rest : Outcome Unit) → IsErrAnd y (λ e. e ≡ r) → refusal {A = Unit} r ≡ bounded slice f (completed tt) → outcome y ≡ bounded slice f rest
bounded_exit y r slice f rest h e = also_exit y r (bounded slice f (completed tt)) rest h e ∙ bounded_also slice f rest

module _ (n : ℕ) (codebook samples : List Float) (assignments : List ℕ) where
  abbrev no_cell_lem : ℕ → Bool
  no_cell_lem s = leb n (get_or assignments s 0)

  -- what the loop comes to where all values are within the limit
  module _ (p : first_outside update_limit codebook ≡ None) (q : first_outside update_limit samples ≡ None) where
    no_cell : (s : ℕ) → s < length assignments → ((j : ℕ) → j < s → no_cell_lem j ≡ false) → n ≤ get_or assignments s 0 → refused 11 (whole (get_or assignments s 0) ∷ whole n ∷ []) ≡ value_checks n codebook samples assignments
    unfolding value_checks
    no_cell s l h t = rw (p, q, at_first no_cell_lem (length assignments) s l h (le-leb n (get_or assignments s 0) t))

    all_cells : ((j : ℕ) → j < length assignments → no_cell_lem j ≡ false) → completed tt ≡ value_checks n codebook samples assignments
    unfolding value_checks
    all_cells h = rw (p, q, nowhere no_cell_lem (length assignments) h)

pub returns-in_err-check_within : goal.returns-in_err-check_within
unfolding value_checks of_bits
returns-in_err-check_within c = bounded_exit _ _ 1 (first_outside update_limit c.args.codebook.now) _ c.from_residual.ensures.1 (sym (ap outcome c.in_err-check_within.was) ∙ c.check_within.ensures)

pub returns-in_err-check_within-2 : goal.returns-in_err-check_within-2
unfolding value_checks of_bits
returns-in_err-check_within-2 c =
    let a = c.args in
    let clean = (passed_bounded 1 (first_outside update_limit a.codebook.now) (completed tt) tt (sym c.check_within.ensures ∙ ap outcome c.in_ok-check_within.was)).0 in
    rw clean (bounded_exit _ _ 2 (first_outside update_limit a.t.samples.now) _ c.from_residual-in_err-check_within-2.ensures.1 (sym (ap outcome c.in_err-check_within-2.was) ∙ c.check_within-2.ensures))

pub returns-then-n-cell : goal.returns-then-n-cell
unfolding of_bits
returns-then-n-cell c =
    let a = c.args in
    let l = c.loop-cell in
    no_cell a.t.codebook_size a.codebook.now a.t.samples.now a.t.assignments.now
    (passed_bounded 1 (first_outside update_limit a.codebook.now) (completed tt) tt (sym c.check_within.ensures ∙ ap outcome c.in_ok-check_within.was)).0
    (passed_bounded 2 (first_outside update_limit a.t.samples.now) (completed tt) tt (sym c.check_within-2.ensures ∙ ap outcome c.in_ok-check_within-2.was)).0
    l.cell-index c.loop-cell-test.true l.invariant c.if-n-cell.true

pub returns : goal.returns
unfolding of_bits
returns c =
    let a = c.args in
    all_cells a.t.codebook_size a.codebook.now a.t.samples.now a.t.assignments.now
    (passed_bounded 1 (first_outside update_limit a.codebook.now) (completed tt) tt (sym c.check_within.ensures ∙ ap outcome c.in_ok-check_within.was)).0
    (passed_bounded 2 (first_outside update_limit a.t.samples.now) (completed tt) tt (sym c.check_within-2.ensures ∙ ap outcome c.in_ok-check_within-2.was)).0
    (λ j h. c.loop-cell.invariant j (omega arith))
