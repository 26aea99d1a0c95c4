-- What an update's checks leave once they have passed: an assignment
-- for each sample, all of them cells; and that no check answers 15.
-- Assumes nothing.
use Rattle.std.specs.Prelude.{Option, None, Some}
use mathlib.Core.Path.{◌≡◌, sym}
use Prim.Native.Nat.{ℕ, ◌+◌, ◌*◌, ◌/◌, ◌<◌}
use native.Mathlib.Omega.{arith}
use mathlib.Core.Bool.{Bool, not, cond}
use mathlib.Core.List.{List}
use lib.Dec.{T, T_not, eqb, leb}
use lib.Ieee.Fits.{eq→eqb}
use lib.ListN.{length, get_or}
use Rattle.error.specs.Numbers.{Value, Outcome, completed, refused}
use Rattle.error.proofs.Outcomes.{never, refused_later}
use Rattle.slices.specs.First.{first_where}
use Rattle.slices.specs.Limit.{first_outside, bounded}
use Rattle.lloyd_search.specs.Shape.{codebook_shaped, samples_shaped}
use Rattle.lloyd_update.specs.Alone.{Call, update_limit, only_cells, value_checks, update_checks}
use Rattle.lloyd_update.proofs.CheckLaw.{checks_passed}

-- ---- what never answers 15
module _ {A : Type 0} where
  abbrev pub Never : Outcome A → Type 0
  Never o = (vs : List Value) → o ≡ refused 15 vs → ⊥

  pub never_done : (x : A) → Never (completed x)
  never_done x vs h = never 15 vs x (sym h)

  pub never_cond : (b : Bool) (n : ℕ) (us : List Value) (rest : Outcome A) → T (not (eqb n 15)) → Never rest → Never (cond b (refused n us) rest)
  never_cond b n us rest o k vs h = k vs (refused_later b n us rest 15 vs (λ e. T_not (eqb n 15) o (eq→eqb e)) h)

  pub never_bounded : (slice : ℕ) (f : Option ℕ) (rest : Outcome A) → Never rest → Never (bounded slice f rest)
  never_bounded slice None rest k vs h = k vs h
  never_bounded slice (Some i) rest k vs h = let z : ◌≡◌ {A = ℕ} 18 15 = cc in omega arith

never_assigned : (cells : List ℕ) (n : ℕ) (f : Option ℕ) → Never (only_cells cells n f)
never_assigned cells n None vs h = never_done tt vs h
never_assigned cells n (Some i) vs h = let z : ◌≡◌ {A = ℕ} 11 15 = cc in omega arith

-- ---- all the checks
module _ (c : Call) where
  -- an assignment for each sample
  pub one_for_each : update_checks c ≡ completed tt → length c.assignments ≡ length c.samples / c.dim
  one_for_each h = (checks_passed c h).each

  -- each of them a cell
  pub all_cells : update_checks c ≡ completed tt → (s : ℕ) → s < length c.assignments → get_or c.assignments s 0 < c.size
  all_cells h = (checks_passed c h).cells

  pub checks_not_15 : (us : List Value) → update_checks c ≡ refused 15 us → ⊥
  unfolding update_checks value_checks
  checks_not_15 =
      never_cond (not (codebook_shaped c.size c.dim (length c.codebook))) 7 _ _ tt
      (never_cond (not (samples_shaped c.dim (length c.samples))) 7 _ _ tt
      (never_cond (not (eqb c.float_work (2 * (c.size * c.dim) + 2 * c.size))) 7 _ _ tt
      (never_cond (not (eqb c.integer_work c.size)) 7 _ _ tt
      (never_cond (not (leb c.slots 1048576)) 7 _ _ tt
      (never_cond (not (eqb (length c.assignments) (length c.samples / c.dim))) 7 _ _ tt
      (never_bounded 1 (first_outside update_limit c.codebook) _
      (never_bounded 2 (first_outside update_limit c.samples) _
      (never_assigned c.assignments c.size (first_where (λ s. leb c.size (get_or c.assignments s 0)) (length c.assignments))))))))))
