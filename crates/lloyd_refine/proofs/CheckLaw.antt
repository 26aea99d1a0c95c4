-- What a refinement that passes its checks has shown. Assumes nothing.
use Rattle.std.specs.Prelude.{Option, None, Some}
use mathlib.Core.Path.{◌≡◌, refl}
use Prim.Native.Nat.{ℕ, ◌+◌, ◌-◌, ◌*◌, ◌≤◌}
use mathlib.Core.Bool.{not}
use mathlib.Core.List.{List, [], ◌∷◌}
use lib.Dec.{eqb, leb}
use lib.ListN.{length}
use lib.Ieee.{Float, of_bits}
use borrow.Author.Tests.{not-false, eqb-true, leb-true}
use Rattle.error.specs.Names.{initial_slice, matrix_slice, samples_slice}
use Rattle.error.specs.Numbers.{Outcome, completed, whole, also}
use Rattle.error.proofs.Outcomes.{passed}
use Rattle.error.proofs.Refusals.{also_first, also_next}
use Rattle.slices.specs.Limit.{first_outside, bounded}
use Rattle.profile.specs.Valid.{Valid}
use Rattle.profile.specs.Checks.{validity}
use Rattle.profile.proofs.Facts as profile-facts
use Rattle.lloyd_search.proofs.LimitLaw.{passed_bounded}
use Rattle.lloyd_refine.specs.declared.TheConstants.{REFINE_LIMIT}
use Rattle.lloyd_refine.specs.Refine.{Job, size_of, dim_of, count_of, restarts_of, refine_limit, room_of, length_checks, value_checks, refine_checks}

pub record Passed (j : Job) : Type 0 where
  pub valid : Valid j.profile
  pub initial_length : length j.initial ≡ size_of j * dim_of j
  pub samples_length : length j.samples ≡ count_of j * dim_of j
  pub matrices_length : length j.matrices ≡ (restarts_of j - 1) * (dim_of j * dim_of j)
  pub codewords_length : j.codewords ≡ size_of j * dim_of j
  pub floats : j.float_work ≡ 3 * (size_of j * dim_of j) + 2 * size_of j
  pub integers : j.integer_work ≡ 2 * size_of j
  pub slots_upto : j.slots ≤ 1048576
  pub initial-within : first_outside refine_limit j.initial ≡ None
  pub samples-within : first_outside refine_limit j.samples ≡ None
  pub matrices_within : first_outside refine_limit j.matrices ≡ None

pub checks_passed : (j : Job) → refine_checks j ≡ completed tt → Passed j
unfolding refine_checks length_checks value_checks
checks_passed j e =
    let n = size_of j in
    let k = dim_of j in
    let v = also_first (validity j.profile j.schema j.algorithm j.log2) _ e in
    let rest = also_next (validity j.profile j.schema j.algorithm j.log2) _ e in
    let l = also_first (length_checks (room_of j) j) (value_checks j) rest in
    let o = passed (not (eqb (length j.initial) (n * k))) 7 (whole 1 ∷ []) _ tt l in
    let p = passed (not (eqb (length j.samples) (count_of j * k))) 7 (whole 2 ∷ []) _ tt o.1 in
    let q = passed (not (eqb (length j.matrices) ((restarts_of j - 1) * (k * k)))) 7 (whole 3 ∷ []) _ tt p.1 in
    let r = passed (not (eqb j.codewords (n * k))) 7 (whole 4 ∷ []) _ tt q.1 in
    let s = passed (not (eqb j.float_work (3 * (n * k) + 2 * n))) 7 (whole 7 ∷ []) _ tt r.1 in
    let t = passed (not (eqb j.integer_work (2 * n))) 7 (whole 8 ∷ []) _ tt s.1 in
    let u = passed (not (leb j.slots 1048576)) 7 (whole 9 ∷ []) _ tt t.1 in
    let w = passed_bounded 1 (first_outside refine_limit j.initial) _ tt (also_next (length_checks (room_of j) j) (value_checks j) rest) in
    let x = passed_bounded 2 (first_outside refine_limit j.samples) _ tt w.1 in
    let y = passed_bounded 3 (first_outside refine_limit j.matrices) _ tt x.1 in
    record {
      valid = profile-facts.valid j.profile j.schema j.algorithm j.log2 v;
      initial_length = eqb-true (length j.initial) (n * k) (not-false _ o.0);
      samples_length = eqb-true (length j.samples) (count_of j * k) (not-false _ p.0);
      matrices_length = eqb-true (length j.matrices) ((restarts_of j - 1) * (k * k)) (not-false _ q.0);
      codewords_length = eqb-true j.codewords (n * k) (not-false _ r.0);
      floats = eqb-true j.float_work (3 * (n * k) + 2 * n) (not-false _ s.0);
      integers = eqb-true j.integer_work (2 * n) (not-false _ t.0);
      slots_upto = leb-true j.slots 1048576 (not-false _ u.0);
      initial-within = w.0;
      samples-within = x.0;
      matrices_within = y.0;
    }

-- ---- the checks, one after another: the values of each slice are one check, by the program's limit
-- the values of one slice
abbrev values_of : ℕ → List Float → Outcome Unit
values_of slice xs = bounded slice (first_outside REFINE_LIMIT xs) (completed tt)

also-bounded : (slice : ℕ) (f : Option ℕ) (rest : Outcome Unit) → also (bounded slice f (completed tt)) rest ≡ bounded slice f rest
also-bounded slice None rest = refl
also-bounded slice (Some place) rest = refl

pub one_by_one : (j : Job) → refine_checks j ≡ also (validity j.profile j.schema j.algorithm j.log2) (also (length_checks (room_of j) j) (also (values_of initial_slice j.initial) (also (values_of samples_slice j.samples) (values_of matrix_slice j.matrices))))
unfolding refine_checks value_checks of_bits
one_by_one j = rw (also-bounded initial_slice (first_outside refine_limit j.initial), also-bounded samples_slice (first_outside refine_limit j.samples))
