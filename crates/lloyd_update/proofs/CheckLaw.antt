-- What a call that passes the checks of an update has shown. Assumes nothing.
use Rattle.std.proofs.Common.{◌≡◌, ℕ, ◌+◌, ◌*◌, ◌/◌, ◌<◌, ◌≤◌, not, eqb, leb, List, [], ◌∷◌, length, get_or, refl, eqb-true, leb-false, leb-true, Option, None, Some}
use borrow.Author.Tests.{not-false}
use Rattle.error.specs.Numbers.{completed, whole}
use Rattle.error.proofs.Outcomes.{never, passed}
use Rattle.slices.specs.First.{first_where}
use Rattle.slices.specs.Limit.{first_outside}
use Rattle.slices.proofs.FirstLaw.{none_before}
use Rattle.lloyd_search.specs.Shape.{codebook_shaped, samples_shaped}
use Rattle.lloyd_search.proofs.ShapeLaw.{Codebook, Samples, codebook_shape, samples_shape}
use Rattle.lloyd_search.proofs.LimitLaw.{passed_bounded}
use Rattle.lloyd_update.specs.Alone.{Call, update_limit, only_cells, value_checks, update_checks}

pub record Passed (c : Call) : Type 0 where
  pub book : Codebook c.size c.dim (length c.codebook)
  pub rows : Samples c.dim (length c.samples)
  pub floats : c.float_work ≡ 2 * (c.size * c.dim) + 2 * c.size
  pub integers : c.integer_work ≡ c.size
  pub room : c.slots ≤ 1048576
  pub each : length c.assignments ≡ length c.samples / c.dim
  pub codebook_within : first_outside update_limit c.codebook ≡ None
  pub samples-within : first_outside update_limit c.samples ≡ None
  pub cells : (s : ℕ) → s < length c.assignments → get_or c.assignments s 0 < c.size

all_assigned : (cells : List ℕ) (n : ℕ) (f : Option ℕ) → only_cells cells n f ≡ completed tt → f ≡ None
all_assigned cells n None e = refl
all_assigned cells n (Some s) e = absurd (never 11 _ tt e)

pub checks_passed : (c : Call) → update_checks c ≡ completed tt → Passed c
unfolding update_checks value_checks
checks_passed c e =
    let n = c.size in
    let k = c.dim in
    let o = passed (not (codebook_shaped n k (length c.codebook))) 7 (whole 1 ∷ []) _ tt e in
    let p = passed (not (samples_shaped k (length c.samples))) 7 (whole 2 ∷ []) _ tt o.1 in
    let q = passed (not (eqb c.float_work (2 * (n * k) + 2 * n))) 7 (whole 7 ∷ []) _ tt p.1 in
    let r = passed (not (eqb c.integer_work n)) 7 (whole 8 ∷ []) _ tt q.1 in
    let s = passed (not (leb c.slots 1048576)) 7 (whole 9 ∷ []) _ tt r.1 in
    let t = passed (not (eqb (length c.assignments) (length c.samples / k))) 7 (whole 10 ∷ []) _ tt s.1 in
    let u = passed_bounded 1 (first_outside update_limit c.codebook) _ tt t.1 in
    let v = passed_bounded 2 (first_outside update_limit c.samples) _ tt u.1 in
    let none = all_assigned c.assignments n (first_where (λ i. leb n (get_or c.assignments i 0)) (length c.assignments)) v.1 in
    record {
      book = codebook_shape n k (length c.codebook) (not-false _ o.0);
      rows = samples_shape k (length c.samples) (not-false _ p.0);
      floats = eqb-true c.float_work (2 * (n * k) + 2 * n) (not-false _ q.0);
      integers = eqb-true c.integer_work n (not-false _ r.0);
      room = leb-true c.slots 1048576 (not-false _ s.0);
      each = eqb-true (length c.assignments) (length c.samples / k) (not-false _ t.0);
      codebook_within = u.0;
      samples-within = v.0;
      cells = λ i l. leb-false n (get_or c.assignments i 0) (none_before (λ j. leb n (get_or c.assignments j 0)) (length c.assignments) none i l);
    }
