-- A call of update alone that passes its checks: every arithmetic result of it is finite, and the codebook that it
-- leaves, where it is accepted, is at most 2 ^ 48 again. Assumes nothing.
use Rattle.std.specs.Prelude.{None}
use mathlib.Core.Path.{◌≡◌}
use Prim.Native.Nat.{ℕ, ◌+◌, ◌*◌, ◌/◌, ◌^◌, ◌<◌}
use mathlib.Core.List.{List}
use lib.Dec.{lit≤}
use lib.ListN.{length, get_or}
use lib.Ieee.{Float}
use Rattle.error.specs.Numbers.{completed}
use Rattle.ieee.specs.Bounds.{Upto}
use Rattle.slices.specs.Limit.{first_outside}
use Rattle.lloyd_search.specs.Distance.{row_of}
use Rattle.lloyd_search.proofs.FiniteLaw.{Bounded}
use Rattle.lloyd_search.proofs.LimitLaw.{all_within}
use Rattle.lloyd_search.proofs.Parts.{row_place}
use Rattle.lloyd_cells.specs.Repair.{Repaired}
use Rattle.lloyd_update.specs.Alone.{Call, update_limit, update_checks, terms_of, update_of}
use Rattle.lloyd_update.proofs.CheckLaw.{checks_passed}
use Rattle.claim_finite.specs.Finite.{FiniteUpdate}
use Rattle.claim_finite.proofs.StepLaw.{step_finite, updated_kept}

-- the rows of a list without a value outside
rows_upto : (n k : ℕ) (xs : List Float) → first_outside update_limit xs ≡ None → length xs ≡ n * k → (i : ℕ) → i < n → Bounded 48 k (row_of k xs i)
rows_upto n k xs h e i l j m = all_within 48 xs h (i * k + j) (row_place i n k j (length xs) l m e)

module _ (c : Call) (pass : update_checks c ≡ completed tt) where
  abbrev S : ℕ
  S = length c.samples / c.dim

  samples_upto : (s : ℕ) → s < S → Bounded 48 c.dim (row_of c.dim c.samples s)
  samples_upto = rows_upto S c.dim c.samples (checks_passed c pass).samples-within (checks_passed c pass).rows.whole-samples

  codebook_upto : (i : ℕ) → i < c.size → Bounded 48 c.dim (row_of c.dim c.codebook i)
  codebook_upto = rows_upto c.size c.dim c.codebook (checks_passed c pass).codebook_within (checks_passed c pass).book.length_is

  assigned_below : (s : ℕ) → s < S → get_or c.assignments s 0 < c.size
  assigned_below s l = (checks_passed c pass).cells s (rw (checks_passed c pass).each l)

  pub update_finite : FiniteUpdate c
  update_finite =
      let p = checks_passed c pass in
      step_finite (terms_of c) S (row_of c.dim c.samples) (λ s. get_or c.assignments s 0) (row_of c.dim c.codebook) p.book.coordinates_upto p.rows.count_upto 48 (lit≤ tt) samples_upto codebook_upto assigned_below

  pub update_kept : (r : Repaired) → update_of c ≡ completed r → (i j : ℕ) → i < c.size → j < c.dim → Upto (r.cells.word i j) (2 ^ 48)
  update_kept =
      let p = checks_passed c pass in
      updated_kept (terms_of c) S (row_of c.dim c.samples) (λ s. get_or c.assignments s 0) (row_of c.dim c.codebook) p.book.coordinates_upto p.rows.count_upto 48 (lit≤ tt) samples_upto c.policy
