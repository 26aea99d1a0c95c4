-- What the profile's check of its rates computes is finite once the check has passed. Assumes nothing.
use mathlib.Core.Path.{◌≡◌}
use Prim.Native.Nat.{ℕ, ◌≤◌}
use native.Mathlib.Nat.{le_refl, le_trans}
use mathlib.Core.Bool.{false, not, ◌&&◌}
use mathlib.Core.List.{List, [], ◌∷◌}
use lib.Dec.{T, lit≤}
use lib.IntN.{pos}
use lib.Ieee.{Float, nan, inf, fin, binary64, round, lt, eq, le, sub, of_int}
use lib.Ieee.Fits.{and_l, and_r}
use lib.Ieee.Scale.{finite}
use borrow.Author.Tests.{not-false}
use Rattle.error.specs.Names.{paper_rate_field, rotation_algorithm_field, schema_field, wire_rate_field}
use Rattle.error.specs.Numbers.{completed, whole, real}
use Rattle.error.proofs.Outcomes.{passed}
use Rattle.error.proofs.Refusals.{also_first, also_next}
use Rattle.ieee.proofs.Bound.{upto_finite}
use Rattle.ieee.proofs.Value.{holds_true}
use Rattle.ieee.proofs.Whole.{whole_value, value_at_most}
use Rattle.profile.specs.declared.FibQuantProfile.{FibQuantProfile}
use Rattle.profile.specs.Fields.{profile_schema, rotation_algorithm, abs, tolerance, rate_agrees}
use Rattle.profile.specs.Checks.{named, shape_of, sizes_of, formats_of, width_of, rate_of, per_coord, rates_of, numbers_of, validity}
use Rattle.lloyd_refine.specs.Refine.{Job, dim_of, refine_checks}
use Rattle.lloyd_refine.proofs.CheckLaw.{checks_passed}
use Rattle.claim_finite_refinement.specs.FiniteRefinement.{FiniteRate}

-- what is at most a finite value in size is finite
below_finite : (x y : Float) → T (finite y) → T (le (abs x) y) → T (finite x)
unfolding le lt eq
below_finite nan y f h = h
below_finite (inf s) nan f h = f
below_finite (inf s) (inf t) f h = f
below_finite (inf s) (fin t m e) f h = h
below_finite (fin s m e) y f h = tt

tolerance_finite : T (finite tolerance)
unfolding round
tolerance_finite = tt

whole_finite : (n : ℕ) → n ≤ 256 → T (finite (of_int binary64 (pos n)))
whole_finite n l = upto_finite (of_int binary64 (pos n)) n (value_at_most (of_int binary64 (pos n)) false n n 1 (whole_value binary64 n (le_trans l (lit≤ tt))) (le_refl n))

rate_finite : (field k : ℕ) (given bits : Float) → k ≤ 256 → rate_of field given (per_coord bits k) ≡ completed tt → FiniteRate given bits k
rate_finite field k given bits few h =
    let expected = per_coord bits k in
    let near = le (abs (sub binary64 given expected)) tolerance in
    let agrees = holds_true (not-false (rate_agrees given expected) (passed (not (rate_agrees given expected)) 6 (whole field ∷ real given ∷ real expected ∷ []) _ tt h).0) in
    let rest = and_r (finite given) (finite expected && near) agrees in
    record {
      divisor = whole_finite k few;
      quotient = and_l (finite expected) near rest;
      difference = below_finite (sub binary64 given expected) tolerance tolerance_finite (and_r (finite expected) near rest);
    }

rates_passed : (p : FibQuantProfile) (schema algorithm : List ℕ) (log2 : Float) → validity p schema algorithm log2 ≡ completed tt → rates_of p log2 ≡ completed tt
unfolding validity numbers_of
rates_passed p schema algorithm log2 h =
    let d = p.ambient_dim in
    let k = p.block_dim in
    let n = p.codebook_size in
    let shape = also_next (named schema_field schema profile_schema) _ h in
    let sizes = also_next (shape_of d k n) _ shape in
    let formats = also_next (sizes_of d k n) _ sizes in
    let strings = also_next (formats_of p.norm_format p.source_mode) _ formats in
    let numbers = also_next (named rotation_algorithm_field algorithm rotation_algorithm) _ strings in
    also_first (rates_of p log2) _ (also_next (width_of p.wire_index_bits n) _ numbers)

module _ (j : Job) where
  abbrev bits : Float
  bits = of_int binary64 (pos j.profile.wire_index_bits)

  pub rates_finite : refine_checks j ≡ completed tt
      → FiniteRate j.profile.paper_rate_bits_per_coord j.log2 (dim_of j) × T (finite bits) × FiniteRate j.profile.wire_bits_per_coord bits (dim_of j)
  unfolding refine_checks rates_of
  rates_finite h =
      let p = j.profile in
      let k = dim_of j in
      let pass = (checks_passed j h).valid in
      let rates = rates_passed p j.schema j.algorithm j.log2 (also_first (validity p j.schema j.algorithm j.log2) _ h) in
      let paper = rate_of paper_rate_field p.paper_rate_bits_per_coord (per_coord j.log2 k) in
      let wire = rate_of wire_rate_field p.wire_bits_per_coord (per_coord bits k) in (
        rate_finite paper_rate_field k p.paper_rate_bits_per_coord j.log2 pass.shape.block_most (also_first paper wire rates),
        whole_finite p.wire_index_bits (le_trans pass.width_most (lit≤ tt)),
        rate_finite wire_rate_field k p.wire_bits_per_coord bits pass.shape.block_most (also_next paper wire rates),
      )
