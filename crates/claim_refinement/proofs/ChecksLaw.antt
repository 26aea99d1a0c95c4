-- No check of a refinement answers 15.
-- Assumes nothing.
use mathlib.Core.Path.{◌≡◌}
use Prim.Native.Nat.{ℕ, ◌-◌, ◌*◌, ◌%◌}
use mathlib.Core.Bool.{not, ◌&&◌, ◌||◌}
use mathlib.Core.List.{List}
use lib.Dec.{eqb, leb, ltb}
use lib.ListN.{length}
use lib.IntN.{pos}
use lib.Ieee.{Float, binary64, of_int}
use Rattle.error.specs.Numbers.{Value, Outcome, completed, refused, also}
use Rattle.slices.specs.Limit.{first_outside}
use Rattle.profile.specs.declared.NormFormat.{NormFormat}
use Rattle.profile.specs.declared.SourceMode.{SourceMode}
use Rattle.profile.specs.declared.RadiusMethod.{RadiusMethod}
use Rattle.profile.specs.declared.DirectionMethod.{DirectionMethod}
use Rattle.profile.specs.declared.FibQuantProfile.{FibQuantProfile}
use Rattle.profile.specs.Fields.{profile_schema, rotation_algorithm, same_bytes, is_fp16, is_canonical, radius_for, direction_for, same_radius, same_direction, index_width, rate_agrees}
use Rattle.profile.specs.Checks.{named, shape_of, sizes_of, formats_of, width_of, rate_of, rates_of, methods_of, settings_of, numbers_of, per_coord, validity}
use Rattle.lloyd_refine.specs.Refine.{Job, size_of, dim_of, count_of, restarts_of, refine_limit, room_of, length_checks, value_checks, refine_checks}
use Rattle.claim_history.proofs.ChecksLaw.{Never, never_done, never_cond, never_bounded}

never_also : (o q : Outcome Unit) → Never o → Never q → Never (also o q)
never_also (completed u) q a b vs h = b vs h
never_also (refused n us) q a b vs h = a vs h

never_shape : (d k n : ℕ) → Never (shape_of d k n)
unfolding shape_of
never_shape d k n =
    never_cond (eqb d 0) 1 _ _ tt
    (never_cond (eqb k 0 || leb d k) 2 _ _ tt
    (never_cond (not (eqb (d % k) 0)) 3 _ _ tt
    (never_cond (ltb 16384 d) 5 _ _ tt
    (never_cond (ltb 256 k) 5 _ _ tt
    (never_cond (ltb n 2 || ltb 1048576 n) 4 _ _ tt
    (never_done tt))))))

never_named : (field : ℕ) (given expected : List ℕ) → Never (named field given expected)
never_named field given expected = never_cond (not (same_bytes given expected)) 6 _ _ tt (never_done tt)

never_sizes : (d k n : ℕ) → Never (sizes_of d k n)
never_sizes d k n = never_cond (ltb 16777216 (d * d)) 5 _ _ tt (never_cond (ltb 67108864 (n * k)) 5 _ _ tt (never_done tt))

never_formats : (norm : NormFormat) (source : SourceMode) → Never (formats_of norm source)
never_formats norm source = never_cond (not (is_fp16 norm)) 6 _ _ tt (never_cond (not (is_canonical source)) 6 _ _ tt (never_done tt))

never_width : (bits n : ℕ) → Never (width_of bits n)
never_width bits n = never_cond (not (eqb bits (index_width n))) 6 _ _ tt (never_done tt)

never_methods : (k : ℕ) (radius : RadiusMethod) (direction : DirectionMethod) → Never (methods_of k radius direction)
never_methods k radius direction = never_cond (not (same_radius radius (radius_for k) && same_direction direction (direction_for k))) 6 _ _ tt (never_done tt)

never_rate : (field : ℕ) (given expected : Float) → Never (rate_of field given expected)
never_rate field given expected = never_cond (not (rate_agrees given expected)) 6 _ _ tt (never_done tt)

never_rates : (p : FibQuantProfile) (log2 : Float) → Never (rates_of p log2)
unfolding rates_of
never_rates p log2 =
    never_also (rate_of 6 p.paper_rate_bits_per_coord (per_coord log2 p.block_dim)) _ (never_rate 6 p.paper_rate_bits_per_coord (per_coord log2 p.block_dim))
    (never_rate 7 p.wire_bits_per_coord (per_coord (of_int binary64 (pos p.wire_index_bits)) p.block_dim))

never_settings : (restarts iterations samples n : ℕ) → Never (settings_of restarts iterations samples n)
unfolding settings_of
never_settings restarts iterations samples n =
    never_cond (eqb restarts 0 || ltb 1024 restarts) 6 _ _ tt
    (never_cond (eqb iterations 0 || ltb 100000 iterations) 6 _ _ tt
    (never_cond (ltb samples n || ltb 10000000 samples) 6 _ _ tt
    (never_done tt)))

never_validity : (p : FibQuantProfile) (schema algorithm : List ℕ) (log2 : Float) → Never (validity p schema algorithm log2)
unfolding validity numbers_of
never_validity p schema algorithm log2 =
    let d = p.ambient_dim in
    let k = p.block_dim in
    let n = p.codebook_size in
    never_also (named 1 schema profile_schema) _ (never_named 1 schema profile_schema)
    (never_also (shape_of d k n) _ (never_shape d k n)
    (never_also (sizes_of d k n) _ (never_sizes d k n)
    (never_also (formats_of p.norm_format p.source_mode) _ (never_formats p.norm_format p.source_mode)
    (never_also (named 4 algorithm rotation_algorithm) _ (never_named 4 algorithm rotation_algorithm)
    (never_also (width_of p.wire_index_bits n) _ (never_width p.wire_index_bits n)
    (never_also (rates_of p log2) _ (never_rates p log2)
    (never_also (methods_of k p.radius_method p.direction_method) _ (never_methods k p.radius_method p.direction_method)
    (never_settings p.lloyd_restarts p.lloyd_iterations p.training_samples n))))))))

module _ (j : Job) where
  never_lengths : Never (length_checks (room_of j) j)
  unfolding length_checks
  never_lengths =
      never_cond (not (eqb (length j.initial) (size_of j * dim_of j))) 7 _ _ tt
      (never_cond (not (eqb (length j.samples) (count_of j * dim_of j))) 7 _ _ tt
      (never_cond (not (eqb (length j.matrices) ((restarts_of j - 1) * (dim_of j * dim_of j)))) 7 _ _ tt
      (never_cond (not (eqb j.codewords (size_of j * dim_of j))) 7 _ _ tt
      (never_cond (not (eqb j.float_work (room_of j).floats)) 7 _ _ tt
      (never_cond (not (eqb j.integer_work (room_of j).integers)) 7 _ _ tt
      (never_cond (not (leb j.slots 1048576)) 7 _ _ tt
      (never_done tt)))))))

  never_values : Never (value_checks j)
  unfolding value_checks
  never_values = never_bounded 1 (first_outside refine_limit j.initial) _ (never_bounded 2 (first_outside refine_limit j.samples) _ (never_bounded 3 (first_outside refine_limit j.matrices) _ (never_done tt)))

  pub checks_not_15 : (vs : List Value) → refine_checks j ≡ refused 15 vs → ⊥
  unfolding refine_checks
  checks_not_15 = never_also (validity j.profile j.schema j.algorithm j.log2) _ (never_validity j.profile j.schema j.algorithm j.log2) (never_also (length_checks (room_of j) j) (value_checks j) never_lengths never_values)
