-- The checks of a profile: their order, and the number and values by which each refuses. Definitions only.
-- d is the ambient dimension, k the block dimension, n the codebook size.
use Rattle.std.specs.Prelude.{ℕ, ◌*◌, ◌%◌, cond, not, ◌&&◌, ◌||◌, List, [], ◌∷◌, pos, ◌==◌, nat_le, nat_lt, Float}
use Rattle.std.specs.Float.{binary64}
use Rattle.std.specs.Float.Ieee.{div, of_int}
use Rattle.error.specs.Names.{iterations_field, method_pair_field, norm_format_field, paper_rate_field, restarts_field, rotation_algorithm_field, samples_field, schema_field, source_mode_field, wire_bits_field, wire_rate_field}
use Rattle.error.specs.Numbers.{Outcome, completed, refused, whole, real, also}
use Rattle.profile.specs.declared.NormFormat.{NormFormat}
use Rattle.profile.specs.declared.SourceMode.{SourceMode}
use Rattle.profile.specs.declared.RadiusMethod.{RadiusMethod}
use Rattle.profile.specs.declared.DirectionMethod.{DirectionMethod}
use Rattle.profile.specs.declared.FibQuantProfile.{FibQuantProfile}
use Rattle.profile.specs.Fields.{profile_schema, rotation_algorithm, same_bytes, is_fp16, is_canonical, radius_for, direction_for, same_radius, same_direction, index_width, rate_agrees}

-- a string that has to be a given one
abbrev pub named : ℕ → List ℕ → List ℕ → Outcome Unit
named field given expected = cond (not (same_bytes given expected)) (refused 6 (whole field ∷ [])) (completed tt)

unfoldable pub shape_of : ℕ → ℕ → ℕ → Outcome Unit
shape_of d k n =
    cond (d == 0) (refused 1 [])
    (cond (k == 0 || nat_le d k) (refused 2 (whole d ∷ whole k ∷ []))
    (cond (not (d % k == 0)) (refused 3 (whole d ∷ whole k ∷ []))
    (cond (nat_lt 16384 d) (refused 5 [])
    (cond (nat_lt 256 k) (refused 5 [])
    (cond (nat_lt n 2 || nat_lt 1048576 n) (refused 4 (whole n ∷ []))
    (completed tt))))))

-- the values of a d × d matrix, and of a codebook of n codewords
abbrev pub sizes_of : ℕ → ℕ → ℕ → Outcome Unit
sizes_of d k n = cond (nat_lt 16777216 (d * d)) (refused 5 []) (cond (nat_lt 67108864 (n * k)) (refused 5 []) (completed tt))

abbrev pub formats_of : NormFormat → SourceMode → Outcome Unit
formats_of norm source =
    cond (not (is_fp16 norm)) (refused 6 (whole norm_format_field ∷ []))
    (cond (not (is_canonical source)) (refused 6 (whole source_mode_field ∷ [])) (completed tt))

abbrev pub width_of : ℕ → ℕ → Outcome Unit
width_of bits n = cond (not (bits == index_width n)) (refused 6 (whole wire_bits_field ∷ [])) (completed tt)

abbrev pub rate_of : ℕ → Float → Float → Outcome Unit
rate_of field given expected =
    cond (not (rate_agrees given expected)) (refused 6 (whole field ∷ real given ∷ real expected ∷ [])) (completed tt)

-- a rate for blocks of k values
abbrev pub per_coord : Float → ℕ → Float
per_coord bits k = div binary64 bits (of_int binary64 (pos k))

unfoldable pub rates_of : FibQuantProfile → Float → Outcome Unit
rates_of p log2 =
    also (rate_of paper_rate_field p.paper_rate_bits_per_coord (per_coord log2 p.block_dim))
    (rate_of wire_rate_field p.wire_bits_per_coord
    (per_coord (of_int binary64 (pos p.wire_index_bits)) p.block_dim))

abbrev pub methods_of : ℕ → RadiusMethod → DirectionMethod → Outcome Unit
methods_of k radius direction =
    cond (not (same_radius radius (radius_for k) && same_direction direction (direction_for k)))
    (refused 6 (whole method_pair_field ∷ [])) (completed tt)

-- restarts, iterations, samples
unfoldable pub settings_of : ℕ → ℕ → ℕ → ℕ → Outcome Unit
settings_of restarts iterations samples n =
    cond (restarts == 0 || nat_lt 1024 restarts) (refused 6 (whole restarts_field ∷ []))
    (cond (iterations == 0 || nat_lt 100000 iterations) (refused 6 (whole iterations_field ∷ []))
    (cond (nat_lt samples n || nat_lt 10000000 samples) (refused 6 (whole samples_field ∷ []))
    (completed tt)))

-- the fields from the width on
unfoldable pub numbers_of : FibQuantProfile → Float → Outcome Unit
numbers_of p log2 =
    also (width_of p.wire_index_bits p.codebook_size)
    (also (rates_of p log2)
    (also (methods_of p.block_dim p.radius_method p.direction_method)
    (settings_of p.lloyd_restarts p.lloyd_iterations p.training_samples p.codebook_size)))

-- the whole profile, with its two strings and the log2 of n that its rates are tested against
unfoldable pub validity : FibQuantProfile → List ℕ → List ℕ → Float → Outcome Unit
validity p schema algorithm log2 =
    also (named schema_field schema profile_schema)
    (also (shape_of p.ambient_dim p.block_dim p.codebook_size)
    (also (sizes_of p.ambient_dim p.block_dim p.codebook_size)
    (also (formats_of p.norm_format p.source_mode)
    (also (named rotation_algorithm_field algorithm rotation_algorithm)
    (numbers_of p log2)))))
