-- The other answers of a profile: the paper's default, the width of
-- an index, the number of blocks, the default number of samples.
-- Definitions only.
use Rattle.std.specs.Prelude.{ℕ, ◌+◌, ◌-◌, ◌*◌, ◌/◌, ◌%◌, ◌^◌, min, max, cond, [], ◌∷◌, pos, ◌==◌, nat_lt, Float}
use Rattle.std.specs.Float.{binary64}
use Rattle.std.specs.Float.Ieee.{of_int}
use Rattle.error.specs.Numbers.{Outcome, completed, refused, whole, also}
use Rattle.profile.specs.declared.NormFormat.TheVariants.{Fp16Paper}
use Rattle.profile.specs.declared.SourceMode.TheVariants.{CanonicalSphericalBeta}
use Rattle.profile.specs.declared.EmptyCellPolicy.TheVariants.{SplitHighestDistortion}
use Rattle.profile.specs.declared.FibQuantProfile.{FibQuantProfile}
use Rattle.profile.specs.Fields.{profile_schema, rotation_algorithm, radius_for, direction_for, index_width}
use Rattle.profile.specs.Checks.{shape_of, per_coord, validity}

abbrev pub wire_bits_of : ℕ → Outcome ℕ
wire_bits_of n = cond (nat_lt n 2) (refused 4 (whole n ∷ [])) (completed (index_width n))

abbrev pub block_count_of : ℕ → ℕ → Outcome ℕ
block_count_of d k = cond (k == 0) (refused 2 (whole d ∷ whole k ∷ [])) (completed (d / k))

-- a number of samples, at least 256 and at most 10,000,000
abbrev pub within_limits : ℕ → ℕ
within_limits s = min (max s 256) 10000000

-- the default: thirty samples a codeword
abbrev pub samples_of : ℕ → Outcome ℕ
samples_of n = cond (nat_lt (2 ^ 64 - 1) (30 * n)) (refused 5 []) (completed (within_limits (30 * n)))

-- the paper's profile with the methods for blocks of k values
unfoldable pub profile_of : ℕ → ℕ → ℕ → ℕ → Float → FibQuantProfile
profile_of d k n seed log2 = record {
  ambient_dim = d;
  block_dim = k;
  codebook_size = n;
  paper_rate_bits_per_coord = per_coord log2 k;
  wire_index_bits = index_width n;
  wire_bits_per_coord = per_coord (of_int binary64 (pos (index_width n))) k;
  norm_format = Fp16Paper;
  rotation_seed = seed;
  codebook_seed = (seed + 0x9e3779b97f4a7c15) % 2 ^ 64;
  source_mode = CanonicalSphericalBeta;
  radius_method = radius_for k;
  direction_method = direction_for k;
  lloyd_restarts = 4;
  lloyd_iterations = 25;
  training_samples = within_limits (30 * n);
  empty_cell_policy = SplitHighestDistortion;
}

-- the shape first, then the whole of the profile's checks
unfoldable pub paper_of : ℕ → ℕ → ℕ → ℕ → Float → Outcome FibQuantProfile
paper_of d k n seed log2 =
    also (shape_of d k n)
    (also (validity (profile_of d k n seed log2) profile_schema rotation_algorithm log2)
    (completed (profile_of d k n seed log2)))
