-- A profile as the host hands it in and gets it back: numbers, with its choices by their numbers. Definitions only.
use Rattle.std.specs.Prelude.{ℕ, List, [], ◌∷◌, Float}
use Rattle.error.specs.Numbers.{Value, real, Outcome, completed, refused}
use Rattle.profile.specs.declared.FibQuantProfile.{FibQuantProfile}
use Rattle.ffi_profile.specs.Choices.{norm_format_at, source_mode_at, radius_method_beside, direction_method_at, policy_at, norm_format_number, source_mode_number, radius_method_number, direction_method_number, policy_number}

-- the profile of these fields, in the order of its declaration
abbrev pub profile_from : (d k n : ℕ) (paperRate : Float) (bits : ℕ) (wireRate : Float)
    (norm rotationSeed codebookSeed source radius direction restarts iterations samples policy : ℕ) → FibQuantProfile
profile_from d k n paperRate bits wireRate norm rotationSeed codebookSeed source radius direction restarts iterations
    samples policy = record {
      ambient_dim = d;
      block_dim = k;
      codebook_size = n;
      paper_rate_bits_per_coord = paperRate;
      wire_index_bits = bits;
      wire_bits_per_coord = wireRate;
      norm_format = norm_format_at norm;
      rotation_seed = rotationSeed;
      codebook_seed = codebookSeed;
      source_mode = source_mode_at source;
      radius_method = radius_method_beside direction radius;
      direction_method = direction_method_at direction;
      lloyd_restarts = restarts;
      lloyd_iterations = iterations;
      training_samples = samples;
      empty_cell_policy = policy_at policy;
    }

-- the fields that are no floats, in the same order
unfoldable pub fields_of : FibQuantProfile → List ℕ
fields_of p =
    p.ambient_dim
    ∷ p.block_dim
    ∷ p.codebook_size
    ∷ p.wire_index_bits
    ∷ norm_format_number p.norm_format
    ∷ p.rotation_seed
    ∷ p.codebook_seed
    ∷ source_mode_number p.source_mode
    ∷ radius_method_number p.radius_method
    ∷ direction_method_number p.direction_method
    ∷ p.lloyd_restarts
    ∷ p.lloyd_iterations
    ∷ p.training_samples
    ∷ policy_number p.empty_cell_policy
    ∷ []

-- the two rates
abbrev pub rates_in : FibQuantProfile → List Value
rates_in p = real p.paper_rate_bits_per_coord ∷ real p.wire_bits_per_coord ∷ []

-- what the room for the fields holds afterwards
abbrev pub fields_after : Outcome FibQuantProfile → List ℕ → List ℕ
fields_after (completed p) old = fields_of p
fields_after (refused n values) old = old
