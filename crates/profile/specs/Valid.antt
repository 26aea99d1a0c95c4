-- What holds of the numbers of a valid profile, and of the width of an index: the laws are `valid` of proofs/Facts.antt
-- and `least_width` of proofs/Width.antt. Definitions only.
use Rattle.std.specs.Prelude.{◌≡◌, ℕ, ◌*◌, ◌/◌, ◌^◌, ◌<◌, ◌≤◌}
use Rattle.profile.specs.declared.NormFormat.TheVariants.{Fp16Paper}
use Rattle.profile.specs.declared.FibQuantProfile.{FibQuantProfile}
use Rattle.profile.specs.Fields.{index_width}

-- blocks of k values that divide a vector of d, and n codewords
pub record Shape (d k n : ℕ) : Type 0 where
  pub some_block : 1 ≤ k
  pub smaller_block : k < d
  pub whole_blocks : d ≡ d / k * k
  pub dim_most : d ≤ 16384
  pub block_most : k ≤ 256
  pub book_least : 2 ≤ n
  pub book_most : n ≤ 2 ^ 20

-- w binary digits hold m, and fewer do not
pub record LeastWidth (m w : ℕ) : Type 0 where
  pub holds : m < 2 ^ w
  pub least : (v : ℕ) → m < 2 ^ v → w ≤ v

-- the settings of a training with n codewords
pub record Settings (restarts iterations samples n : ℕ) : Type 0 where
  pub restarts_least : 1 ≤ restarts
  pub restarts_most : restarts ≤ 1024
  pub iterations_least : 1 ≤ iterations
  pub iterations_most : iterations ≤ 100000
  pub samples_least : n ≤ samples
  pub samples_most : samples ≤ 10000000

pub record Valid (p : FibQuantProfile) : Type 0 where
  pub shape : Shape p.ambient_dim p.block_dim p.codebook_size
  -- a d × d matrix has at most 2 ^ 24 values
  pub dim_most : p.ambient_dim ≤ 4096
  pub values_most : p.codebook_size * p.block_dim ≤ 67108864
  pub norm_format : p.norm_format ≡ Fp16Paper
  pub width : p.wire_index_bits ≡ index_width p.codebook_size
  pub width_least : 1 ≤ p.wire_index_bits
  pub width_most : p.wire_index_bits ≤ 20
  pub settings : Settings p.lloyd_restarts p.lloyd_iterations p.training_samples p.codebook_size
