-- What the parts of the decoder's work ask of one another. Definitions only.
use Rattle.std.specs.Prelude.{◌≡◌, not, ◌&&◌, ℕ, ◌+◌, ◌*◌, ◌≤◌, ◌<◌, T, length, Float}
use Rattle.std.specs.Float.{binary32}
use Rattle.std.specs.Float.Ieee.{fits, is_nan}
use Rattle.bitpack.specs.declared.packed.PackedIndices.{PackedIndices}
use Rattle.bitpack.specs.Packed.{index_in}
use Rattle.decode.specs.declared.FibQuantizer.{FibQuantizer}

-- a value of binary32, no NaN
abbrev pub Binary32 : Float → Type 0
Binary32 x = T (fits binary32 x && not (is_nan x))

-- values from packed indices, for an output and a float work of so many values
pub record Reconstructible (q : FibQuantizer) (packed : PackedIndices) (output work : ℕ) : Type 0 where
  pub blocks : packed.count * q.given.profile.block_dim ≡ output
  pub square : length q.matrix.now ≡ output * output
  pub halves : work ≡ output + output
  pub within : (i : ℕ) → i < packed.count
      → index_in packed i * q.given.profile.block_dim + q.given.profile.block_dim ≤ length q.codewords.now
