-- What the parts of the encoder's work ask of one another. Definitions only.
use Rattle.std.specs.Prelude.{◌≡◌, ℕ, ◌+◌, ◌*◌, ◌/◌, ◌^◌, ◌≤◌, length}
use Rattle.std.specs.Float.{nan}
use Rattle.std.specs.Float.Ieee.Scale.{finite}
use Rattle.lloyd_search.specs.Distance.{Widens}
use Rattle.decode.specs.declared.FibQuantizer.{FibQuantizer}
use Rattle.encode.specs.Encode.{frame_length}

-- an input of a valid profile's length, to be written as a frame of d / k blocks, for an output and a float work of so
-- many values
pub record Writable (q : FibQuantizer) (input output work : ℕ) : Type 0 where
  pub some_block : 1 ≤ q.given.profile.block_dim
  pub whole : input ≡ q.given.profile.ambient_dim
  pub blocks : input ≡ q.given.profile.ambient_dim / q.given.profile.block_dim * q.given.profile.block_dim
  pub square : length q.matrix.now ≡ input * input
  pub halves : work ≡ input + input
  pub book : length q.codewords.now ≡ q.given.profile.codebook_size * q.given.profile.block_dim
  pub book_finite : Widens finite nan q.codewords.now
  pub some : 1 ≤ q.given.profile.codebook_size
  pub fits : q.given.profile.codebook_size ≤ 2 ^ q.given.profile.wire_index_bits
  pub narrow : q.given.profile.wire_index_bits ≤ 20
  pub room : output ≡ frame_length q.given.profile.ambient_dim q.given.profile.block_dim q.given.profile.wire_index_bits
