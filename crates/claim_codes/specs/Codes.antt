-- What demand 3 claims of codes: `EncodedBlocks`; what the number that comes with a code means: `TiedBlocks`; and that
-- decoding gets back what was encoded: `RoundTrip`. proofs/CodesLaw.antt proves them of every frame that `encoding` is
-- completed with. encode's own contract cites `encoding` for the frame and `counting` for the number. Definitions only.
-- They speak of the frame's bytes: `parsed` and `indices_of` read the published layout. d is the ambient
-- dimension, k the block dimension, n the codebook size.
use Rattle.std.specs.Prelude.{◌≡◌, ℕ, ◌*◌, ◌/◌, ◌<◌, List, T, length, get_or, Float}
use Rattle.std.specs.Float.{nan, binary32}
use Rattle.std.specs.Float.Ieee.{fits}
use Rattle.std.specs.Float.Ieee.Scale.{finite}
use Rattle.error.specs.Numbers.{completed}
use Rattle.ieee.specs.Bounds.{NotNegative}
use Rattle.slices.specs.First.{count_where}
use Rattle.narrow.specs.Format.{unpacked}
use Rattle.slices.specs.Bytes.{bytes_of}
use Rattle.compact.specs.Frame.{Parts, parsed}
use Rattle.profile.specs.declared.FibQuantProfile.{FibQuantProfile}
use Rattle.lloyd_search.specs.Distance.{row_of, distance}
use Rattle.lloyd_search.specs.Nearest.{Least, tied_at}
use Rattle.norm.specs.Norm.{norm_bits}
use Rattle.decode.specs.Decode.{DecodeCall, decoded, only_finite, decodable, decoding, indices_of}
use Rattle.encode.specs.Encode.{EncodeCall, norm_of, searched, indices_for, counting}

-- ---- a block, and its codeword

-- block i of what the search sees: values i * k to (i + 1) * k - 1
abbrev pub block_of : EncodeCall → ℕ → ℕ → Float
block_of c i =
    row_of c.profile.block_dim (searched c.profile.ambient_dim c.matrix c.input (norm_of c.input)) i

-- the rounded distance of block i to codeword m
abbrev pub distance_to : EncodeCall → ℕ → ℕ → Float
distance_to c i m = distance c.profile.block_dim (block_of c i) (row_of c.profile.block_dim c.codewords m)

-- an index below n, none strictly nearer than it, and each earlier one strictly farther
abbrev pub FirstNearest : (ℕ → Float) → ℕ → ℕ → Type 0
FirstNearest distances n index = Least distances n (record { index = index; distance = distances index })

-- ---- what is claimed
-- the frame's bytes parse, with the profile's width and a block for each k values
pub record Headed (p : FibQuantProfile) (frame : List ℕ) (parts : Parts) : Type 0 where
  pub parses : parsed frame ≡ completed parts
  pub width_is : parts.width ≡ p.wire_index_bits
  pub count_is : parts.count ≡ p.ambient_dim / p.block_dim

-- index i of the frame is that of the first codeword that none is strictly nearer to block i than
pub record EncodedBlock (c : EncodeCall) (i index : ℕ) : Type 0 where
  pub chosen : FirstNearest (distance_to c i) c.profile.codebook_size index
  -- these comparisons mean something: the block is finite, no distance
  -- is NaN or below zero, and those to codewords of binary32 are finite
  pub block_finite : (j : ℕ) → j < c.profile.block_dim → T (finite (block_of c i j))
  pub no_nan : (m : ℕ) → m < c.profile.codebook_size → NotNegative (distance_to c i m)
  pub distances_finite : ((j : ℕ) → j < length c.codewords → T (fits binary32 (get_or c.codewords j nan)))
      → (m : ℕ) → m < c.profile.codebook_size → T (finite (distance_to c i m))

-- every block of the frame
pub record EncodedBlocks (c : EncodeCall) (frame : List ℕ) : Type 0 where
  pub parts : Parts
  pub headed : Headed c.profile frame parts
  pub blocks : (i : ℕ) → i < c.profile.ambient_dim / c.profile.block_dim
      → EncodedBlock c i (get_or (indices_of parts) i 0)

-- the number that encode answers with a frame: of its blocks, those for which another
-- codeword is at the same distance as the one whose index stands in the frame
pub record TiedBlocks (c : EncodeCall) (frame : List ℕ) : Type 0 where
  pub coded : EncodedBlocks c frame
  pub number_is : counting c ≡ completed (count_where
      (λ i. tied_at (distance_to c i) c.profile.codebook_size (get_or (indices_of coded.parts) i 0))
      (c.profile.ambient_dim / c.profile.block_dim))

-- decoding a frame with the call's own profile, strings, matrix and codewords, for d values and 2 * d of float work
abbrev pub decoding_of : EncodeCall → List ℕ → DecodeCall
decoding_of c frame = record {
  profile = c.profile;
  schema = c.schema;
  algorithm = c.algorithm;
  log2 = c.log2;
  matrix = c.matrix;
  codewords = c.codewords;
  bytes = frame;
  output = c.profile.ambient_dim;
  work = 2 * c.profile.ambient_dim;
}

-- what that comes to
pub record RoundTrip (c : EncodeCall) (frame : List ℕ) : Type 0 where
  pub parts : Parts
  pub headed : Headed c.profile frame parts
  -- the norm's pattern, and its two bytes in the frame
  pub bits : ℕ
  pub bits_are : norm_bits (norm_of c.input) ≡ completed bits
  pub norm_is : parts.norm ≡ bytes_of 2 bits
  -- the indices in the frame are those that encode chose
  pub indices_are : indices_of parts
      ≡ indices_for (c.profile.ambient_dim / c.profile.block_dim) c.profile.block_dim
      c.profile.codebook_size c.codewords
      (searched c.profile.ambient_dim c.matrix c.input (norm_of c.input))
  -- each check but the last (12) is passed, and the norm read is what the pattern stands for
  pub readable_back : decodable (decoding_of c frame) ≡ completed (unpacked 11 15 bits)
  -- so the answer is the values of the codewords that were chosen and of that norm, or 12
  pub values_back : decoding (decoding_of c frame)
      ≡ only_finite (decoded c.profile.ambient_dim c.profile.block_dim c.matrix c.codewords
      (indices_of parts) (unpacked 11 15 bits))
