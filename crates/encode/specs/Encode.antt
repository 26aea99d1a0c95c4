-- What encoding a vector comes to: document 01's checks in their order, the frame that is written, and the number of its
-- tied blocks. Definitions only.
-- d is the ambient dimension, k the block dimension, n the codebook size.
use Rattle.std.specs.Prelude.{ℕ, ◌+◌, ◌*◌, ◌/◌, Bool, cond, List, [], ◌∷◌, length, get_or, Float, Option, None, Some}
use Rattle.std.specs.Float.{nan, binary32, binary64}
use Rattle.std.specs.Float.Ieee.{mul, div, eq}
use Rattle.error.specs.Names.{codewords_slice, float_work_slice, input_slice, matrix_slice, output_slice}
use Rattle.error.specs.Numbers.{Outcome, completed, refused, whole, and_then, also, of_length}
use Rattle.ieee.specs.Sum.{plus_zero, sum_to}
use Rattle.slices.specs.First.{count_where}
use Rattle.slices.specs.Lists.{tabulate}
use Rattle.narrow.specs.Pack.{narrow_to}
use Rattle.root.specs.Sqrt.{sqrt_of}
use Rattle.bitpack.specs.Layout.{bytes_for}
use Rattle.compact.specs.Frame.{code_frame}
use Rattle.profile.specs.declared.FibQuantProfile.{FibQuantProfile}
use Rattle.profile.specs.Checks.{validity}
use Rattle.rotation.specs.Apply.{applied}
use Rattle.lloyd_search.specs.Distance.{row_of}
use Rattle.lloyd_search.specs.Nearest.{nearest, tied}
use Rattle.slices.specs.Limit.{first_not_finite}
use Rattle.norm.specs.Norm.{norm_bits}
use Rattle.decode.specs.declared.FibQuantizer.{FibQuantizer}
use Rattle.decode.specs.Decode.{values}

-- ---- what an encoding is given, but the contents of the buffers that it writes; of these the lengths
pub record EncodeCall : Type 0 where
  pub profile : FibQuantProfile
  pub schema : List ℕ
  pub algorithm : List ℕ
  pub log2 : Float
  pub matrix : List Float
  pub codewords : List Float
  pub input : List Float
  pub output : ℕ
  pub work : ℕ

abbrev pub encode_call : FibQuantProfile → List ℕ → List ℕ → Float → List Float → List Float → List Float → ℕ → ℕ
    → EncodeCall
encode_call profile schema algorithm log2 matrix codewords input output work = record {
  profile = profile;
  schema = schema;
  algorithm = algorithm;
  log2 = log2;
  matrix = matrix;
  codewords = codewords;
  input = input;
  output = output;
  work = work;
}

-- the same of a quantiser as it is handed in
abbrev pub encode_call_of : FibQuantizer → List Float → ℕ → ℕ → EncodeCall
encode_call_of q input output work =
    let g = q.given in
    encode_call g.profile g.schema.now g.rotation_algorithm.now g.log2 q.matrix.now q.codewords.now input output work

-- ---- what is written

-- the norm: the root of the sum of the squares
abbrev pub square_at : List Float → ℕ → Float
square_at input i = mul binary64 (get_or input i nan) (get_or input i nan)

unfoldable pub norm_of : List Float → Float
norm_of input = sqrt_of binary64 (sum_to (square_at input) (length input))

-- the input over its norm
unfoldable pub normalized_at : List Float → Float → ℕ → Float
normalized_at input norm i = div binary64 (get_or input i nan) norm

-- what the search sees: the normalized input, rotated, rounded to binary32
unfoldable pub searched_at : ℕ → List Float → List Float → Float → ℕ → Float
searched_at d matrix input norm i =
    narrow_to binary32 (get_or (applied d matrix (tabulate d (normalized_at input norm))) i nan)

abbrev pub searched : ℕ → List Float → List Float → Float → List Float
searched d matrix input norm = tabulate d (searched_at d matrix input norm)

-- the index of block i of the values that the search sees: the codeword nearest to it
abbrev pub index_for : ℕ → ℕ → List Float → List Float → ℕ → ℕ
index_for k n codewords xs i = (nearest k n (row_of k codewords) (row_of k xs i)).index

-- the indices of d / k blocks
abbrev pub indices_for : ℕ → ℕ → ℕ → List Float → List Float → List ℕ
indices_for count k n codewords xs = tabulate count (index_for k n codewords xs)

-- the frame of the norm's pattern and of the indices
abbrev pub frame_for : FibQuantProfile → List Float → List Float → List Float → ℕ → List ℕ
frame_for p matrix codewords input bits =
    let d = p.ambient_dim in
    let k = p.block_dim in
    let indices = indices_for (d / k) k p.codebook_size codewords (searched d matrix input (norm_of input)) in
    code_frame p.wire_index_bits (d / k) 2 bits indices

-- ---- the tied blocks

-- the mark of block i: another codeword is as near as the one chosen
abbrev pub tied_for : ℕ → ℕ → List Float → List Float → ℕ → Bool
tied_for k n codewords xs i = tied k n (row_of k codewords) (row_of k xs i)

-- how many of the d / k blocks of an input have it
abbrev pub tied_blocks : FibQuantProfile → List Float → List Float → List Float → ℕ
tied_blocks p matrix codewords input =
    let d = p.ambient_dim in
    let k = p.block_dim in
    count_where (tied_for k p.codebook_size codewords (searched d matrix input (norm_of input))) (d / k)

-- ---- the checks

-- the bytes of the frame: 11 before the norm, 2 for it, and those of the indices
abbrev pub frame_length : ℕ → ℕ → ℕ → ℕ
frame_length d k bits = 13 + bytes_for (d / k * bits)

-- 7: the lengths of matrix, codewords, input, output and float work
abbrev pub lengths : ℕ → ℕ → ℕ → ℕ → ℕ → ℕ → ℕ → ℕ → ℕ → Outcome Unit
lengths d k n bits matrix codewords input output work =
    of_length matrix_slice (d * d) matrix
    (of_length codewords_slice (n * k) codewords
    (of_length input_slice d input
    (of_length output_slice (frame_length d k bits) output
    (of_length float_work_slice (2 * d) work
    (completed tt)))))

-- 12: the first value of the input that is not finite
abbrev pub finite_input : Option ℕ → Outcome Unit
finite_input None = completed tt
finite_input (Some place) = refused 12 (whole place ∷ [])

-- 12, 13 (the norm is zero) and 10: the pattern of the norm
unfoldable pub normed : List Float → Float → Outcome ℕ
normed input norm =
    also (finite_input (first_not_finite input))
    (cond (eq norm plus_zero) (refused 13 [])
    (norm_bits norm))

-- the checks that do not read the input: of the profile, the lengths, and the values of codewords and matrix
unfoldable pub fitting : EncodeCall → Outcome Unit
fitting c =
    let p = c.profile in
    also (validity p c.schema c.algorithm c.log2)
    (also (lengths p.ambient_dim p.block_dim p.codebook_size p.wire_index_bits
    (length c.matrix) (length c.codewords) (length c.input) c.output c.work)
    (values c.matrix c.codewords))

-- every check: the pattern of the norm
unfoldable pub codable : EncodeCall → Outcome ℕ
codable c = also (fitting c) (normed c.input (norm_of c.input))

-- the whole: every check, and the frame
abbrev pub encoding : EncodeCall → Outcome (List ℕ)
encoding c = and_then (codable c) (λ bits. completed (frame_for c.profile c.matrix c.codewords c.input bits))

-- the answer: every check, and the number of tied blocks
abbrev pub counting : EncodeCall → Outcome ℕ
counting c = and_then (codable c) (λ bits. completed (tied_blocks c.profile c.matrix c.codewords c.input))
