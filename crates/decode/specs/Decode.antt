-- What decoding a frame comes to: document 01's checks in their order, and the values that indices and norm stand for.
-- Definitions only. d is the ambient dimension, k the block dimension, n the codebook size.
use Rattle.std.specs.Prelude.{ℕ, ◌*◌, ◌/◌, ◌%◌, false, not, List, [], ◌∷◌, ltb, pos, length, get_or, Float, Option, None, Some}
use Rattle.std.specs.Float.{nan, fin, binary32, binary64}
use Rattle.std.specs.Float.Ieee.{mul}
use Rattle.error.specs.Names.{codewords_slice, float_work_slice, matrix_slice, output_slice}
use Rattle.error.specs.Numbers.{Outcome, completed, refused, whole, and_then, also, of_length}
use Rattle.slices.specs.First.{first_where}
use Rattle.slices.specs.Lists.{tabulate}
use Rattle.slices.specs.Limit.{first_outside, bounded, first_not_finite}
use Rattle.narrow.specs.Pack.{narrow_to}
use Rattle.bitpack.specs.Layout.{unpacked_indices}
use Rattle.compact.specs.Frame.{Parts, parsed}
use Rattle.compact.specs.Expected.{expected}
use Rattle.profile.specs.declared.FibQuantProfile.{FibQuantProfile}
use Rattle.profile.specs.Checks.{validity}
use Rattle.rotation.specs.Apply.{applied_inverse}
use Rattle.lloyd_search.specs.Distance.{row_of}
use Rattle.norm.specs.Norm.{norm_value}
use Rattle.decode.specs.declared.FibQuantizer.{FibQuantizer}

-- ---- what a decoding is given, but the contents of the buffers that it writes; of these the lengths
pub record DecodeCall : Type 0 where
  pub profile : FibQuantProfile
  pub schema : List ℕ
  pub algorithm : List ℕ
  pub log2 : Float
  pub matrix : List Float
  pub codewords : List Float
  pub bytes : List ℕ
  pub output : ℕ
  pub work : ℕ

abbrev pub decode_call : FibQuantProfile → List ℕ → List ℕ → Float → List Float → List Float → List ℕ → ℕ → ℕ
    → DecodeCall
decode_call profile schema algorithm log2 matrix codewords bytes output work = record {
  profile = profile;
  schema = schema;
  algorithm = algorithm;
  log2 = log2;
  matrix = matrix;
  codewords = codewords;
  bytes = bytes;
  output = output;
  work = work;
}

-- the same of a quantiser as it is handed in
abbrev pub decode_call_of : FibQuantizer → List ℕ → ℕ → ℕ → DecodeCall
decode_call_of q bytes output work =
    let g = q.given in
    decode_call g.profile g.schema.now g.rotation_algorithm.now g.log2 q.matrix.now q.codewords.now bytes output work

-- ---- what indices and norm stand for

-- the codewords of the indices, one after another: value m is coordinate m % k of the codeword of index m / k
unfoldable pub rotated_at : ℕ → List Float → List ℕ → ℕ → Float
rotated_at k codewords indices m = row_of k codewords (get_or indices (m / k) 0) (m % k)

abbrev pub rotated : ℕ → ℕ → List Float → List ℕ → List Float
rotated d k codewords indices = tabulate d (rotated_at k codewords indices)

-- value i of them, rotated back, times the norm, rounded to binary32
unfoldable pub decoded_at : ℕ → ℕ → List Float → List Float → List ℕ → Float → ℕ → Float
decoded_at d k matrix codewords indices norm i =
    narrow_to binary32 (mul binary64 (get_or (applied_inverse d matrix (rotated d k codewords indices)) i nan) norm)

abbrev pub decoded : ℕ → ℕ → List Float → List Float → List ℕ → Float → List Float
decoded d k matrix codewords indices norm = tabulate d (decoded_at d k matrix codewords indices norm)

-- ---- the checks

-- 7: the lengths of matrix, codewords, output and float work
abbrev pub lengths : ℕ → ℕ → ℕ → ℕ → ℕ → ℕ → ℕ → Outcome Unit
lengths d k n matrix codewords output work =
    of_length matrix_slice (d * d) matrix
    (of_length codewords_slice (n * k) codewords
    (of_length output_slice d output
    (of_length float_work_slice (2 * d) work
    (completed tt))))

-- 2 ^ 20
abbrev pub matrix_limit : Float
matrix_limit = fin false 1 (pos 20)

-- 18: the codewords finite, then the matrix at most 2 ^ 20 in size
unfoldable pub values : List Float → List Float → Outcome Unit
values matrix codewords =
    bounded codewords_slice (first_not_finite codewords)
    (bounded matrix_slice (first_outside matrix_limit matrix)
    (completed tt))

-- 11: the first index that is not below n
abbrev pub offending : ℕ → List ℕ → Option ℕ → Outcome Unit
offending n indices None = completed tt
offending n indices (Some i) = refused 11 (whole (get_or indices i 0) ∷ whole n ∷ [])

abbrev pub below : ℕ → List ℕ → Outcome Unit
below n indices = offending n indices (first_where (λ i. not (ltb (get_or indices i 0) n)) (length indices))

-- the indices of a frame
abbrev pub indices_of : Parts → List ℕ
indices_of parts = unpacked_indices parts.indices parts.count parts.width

-- 17, 9 and 11
unfoldable pub indexed : ℕ → ℕ → ℕ → Parts → Outcome Unit
indexed bits blocks n parts = also (expected bits blocks parts) (below n (indices_of parts))

-- 12: the first value that is not finite
abbrev pub unless : List Float → Option ℕ → Outcome (List Float)
unless xs None = completed xs
unless xs (Some place) = refused 12 (whole place ∷ [])

abbrev pub only_finite : List Float → Outcome (List Float)
only_finite xs = unless xs (first_not_finite xs)

-- ---- decoding

-- The parts of a frame, through every check but the last: the value of the norm, which is read by this rule. Document 01's
-- is norm_value. With norm_value_f32 it says what one of document 02's older frames (K9) stands for, which no program
-- decodes: claim_codes says so of what such a frame is converted to.
unfoldable pub readable_by : (List ℕ → Outcome Float) → DecodeCall → Parts → Outcome Float
readable_by rule c parts =
    let d = c.profile.ambient_dim in
    let k = c.profile.block_dim in
    let n = c.profile.codebook_size in
    also (validity c.profile c.schema c.algorithm c.log2)
    (also (lengths d k n (length c.matrix) (length c.codewords) c.output c.work)
    (also (values c.matrix c.codewords)
    (also (indexed c.profile.wire_index_bits (d / k) n parts)
    (rule parts.norm))))

-- the same of bytes: the frame is checked first
abbrev pub decodable_by : (List ℕ → Outcome Float) → DecodeCall → Outcome Float
decodable_by rule c = and_then (parsed c.bytes) (readable_by rule c)

-- the values of a frame whose norm is known
abbrev pub valued : DecodeCall → Parts → Float → Outcome (List Float)
valued c parts norm =
    only_finite
    (decoded c.profile.ambient_dim c.profile.block_dim c.matrix c.codewords (indices_of parts) norm)

-- the whole: every check, and the values
abbrev pub decoding_by : (List ℕ → Outcome Float) → DecodeCall → Outcome (List Float)
decoding_by rule c = and_then (parsed c.bytes) (λ parts. and_then (readable_by rule c parts) (valued c parts))

-- ---- document 01's norms
abbrev pub readable : DecodeCall → Parts → Outcome Float
readable = readable_by norm_value

abbrev pub decodable : DecodeCall → Outcome Float
decodable = decodable_by norm_value

abbrev pub decoding : DecodeCall → Outcome (List Float)
decoding = decoding_by norm_value
