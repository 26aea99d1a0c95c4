-- Document 02's K9: a frame is written anew with its norm in the other format. The checks in their order, and the new
-- frame. Definitions only.
use Rattle.std.specs.Prelude.{ℕ, ◌/◌, cond, List, [], length, Float}
use Rattle.std.specs.Float.Ieee.{ne}
use Rattle.error.specs.Names.{output_slice}
use Rattle.error.specs.Numbers.{Outcome, completed, refused, and_then, also, of_length}
use Rattle.slices.specs.Bytes.{bytes_of}
use Rattle.narrow.specs.Format.{unpacked}
use Rattle.narrow.specs.Pack.{packed}
use Rattle.compact.specs.Frame.{Parts, parsed, frame_of}
use Rattle.compact.specs.Expected.{expected}
use Rattle.profile.specs.declared.FibQuantProfile.{FibQuantProfile}
use Rattle.profile.specs.declared.GivenProfile.{GivenProfile}
use Rattle.profile.specs.Checks.{validity}
use Rattle.norm.specs.Norm.{norm_value, norm_value_f32}

-- ---- what a conversion is given to read
pub record ConvertCall : Type 0 where
  pub profile : FibQuantProfile
  pub schema : List ℕ
  pub algorithm : List ℕ
  pub log2 : Float
  pub bytes : List ℕ

abbrev pub convert_call : FibQuantProfile → List ℕ → List ℕ → Float → List ℕ → ConvertCall
convert_call profile schema algorithm log2 bytes = record {
  profile = profile;
  schema = schema;
  algorithm = algorithm;
  log2 = log2;
  bytes = bytes;
}

-- the same of a profile as it is handed in
abbrev pub convert_call_of : GivenProfile → List ℕ → ConvertCall
convert_call_of g bytes = convert_call g.profile g.schema.now g.rotation_algorithm.now g.log2 bytes

-- ---- the norm in the other format

-- The norm x in two bytes. If a pattern of binary16 stands for x, rounding gives it; so where the rounded pattern stands for
-- another number, none stands for x, and 27 comes.
unfoldable pub f16_bytes : Float → Outcome (List ℕ)
f16_bytes x =
    let bits = packed 11 15 x in
    cond (ne (unpacked 11 15 bits) x) (refused 27 []) (completed (bytes_of 2 bits))

-- and in four. Binary32 holds every value of binary16, so no such norm is refused.
unfoldable pub f32_bytes : Float → Outcome (List ℕ)
f32_bytes x = completed (bytes_of 4 (packed 24 127 x))

-- ---- the frame

-- the profile, and then the frame's width and number of blocks (17) and its padding (9) by the profile's numbers
unfoldable pub checked : ConvertCall → Parts → Outcome Unit
checked c parts =
    let p = c.profile in
    also (validity p c.schema c.algorithm c.log2)
    (expected p.wire_index_bits (p.ambient_dim / p.block_dim) parts)

-- these, and the norm by its rule (10): its value
unfoldable pub norm_by : (List ℕ → Outcome Float) → ConvertCall → Parts → Outcome Float
norm_by rule c parts = also (checked c parts) (rule parts.norm)

-- the same width, number of blocks and index bytes with another norm, for an output of just that length (7)
abbrev pub with_norm : ℕ → Parts → List ℕ → Outcome (List ℕ)
with_norm output parts norm =
    let frame = frame_of parts.width parts.count norm parts.indices in
    of_length output_slice (length frame) output (completed frame)

-- A frame whose norm is read by one rule (8, and then the above), with its norm written by another, for an output of so
-- many bytes.
abbrev pub converting : (List ℕ → Outcome Float) → (Float → Outcome (List ℕ)) → ConvertCall → ℕ → Outcome (List ℕ)
converting read write c output =
    and_then (parsed c.bytes)
    (λ parts. and_then (norm_by read c parts)
    (λ x. and_then (write x)
    (with_norm output parts)))

-- from four bytes to two: 8, the profile, 17, 9, 10, 27, 7
abbrev pub to_f16 : ConvertCall → ℕ → Outcome (List ℕ)
to_f16 = converting norm_value_f32 f16_bytes

-- from two bytes to four: the same without 27
abbrev pub to_f32 : ConvertCall → ℕ → Outcome (List ℕ)
to_f32 = converting norm_value f32_bytes
