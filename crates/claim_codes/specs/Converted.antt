-- What document 02's K9 asks of a frame whose norm is rewritten in the other format: nothing else is another (`Converted`);
-- and what an accepted frame comes to, and when 27 comes (`Shortening`, `Lengthening`, `ValidNorms`).
-- proofs/ConvertedLaw.antt proves it of every call; `Converted` needs the old frame's elements to be bytes. The contracts of
-- convert's to_f16 and to_f32 cite the same `to_f16` and `to_f32`. Definitions only.
use Rattle.std.specs.Prelude.{◌≡◌, ◌≢◌, ℕ, ◌+◌, ◌^◌, ◌<◌, List, [], ◌∷◌, length, Float}
use Rattle.error.specs.Names.{output_slice}
use Rattle.error.specs.Numbers.{Value, Outcome, completed, refused, whole}
use Rattle.slices.specs.Bytes.{bytes_of}
use Rattle.narrow.specs.Format.{inf_of, unpacked}
use Rattle.compact.specs.Frame.{Parts, parsed, frame_of}
use Rattle.norm.specs.Norm.{norm_value, norm_value_f32}
use Rattle.decode.specs.Decode.{DecodeCall, decode_call, decodable_by, decoding_by}
use Rattle.convert.specs.Convert.{ConvertCall, convert_call, norm_by, to_f16, to_f32}

-- ---- the same call with another frame
abbrev pub converting_of : ConvertCall → List ℕ → ConvertCall
converting_of c bytes = convert_call c.profile c.schema c.algorithm c.log2 bytes

abbrev pub decoding_of : DecodeCall → List ℕ → DecodeCall
decoding_of q bytes = decode_call q.profile q.schema q.algorithm q.log2 q.matrix q.codewords bytes q.output q.work

-- ---- the frame of a call, and what was made of it: `before` reads the norm of the one, `after` that of the other
pub record Converted (before after : List ℕ → Outcome Float) (back : ConvertCall → ℕ → Outcome (List ℕ))
    (c : ConvertCall) (frame : List ℕ) : Type 0 where
  -- nothing but the norm is another: width, number of blocks and index bytes are as they were
  pub parts : Parts
  pub parses : parsed c.bytes ≡ completed parts
  pub norm : List ℕ
  pub frame_is : frame ≡ frame_of parts.width parts.count norm parts.indices
  pub parses_after : parsed frame
      ≡ completed (record { width = parts.width; count = parts.count; norm = norm; indices = parts.indices })
  -- and this is the same number
  pub value : Float
  pub value_before : before parts.norm ≡ completed value
  pub value_after : after norm ≡ completed value
  -- there and back: the same bytes
  pub back_again : back (converting_of c frame) (length c.bytes) ≡ completed c.bytes
  -- Whatever a call of decode is given beside it, it comes to what document 01's rules give for the frame before, with its
  -- norm read in its own format: the values or the refusal, and what is left in the work.
  pub decoded : (q : DecodeCall) → decoding_by after (decoding_of q frame) ≡ decoding_by before (decoding_of q c.bytes)
  pub decodes : (q : DecodeCall) → decodable_by after (decoding_of q frame) ≡ decodable_by before (decoding_of q c.bytes)

-- from four bytes to two, and from two to four
abbrev pub Shortened : ConvertCall → List ℕ → Type 0
Shortened = Converted norm_value_f32 norm_value to_f32

abbrev pub Lengthened : ConvertCall → List ℕ → Type 0
Lengthened = Converted norm_value norm_value_f32 to_f16

-- ---- when

-- a frame that has passed 8, the profile's checks, 17, 9 and 10, with its norm
pub record Accepted (read : List ℕ → Outcome Float) (c : ConvertCall) : Type 0 where
  pub parts : Parts
  pub parses : parsed c.bytes ≡ completed parts
  pub norm : Float
  pub norm_is : norm_by read c parts ≡ completed norm

-- a pattern of binary16 that stands for this number
pub record InBinary16 (x : Float) : Type 0 where
  pub bits : ℕ
  pub small : bits < 2 ^ 16
  pub stands : unpacked 11 15 bits ≡ x

-- a frame that a conversion makes
pub record Made (outcome : Outcome (List ℕ)) : Type 0 where
  pub frame : List ℕ
  pub is : outcome ≡ completed frame

-- towards binary16: if that has the norm, the frame is made, of two bytes less, or 7; else 27, which comes nowhere else
pub record Shortening (c : ConvertCall) : Type 0 where
  pub done : (a : Accepted norm_value_f32 c) → InBinary16 a.norm
      → (output : ℕ) → output + 2 ≡ length c.bytes → Made (to_f16 c output)
  pub length_last : (a : Accepted norm_value_f32 c) → InBinary16 a.norm
      → (output : ℕ) → output + 2 ≢ length c.bytes → to_f16 c output ≡ refused 7 (whole output_slice ∷ [])
  pub inexact : (a : Accepted norm_value_f32 c) → (InBinary16 a.norm → ⊥)
      → (output : ℕ) → to_f16 c output ≡ refused 27 []
  pub only : (output : ℕ) (values : List Value) → to_f16 c output ≡ refused 27 values
      → (a : Accepted norm_value_f32 c) × (InBinary16 a.norm → ⊥)

-- back: the frame is made, of two bytes more, or 7; never 27
pub record Lengthening (c : ConvertCall) : Type 0 where
  pub done : Accepted norm_value c → (output : ℕ) → output ≡ length c.bytes + 2 → Made (to_f32 c output)
  pub length_last : Accepted norm_value c
      → (output : ℕ) → output ≢ length c.bytes + 2 → to_f32 c output ≡ refused 7 (whole output_slice ∷ [])
  pub never : (output : ℕ) (values : List Value) → to_f32 c output ≡ refused 27 values → ⊥

-- the norms of two bytes that are accepted: 0x0001 to 0x7BFF
pub record ValidNorms : Type 0 where
  pub each : (bits : ℕ) → 0 < bits → bits < inf_of 11 15 → norm_value (bytes_of 2 bits) ≡ completed (unpacked 11 15 bits)
  pub others : (bits : ℕ) → bits < 2 ^ 16 → (x : Float) → norm_value (bytes_of 2 bits) ≡ completed x
      → (0 < bits) × (bits < inf_of 11 15)
