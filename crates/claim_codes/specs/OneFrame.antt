-- Document 02's K13: to compare the bytes of two accepted frames is to compare their codes (`OneFrame`). Accepted means: up to
-- and including norm and indices, by `decodable`, which decode's contract cites; of the converter, up to and including the
-- norm, by `Accepted` (Converted.antt): the first steps of `to_f16` and `to_f32`, which its contracts cite. That encode's
-- frames are accepted is said by `RoundTrip` (Codes.antt), and of converted ones by `Converted`.
-- proofs/OneFrameLaw.antt proves it, of every list whose elements are bytes where it says so, else of every list.
-- Definitions only.
use Rattle.std.specs.Prelude.{◌≡◌, ℕ, ◌/◌, ◌^◌, ◌<◌, List, ◌∷◌, ◌++◌, length, get_or, Float}
use Rattle.error.specs.Numbers.{Outcome, completed}
use Rattle.slices.specs.Bytes.{Bytes, number_of}
use Rattle.narrow.specs.Format.{unpacked}
use Rattle.compact.specs.Frame.{parts_in, code_frame}
use Rattle.profile.specs.declared.FibQuantProfile.{FibQuantProfile}
use Rattle.norm.specs.Norm.{norm_value, norm_value_f32}
use Rattle.decode.specs.Decode.{DecodeCall, decodable, indices_of}
use Rattle.convert.specs.Convert.{ConvertCall}
use Rattle.claim_codes.specs.Converted.{Accepted}

-- ---- the code in a frame: the norm's bytes as one number, and the indices
abbrev pub norm_bits_of : List ℕ → ℕ
norm_bits_of frame = number_of (parts_in frame).norm

abbrev pub index_list_of : List ℕ → List ℕ
index_list_of frame = indices_of (parts_in frame)

-- ---- frames that are accepted

-- Under this profile some call of decode passes every check up to 10 with the frame: 8, the profile, 7, 18, 17, 9, 11, 10.
-- Whether 12 comes does not matter. Strings, log2, matrix, codewords and lengths may be others for another frame.
pub record Decodable (p : FibQuantProfile) (frame : List ℕ) : Type 0 where
  pub call : DecodeCall
  pub profile_is : call.profile ≡ p
  pub bytes_are : call.bytes ≡ frame
  pub norm : Float
  pub norm_is : decodable call ≡ completed norm

-- Under a profile of this width of an index and this number of blocks some call of the converter, its norm read by this rule,
-- passes 8, the profile, 17, 9 and 10 with the frame. Whether 27 comes, or 7, does not matter; no index is held to N.
pub record Convertible (read : List ℕ → Outcome Float) (width count : ℕ) (frame : List ℕ) : Type 0 where
  pub call : ConvertCall
  pub width_is : call.profile.wire_index_bits ≡ width
  pub count_is : call.profile.ambient_dim / call.profile.block_dim ≡ count
  pub bytes_are : call.bytes ≡ frame
  pub accepted : Accepted read call

-- ---- what is claimed of the frames that are accepted, at one width and number of blocks, with norms of n bytes
pub record OneForOne (width count n : ℕ) (Accepts : List ℕ → Type 0) : Type 0 where
  -- such a frame is exactly what writing its norm bits and its index list gives
  pub written : (frame : List ℕ) → Bytes frame → Accepts frame
      → frame ≡ code_frame width count n (norm_bits_of frame) (index_list_of frame)
  -- which cuts nothing off: the bits fit n bytes, and there are so many indices that fit the width
  pub fits : (frame : List ℕ) → Bytes frame → Accepts frame
      → (norm_bits_of frame < 256 ^ n) × (length (index_list_of frame) ≡ count)
      × ((i : ℕ) → i < count → get_or (index_list_of frame) i 0 < 2 ^ width)
  -- so norm bits and indices are equal exactly when the bytes are
  pub equal : (frame other : List ℕ) → Bytes frame → Bytes other → Accepts frame → Accepts other
      → ((norm_bits_of frame ≡ norm_bits_of other) × (index_list_of frame ≡ index_list_of other) → frame ≡ other)
      × (frame ≡ other → (norm_bits_of frame ≡ norm_bits_of other) × (index_list_of frame ≡ index_list_of other))
  -- and none is a proper beginning of another
  pub no_beginning : (frame rest : List ℕ) (b : ℕ) → Accepts frame → Accepts (frame ++ b ∷ rest) → ⊥

-- ---- the whole of K13
pub record OneFrame : Type 0 where
  -- decode's frames under one profile; it is valid wherever a frame is accepted, since `decodable` tests it
  pub decoded : (p : FibQuantProfile) → OneForOne p.wire_index_bits (p.ambient_dim / p.block_dim) 2 (Decodable p)
  -- K9's older ones
  pub older : (width count : ℕ) → OneForOne width count 4 (Convertible norm_value_f32 width count)
  -- and all those of today's norms that the converter accepts, whatever their indices: decode's are among them
  pub newer : (width count : ℕ) → OneForOne width count 2 (Convertible norm_value width count)
  pub among : (p : FibQuantProfile) (frame : List ℕ) → Decodable p frame
      → Convertible norm_value p.wire_index_bits (p.ambient_dim / p.block_dim) frame
  -- in an archive that has both, no frame of the one kind is one of the other or its beginning
  pub kinds_apart : (width count width' count' : ℕ) (frame rest : List ℕ)
      → (Convertible norm_value width count frame → Convertible norm_value_f32 width' count' (frame ++ rest) → ⊥)
      × (Convertible norm_value_f32 width count frame → Convertible norm_value width' count' (frame ++ rest) → ⊥)
  -- these bits are the pattern of the norm that is read
  pub norm_read : (c : DecodeCall) (x : Float) → decodable c ≡ completed x → x ≡ unpacked 11 15 (norm_bits_of c.bytes)
  pub norm_older : (c : ConvertCall) (a : Accepted norm_value_f32 c) → a.norm ≡ unpacked 24 127 (norm_bits_of c.bytes)
  -- and two different codes are never written alike: what is written of a code is read back
  pub read_back : (width count n bits : ℕ) (indices : List ℕ)
      → n < 2 ^ 16 → count < 2 ^ 32 → bits < 256 ^ n → length indices ≡ count
      → ((i : ℕ) → i < count → get_or indices i 0 < 2 ^ width)
      → (norm_bits_of (code_frame width count n bits indices) ≡ bits)
      × (index_list_of (code_frame width count n bits indices) ≡ indices)
