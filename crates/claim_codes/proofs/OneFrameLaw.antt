-- Document 02's K13: `one_frame`. Assumes nothing.
use mathlib.Core.Path.{◌≡◌, refl, sym, ap, ◌∙◌, subst}
use mathlib.Core.List.{List, ◌∷◌, ◌++◌}
use Prim.Native.Nat.{ℕ, ◌*◌, ◌/◌, ◌^◌, ◌<◌}
use native.Mathlib.Omega.{arith}
use lib.ListN.{length, get_or}
use lib.Ieee.{Float}
use Rattle.error.specs.Numbers.{completed}
use Rattle.error.proofs.Outcomes.{then_completed}
use Rattle.error.proofs.Refusals.{also_first, also_next, also_then}
use Rattle.slices.specs.Bytes.{Bytes, bytes_of, number_of}
use Rattle.slices.proofs.BytesLaw.{number_of_bytes, length_bytes, bytes_of_number, number_below}
use Rattle.narrow.specs.Format.{unpacked}
use Rattle.bitpack.specs.Layout.{bytes_for, packed_bytes, unpacked_indices, stream_bit}
use Rattle.bitpack.proofs.Fields.{field_lt}
use Rattle.bitpack.proofs.Packing.{stream_binary, length_packed, length-unpacked, unpacked_index, unpack_pack, pack_unpack}
use Rattle.compact.specs.Frame.{Parts, parts_in, parsed, frame_of, code_frame}
use Rattle.compact.specs.Expected.{expected}
use Rattle.compact.proofs.FrameLaws.{parsed_inverse, parse_written, write_parsed, length_norm, length_indices, bytes_norm, bytes_indices, same_norm_length, no_beginning}
use Rattle.compact.proofs.ExpectedLaw.{AsExpected, as_expected}
use Rattle.profile.specs.declared.FibQuantProfile.{FibQuantProfile}
use Rattle.profile.specs.Checks.{validity}
use Rattle.profile.proofs.Facts as profile-facts
use Rattle.norm.specs.Norm.{value_of, norm_value, norm_value_f32}
use Rattle.norm.proofs.NormLaw.{as_read}
use Rattle.decode.specs.Decode.{DecodeCall, indices_of, indexed, readable_by, readable, decodable}
use Rattle.decode.proofs.CheckLaw.{Passes, Sizes, Bounds, Indices}
use Rattle.convert.specs.Convert.{ConvertCall, convert_call, checked, norm_by}
use Rattle.claim_codes.specs.Converted.{Accepted}
use Rattle.claim_codes.specs.OneFrame.{norm_bits_of, index_list_of, Decodable, Convertible, OneForOne, OneFrame}

-- ---- what an accepted frame has shown
record Shown (width count n : ℕ) (frame : List ℕ) : Type 0 where
  parses : parsed frame ≡ completed (parts_in frame)
  fitting : AsExpected width count (parts_in frame)
  some : 0 < width
  sized : length (parts_in frame).norm ≡ n

parses_in : (frame : List ℕ) (parts : Parts) → parsed frame ≡ completed parts → parsed frame ≡ completed (parts_in frame)
parses_in frame parts e = e ∙ ap completed (parsed_inverse frame parts e).1

-- by the converter, with norms of n bytes
module _ (n p E : ℕ) where
  shown_of_call : (c : ConvertCall) → Accepted (value_of n p E) c → Shown c.profile.wire_index_bits (c.profile.ambient_dim / c.profile.block_dim) n c.bytes
  unfolding norm_by checked
  shown_of_call c a =
      let is = (parsed_inverse c.bytes a.parts a.parses).1 in
      let w = c.profile.wire_index_bits in
      let blocks = c.profile.ambient_dim / c.profile.block_dim in
      let passes = also_first (checked c a.parts) _ a.norm_is in
      let v = profile-facts.valid c.profile c.schema c.algorithm c.log2 (also_first (validity c.profile c.schema c.algorithm c.log2) _ passes) in
      let read = as_read n p E a.parts.norm a.norm (also_next (checked c a.parts) _ a.norm_is) in
      record {
        parses = parses_in c.bytes a.parts a.parses;
        fitting = subst (λ (q : Parts). AsExpected w blocks q) is (as_expected w blocks a.parts (also_next (validity c.profile c.schema c.algorithm c.log2) _ passes));
        some = omega (arith, v.width_least);
        sized = subst (λ (q : Parts). length q.norm ≡ n) is read.sized;
      }

  shown : (width count : ℕ) (frame : List ℕ) → Convertible (value_of n p E) width count frame → Shown width count n frame
  shown width count frame a =
      let w = a.call.profile.wire_index_bits in
      let blocks = a.call.profile.ambient_dim / a.call.profile.block_dim in
      subst (λ (m : ℕ). Shown m count n frame) a.width_is
      (subst (λ (m : ℕ). Shown w m n frame) a.count_is (subst (λ (bs : List ℕ). Shown w blocks n bs) a.bytes_are (shown_of_call a.call a.accepted)))

-- by decode: what passes its checks passes the converter's
module _ (c : DecodeCall) (parts : Parts) (norm : Float) where
  abbrev converting : ConvertCall
  converting = convert_call c.profile c.schema c.algorithm c.log2 c.bytes

  also_converted : readable c parts ≡ completed norm → norm_by norm_value converting parts ≡ completed norm
  unfolding readable_by indexed norm_by checked
  also_converted e =
      let w = c.profile.wire_index_bits in
      let blocks = c.profile.ambient_dim / c.profile.block_dim in
      let e1 = also_next (Passes c parts) _ e in
      let e2 = also_next (Sizes c parts) _ e1 in
      let e3 = also_next (Bounds c parts) _ e2 in
      let x = also_first (expected w blocks parts) _ (also_first (Indices c parts) _ e3) in
      also_then (checked converting parts) _ (also_then (Passes c parts) _ (also_first (Passes c parts) _ e) ∙ x) ∙ also_next (Indices c parts) _ e3

accepted_of : (c : DecodeCall) (norm : Float) → decodable c ≡ completed norm → Accepted norm_value (convert_call c.profile c.schema c.algorithm c.log2 c.bytes)
accepted_of c norm e =
    let (parts, parses, r) = then_completed (parsed c.bytes) (readable c) norm e in
    record { parts = parts; parses = parses; norm = norm; norm_is = also_converted c parts norm r }

among : (p : FibQuantProfile) (frame : List ℕ) → Decodable p frame → Convertible norm_value p.wire_index_bits (p.ambient_dim / p.block_dim) frame
among p frame a = record {
  call = convert_call a.call.profile a.call.schema a.call.algorithm a.call.log2 a.call.bytes;
  width_is = ap (λ (q : FibQuantProfile). q.wire_index_bits) a.profile_is;
  count_is = ap (λ (q : FibQuantProfile). q.ambient_dim / q.block_dim) a.profile_is;
  bytes_are = a.bytes_are;
  accepted = accepted_of a.call a.norm a.norm_is;
}

-- ---- frames that have shown that
-- the parts of a frame, by their code
by_code : (width count n : ℕ) (q : Parts) → q.width ≡ width → q.count ≡ count → length q.norm ≡ n → bytes_of (length q.norm) (number_of q.norm) ≡ q.norm
    → packed_bytes (indices_of q) q.width ≡ q.indices → frame_of q.width q.count q.norm q.indices ≡ code_frame width count n (number_of q.norm) (indices_of q)
by_code width count n q w c s h i = rw (← w, ← c, ← s, h, i) refl

module _ (width count n : ℕ) (Accepts : List ℕ → Type 0) (shows : (frame : List ℕ) → Accepts frame → Shown width count n frame) where
  module _ (frame : List ℕ) (b : Bytes frame) (s : Shown width count n frame) where
    abbrev parts : Parts
    parts = parts_in frame

    written : frame ≡ code_frame width count n (norm_bits_of frame) (index_list_of frame)
    written =
        write_parsed frame parts b s.parses
        ∙ by_code width count n parts s.fitting.width s.fitting.count s.sized (bytes_of_number parts.norm (bytes_norm frame parts b s.parses))
        (pack_unpack parts.indices parts.count parts.width (subst (λ (m : ℕ). 0 < m) (sym s.fitting.width) s.some) (bytes_indices frame parts b s.parses) (length_indices frame parts s.parses) s.fitting.padding)

    bits_fit : norm_bits_of frame < 256 ^ n
    bits_fit = subst (λ (m : ℕ). number_of parts.norm < 256 ^ m) s.sized (number_below parts.norm (bytes_norm frame parts b s.parses))

    so_many : length (index_list_of frame) ≡ count
    so_many = length-unpacked parts.indices parts.count parts.width ∙ s.fitting.count

    index_fits : (i : ℕ) → i < count → get_or (index_list_of frame) i 0 < 2 ^ width
    index_fits i l =
        rw (unpacked_index parts.indices parts.count parts.width i (subst (λ (m : ℕ). i < m) (sym s.fitting.count) l), s.fitting.width)
        (field_lt (stream_bit parts.indices) (i * width) width (stream_binary parts.indices))

  one_for_one : OneForOne width count n Accepts
  one_for_one = record {
    written = λ frame b a. written frame b (shows frame a);
    fits = λ frame b a. (bits_fit frame b (shows frame a), so_many frame b (shows frame a), index_fits frame b (shows frame a));
    equal = λ frame other b c a z. (
      λ e. written frame b (shows frame a) ∙ rw (e.0, e.1) (sym (written other c (shows other z))),
      λ e. (ap norm_bits_of e, ap index_list_of e),
    );
    no_beginning = λ frame rest b a z. no_beginning frame rest b _ _ (shows frame a).parses (shows (frame ++ b ∷ rest) z).parses;
  }

-- ---- norms of different lengths
lengths_apart : (frame rest : List ℕ) (width count n width' count' m : ℕ) → Shown width count n frame → Shown width' count' m (frame ++ rest) → n ≡ m
lengths_apart frame rest width count n width' count' m s z =
    let v = (parsed_inverse frame (parts_in frame) s.parses).0 in
    let w = (parsed_inverse (frame ++ rest) (parts_in (frame ++ rest)) z.parses).0 in
    sym s.sized ∙ length_norm frame v ∙ sym (same_norm_length frame rest v.long) ∙ sym (length_norm (frame ++ rest) w) ∙ z.sized

-- ---- the norm that is read
pattern_read : (n p E : ℕ) (c : ConvertCall) (a : Accepted (value_of n p E) c) → a.norm ≡ unpacked p E (norm_bits_of c.bytes)
unfolding norm_by
pattern_read n p E c a =
    let is = (parsed_inverse c.bytes a.parts a.parses).1 in
    (as_read n p E a.parts.norm a.norm (also_next (checked c a.parts) _ a.norm_is)).is ∙ ap (λ (q : Parts). unpacked p E (number_of q.norm)) is

norm_read : (c : DecodeCall) (x : Float) → decodable c ≡ completed x → x ≡ unpacked 11 15 (norm_bits_of c.bytes)
unfolding accepted_of
norm_read c x e = pattern_read 2 11 15 (convert_call c.profile c.schema c.algorithm c.log2 c.bytes) (accepted_of c x e)

-- ---- back from what is written of a code
module _ (width count n bits : ℕ) (indices : List ℕ) (short : n < 2 ^ 16) (few : count < 2 ^ 32) (small : bits < 256 ^ n) (many : length indices ≡ count)
    (fit : (i : ℕ) → i < count → get_or indices i 0 < 2 ^ width) where
  abbrev code : Parts
  code = record { width = width; count = count; norm = bytes_of n bits; indices = packed_bytes indices width }

  parts_are : parts_in (code_frame width count n bits indices) ≡ code
  parts_are =
      sym (parsed_inverse (code_frame width count n bits indices) code (parse_written width count (bytes_of n bits) (packed_bytes indices width) few
      (omega (arith, length_bytes n bits)) (length_packed indices width ∙ ap (λ (m : ℕ). bytes_for (m * width)) many))).1

  read_back : (norm_bits_of (code_frame width count n bits indices) ≡ bits) × (index_list_of (code_frame width count n bits indices) ≡ indices)
  read_back = (
    ap (λ (q : Parts). number_of q.norm) parts_are ∙ number_of_bytes n bits small,
    ap indices_of parts_are ∙ ap (λ (m : ℕ). unpacked_indices (packed_bytes indices width) m width) (sym many) ∙ unpack_pack indices width (λ i l. fit i (subst (λ (m : ℕ). i < m) many l)),
  )

pub one_frame : OneFrame
one_frame = record {
  decoded = λ p. one_for_one p.wire_index_bits (p.ambient_dim / p.block_dim) 2 (Decodable p)
      (λ frame a. shown 2 11 15 p.wire_index_bits (p.ambient_dim / p.block_dim) frame (among p frame a));
  older = λ width count. one_for_one width count 4 (Convertible norm_value_f32 width count) (shown 4 24 127 width count);
  newer = λ width count. one_for_one width count 2 (Convertible norm_value width count) (shown 2 11 15 width count);
  among = among;
  kinds_apart = λ width count width' count' frame rest. (
    λ a z. let e : ◌≡◌ {A = ℕ} 2 4 = lengths_apart frame rest width count 2 width' count' 4 (shown 2 11 15 width count frame a) (shown 4 24 127 width' count' (frame ++ rest) z) in omega arith,
    λ a z. let e : ◌≡◌ {A = ℕ} 4 2 = lengths_apart frame rest width count 4 width' count' 2 (shown 4 24 127 width count frame a) (shown 2 11 15 width' count' (frame ++ rest) z) in omega arith,
  );
  norm_read = norm_read;
  norm_older = pattern_read 4 24 127;
  read_back = read_back;
}
