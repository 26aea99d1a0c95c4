-- A frame that encoding is completed with, read back from its bytes: its parts, its indices, its norm. Assumes nothing.
use Rattle.std.specs.Prelude.{Option, None, Some}
use mathlib.Core.Path.{◌≡◌, refl, sym, ap, ◌∙◌, subst}
use Prim.Native.Nat.{ℕ, ◌+◌, ◌-◌, ◌*◌, ◌/◌, ◌%◌, ◌≤◌, ◌<◌}
use native.Mathlib.Nat.{lt_of_le_of_lt, div-le_self}
use native.Mathlib.Omega.{arith}
use mathlib.Core.Bool.{Bool, not}
use mathlib.Core.List.{List, [], ◌∷◌}
use lib.Dec.{T, lit<, ltb}
use lib.ListN.{length, get_or}
use lib.Ieee.{Float, nan, eq}
use lib.Ieee.Scale.{finite}
use borrow.Author.Tests.{eq-eqb, lt-ltb}
use Rattle.error.specs.Numbers.{completed, whole}
use Rattle.error.proofs.Outcomes.{never, completed_same, passed, then_completed}
use Rattle.error.proofs.Refusals.{also_first, also_next}
use Rattle.ieee.specs.Sum.{plus_zero}
use Rattle.slices.specs.First.{first_where}
use Rattle.slices.proofs.FirstLaw.{nowhere, all_finite}
use Rattle.narrow.specs.Format.{unpacked}
use Rattle.bitpack.specs.Layout.{bytes_for, stream_bit, packed_bit, packed_bytes, unpacked_indices, padding_from}
use Rattle.bitpack.proofs.Fields.{field_zero, bit_field}
use Rattle.bitpack.proofs.Packing.{packed_binary, packed_after, packed_byte, length_packed, unpack_pack}
use Rattle.slices.specs.Bytes.{bytes_of}
use Rattle.slices.proofs.BytesLaw.{length_bytes}
use Rattle.compact.specs.Frame.{Parts, parsed}
use Rattle.compact.proofs.FrameLaws.{parse_written}
use Rattle.slices.specs.Limit.{first_not_finite}
use Rattle.norm.specs.Norm.{norm_bits, norm_value}
use Rattle.norm.proofs.NormLaw.{norm_written, read_back}
use Rattle.decode.specs.Decode.{below, indices_of, indexed, readable}
use Rattle.decode.specs.Decode as decode
use Rattle.decode.proofs.CheckLaw.{clear, read_norm, decoding_is, decodable_is}
use Rattle.encode.specs.Encode.{EncodeCall, norm_of, searched, indices_for, frame_for, finite_input, normed, fitting, codable, encoding}
use Rattle.encode.proofs.AcceptLaw.{Fitting, fitting_accepted, indices_fit}
use Rattle.lloyd_search.proofs.NearestLaw.{index_below}
use Rattle.encode.proofs.EncodeLaw.{length_indices, get_d_indices, index_fits}
use Rattle.claim_codes.specs.Codes.{Headed, decoding_of, RoundTrip}

-- ---- packing sets no padding bit
packed_stream : (xs : List ℕ) (w p : ℕ) → p < 8 * bytes_for (length xs * w) → stream_bit (packed_bytes xs w) p ≡ packed_bit xs w p
unfolding stream_bit
packed_stream xs w p l =
    let q : 8 * (p / 8) + p % 8 ≡ p = omega arith in
    rw (packed_byte xs w (p / 8) (omega arith), bit_field (packed_bit xs w) (8 * (p / 8)) 8 (p % 8) (packed_binary xs w) (omega arith), q)

no_padding : (xs : List ℕ) (w : ℕ) → padding_from (packed_bytes xs w) (length xs * w) ≡ 0
no_padding xs w =
    field_zero (stream_bit (packed_bytes xs w)) (length xs * w) (8 * length (packed_bytes xs w) - length xs * w)
    (λ j l. let e = length_packed xs w in packed_stream xs w (length xs * w + j) (omega arith) ∙ packed_after xs w (length xs * w + j) (omega arith))

-- ---- what an encoding that is completed has shown
finite_input_lem : (f : Option ℕ) → finite_input f ≡ completed tt → f ≡ None
finite_input_lem None e = refl
finite_input_lem (Some place) e = absurd (never 12 (whole place ∷ []) tt e)

pub record Normed (input : List Float) (bits : ℕ) : Type 0 where
  pub input_finite : (i : ℕ) → i < length input → T (finite (get_or input i nan))
  pub pattern : norm_bits (norm_of input) ≡ completed bits

pub norm_passed : (input : List Float) (bits : ℕ) → normed input (norm_of input) ≡ completed bits → Normed input bits
unfolding normed
norm_passed input bits e =
    let a = also_first (finite_input (first_not_finite input)) _ e in
    let b = also_next (finite_input (first_not_finite input)) _ e in
    record { input_finite = all_finite input (finite_input_lem (first_not_finite input) a); pattern = (passed (eq (norm_of input) plus_zero) 13 [] (norm_bits (norm_of input)) bits b).1 }

module _ (c : EncodeCall) (frame : List ℕ) where
  pub record Encoded : Type 0 where
    pub bits : ℕ
    pub passes : Fitting c
    pub norm : Normed c.input bits
    pub frame_is : frame ≡ frame_for c.profile c.matrix c.codewords c.input bits

  pub encoded : encoding c ≡ completed frame → Encoded
  unfolding codable
  encoded e =
      let (bits, h, k) = then_completed (codable c) (λ bits. completed (frame_for c.profile c.matrix c.codewords c.input bits)) frame e in
      record {
        bits = bits;
        passes = fitting_accepted c (also_first (fitting c) _ h);
        norm = norm_passed c.input bits (also_next (fitting c) _ h);
        frame_is = sym (completed_same _ frame k);
      }

  module _ (q : Encoded) where
    abbrev d : ℕ
    d = c.profile.ambient_dim

    abbrev k : ℕ
    k = c.profile.block_dim

    abbrev n : ℕ
    n = c.profile.codebook_size

    abbrev w : ℕ
    w = c.profile.wire_index_bits

    -- the indices that were chosen
    abbrev pub indices : List ℕ
    indices = indices_for (d / k) k n c.codewords (searched d c.matrix c.input (norm_of c.input))

    abbrev pub parts : Parts
    parts = record { width = w; count = d / k; norm = bytes_of 2 q.bits; indices = packed_bytes indices w }

    count_is : length indices ≡ d / k
    count_is = length_indices (d / k) k n c.codewords (searched d c.matrix c.input (norm_of c.input))

    pub parses : parsed frame ≡ completed parts
    parses =
        let few : d / k ≤ d = div-le_self d k in
        let most = q.passes.valid.dim_most in
        ap parsed q.frame_is
        ∙ parse_written w (d / k) (bytes_of 2 q.bits) (packed_bytes indices w) (lt_of_le_of_lt few (lt_of_le_of_lt most (lit< tt))) (rw (length_bytes 2 q.bits) (omega arith))
        (length_packed indices w ∙ ap (λ (z : ℕ). bytes_for (z * w)) count_is)

    pub headed : Headed c.profile frame parts
    headed = record { parses = parses; width_is = refl; count_is = refl }

    some : 1 ≤ n
    some = let b = q.passes.valid.shape.book_least in omega arith

    -- what is unpacked from the frame's bytes is what was chosen
    pub indices_are : indices_of parts ≡ indices
    indices_are =
        ap (λ (z : ℕ). unpacked_indices (packed_bytes indices w) z w) (sym count_is)
        ∙ unpack_pack indices w (λ i l. index_fits (d / k) k n c.codewords (searched d c.matrix c.input (norm_of c.input)) w some (indices_fit c.profile q.passes.valid) i (subst (λ (z : ℕ). i < z) count_is l))

    all_below : below n (indices_of parts) ≡ completed tt
    all_below =
        let t : ℕ → Bool = λ i. not (ltb (get_or indices i 0) n) in
        let none : first_where t (length indices) ≡ None =
        nowhere t (length indices)
        (λ i l. let h : i < d / k = subst (λ (z : ℕ). i < z) count_is l in
        ap not (lt-ltb (get_or indices i 0) n (rw (get_d_indices (d / k) k n c.codewords (searched d c.matrix c.input (norm_of c.input)) i h) (index_below _ n some)))) in
        ap (below n) indices_are ∙ ap (decode.offending n indices) none

    clean : padding_from (packed_bytes indices w) (d / k * w) ≡ 0
    clean = ap (λ (z : ℕ). padding_from (packed_bytes indices w) (z * w)) (sym count_is) ∙ no_padding indices w

    checked_indices : indexed w (d / k) n parts ≡ completed tt
    checked_indices = clear w (d / k) n parts refl refl clean ∙ all_below

    checked-lengths : decode.lengths d k n (length c.matrix) (length c.codewords) d (2 * d) ≡ completed tt
    checked-lengths = rw (q.passes.matrix_length, q.passes.codewords_length, eq-eqb (d * d) (d * d) refl, eq-eqb (n * k) (n * k) refl, eq-eqb d d refl, eq-eqb (2 * d) (2 * d) refl)

    -- the norm's two bytes stand for its pattern
    norm_back : norm_value (bytes_of 2 q.bits) ≡ completed (unpacked 11 15 q.bits)
    norm_back = let r = norm_written (norm_of c.input) q.bits q.norm.pattern in read_back q.bits r.above r.below

    reads : readable (decoding_of c frame) parts ≡ completed (unpacked 11 15 q.bits)
    reads = read_norm (decoding_of c frame) parts q.passes.validates checked-lengths q.passes.values_pass checked_indices ∙ norm_back

    pub round_trip_of : RoundTrip c frame
    round_trip_of = record {
      parts = parts;
      headed = headed;
      bits = q.bits;
      bits_are = q.norm.pattern;
      norm_is = refl;
      indices_are = indices_are;
      readable_back = decodable_is (decoding_of c frame) parts (unpacked 11 15 q.bits) parses reads;
      values_back = decoding_is (decoding_of c frame) parts (unpacked 11 15 q.bits) parses reads;
    }
