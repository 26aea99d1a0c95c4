-- Document 02's K9, of every call: `shortened_frame` and `lengthened_frame`, `shortening` and `lengthening`; and
-- `valid_norms`. Assumes nothing.
use mathlib.Core.Path.{◌≡◌, refl, sym, ap, ◌∙◌, subst}
use mathlib.Core.Bool.{Bool, true, false, cond}
use mathlib.Core.Logic.{inl, inr}
use Prim.Native.Nat.{ℕ, ◌+◌, ◌/◌, ◌^◌, ◌≤◌, ◌<◌}
use native.Mathlib.Nat.{lt_of_le_of_lt, div-le_self}
use native.Mathlib.Omega.{arith}
use mathlib.Core.List.{List, [], ◌∷◌}
use lib.Dec.{lit<, lit≤, eqb}
use lib.ListN.{length}
use lib.Ieee.{Float}
use borrow.Author.Tests.{eq-eqb}
use Rattle.std.proofs.Common.{ne_eqb, ◌≢◌}
use Rattle.error.specs.Numbers.{Value, Outcome, completed, refused, also, and_then, whole, of_length}
use Rattle.error.proofs.Outcomes.{never, completed_same, then_completed, then_refused, after_check}
use Rattle.error.proofs.Refusals.{also_first, also_next}
use Rattle.slices.specs.Bytes.{Bytes, bytes_of, number_of}
use Rattle.slices.proofs.BytesLaw.{length_bytes, number_of_bytes}
use Rattle.narrow.specs.Format.{unpacked}
use Rattle.narrow.specs.Pack.{packed}
use Rattle.compact.specs.Frame.{Parts, parsed, frame_of}
use Rattle.compact.specs.Expected.{expected}
use Rattle.compact.proofs.FrameLaws.{parse_written, write_parsed, length_indices, length_parsed, length_frame, bytes_norm, parsed_not}
use Rattle.compact.proofs.ExpectedLaw.{as_expected, expected_not}
use Rattle.profile.specs.Checks.{validity}
use Rattle.profile.proofs.Facts as profile-facts
use Rattle.norm.specs.Norm.{above_zero, value_of, norm_value, norm_value_f32}
use Rattle.norm.proofs.NormLaw.{Reads, as_read, value_not, read_back, norm_pattern}
use Rattle.decode.specs.Decode.{DecodeCall, indexed, readable_by, valued, decodable_by, decoding_by}
use Rattle.convert.specs.Convert.{ConvertCall, f16_bytes, f32_bytes, checked, norm_by, with_norm, converting, to_f16, to_f32}
use Rattle.convert.proofs.ConvertLaw.{converting_is}
use Rattle.convert.proofs.ExactLaw.{shortened, lengthened, f16_of, f16_refused, f16_none}
use Rattle.claim_codes.specs.Converted.{converting_of, decoding_of, Converted, Shortened, Lengthened, Accepted, InBinary16, Made, Shortening, Lengthening, ValidNorms}

-- ---- an output of the frame's length
module _ (output : ℕ) (frame : List ℕ) where
  made : output ≡ length frame → of_length 6 (length frame) output (completed frame) ≡ completed frame
  made e = rw (eq-eqb output (length frame) e)

  is_made : (new : List ℕ) → of_length 6 (length frame) output (completed frame) ≡ completed new → new ≡ frame
  is_made new = go (eqb output (length frame))
    where
      go : (t : Bool) → cond t (completed frame) (refused 7 (whole 6 ∷ [])) ≡ completed new → new ≡ frame
      go true e = sym (completed_same frame new e)
      go false e = absurd (never 7 (whole 6 ∷ []) new e)

  unmade : output ≢ length frame → of_length 6 (length frame) output (completed frame) ≡ refused 7 (whole 6 ∷ [])
  unmade h = rw (ne_eqb output (length frame) h)

  not_made : (values : List Value) → of_length 6 (length frame) output (completed frame) ≡ refused 27 values → ⊥
  not_made values = go (eqb output (length frame))
    where
      go : (t : Bool) → cond t (completed frame) (refused 7 (whole 6 ∷ [])) ≡ refused 27 values → ⊥
      go true e = never 27 values frame (sym e)
      go false e = let z : ◌≡◌ {A = ℕ} 7 27 = cc in omega arith

-- ---- what an accepted frame has shown
module _ (read : List ℕ → Outcome Float) (c : ConvertCall) (a : Accepted read c) where
  abbrev parts : Parts
  parts = a.parts

  value : read parts.norm ≡ completed a.norm
  unfolding norm_by
  value = also_next (checked c parts) _ a.norm_is

  passes : checked c parts ≡ completed tt
  unfolding norm_by
  passes = also_first (checked c parts) _ a.norm_is

  -- a number of blocks that a header holds
  few : parts.count < 2 ^ 32
  unfolding checked
  few =
      let p = c.profile in
      let v = profile-facts.valid p c.schema c.algorithm c.log2 (also_first (validity p c.schema c.algorithm c.log2) _ passes) in
      let e = as_expected p.wire_index_bits (p.ambient_dim / p.block_dim) parts (also_next (validity p c.schema c.algorithm c.log2) _ passes) in
      subst (λ (n : ℕ). n < 2 ^ 32) (sym e.count) (lt_of_le_of_lt (div-le_self p.ambient_dim p.block_dim) (lt_of_le_of_lt v.dim_most (lit< tt)))

-- ---- a conversion that is completed, from norms that `before` reads to norms that `after` reads
module _ (before after : List ℕ → Outcome Float) (write unwrite : Float → Outcome (List ℕ)) where
  -- what is asked of the norms alone
  module _ (short : (norm : List ℕ) (x : Float) → after norm ≡ completed x → length norm ≤ 65535)
      (exact : (norm new : List ℕ) → Bytes norm → (x : Float) → before norm ≡ completed x → write x ≡ completed new → (after new ≡ completed x) × (unwrite x ≡ completed norm)) where
    module _ (c : ConvertCall) (frame : List ℕ) (b : Bytes c.bytes) (a : Accepted before c) (norm : List ℕ) (w : write a.norm ≡ completed norm) (f : frame ≡ frame_of a.parts.width a.parts.count norm a.parts.indices) where
      abbrev new : Parts
      new = record { width = a.parts.width; count = a.parts.count; norm = norm; indices = a.parts.indices }

      norms : (after norm ≡ completed a.norm) × (unwrite a.norm ≡ completed a.parts.norm)
      norms = exact a.parts.norm norm (bytes_norm c.bytes a.parts b a.parses) a.norm (value before c a) w

      parses_after : parsed frame ≡ completed new
      parses_after = ap parsed f ∙ parse_written a.parts.width a.parts.count norm a.parts.indices (few before c a) (short norm a.norm norms.0) (length_indices c.bytes a.parts a.parses)

      -- the profile's checks see nothing of a norm
      same_checks : norm_by after (converting_of c frame) new ≡ completed a.norm
      unfolding norm_by checked expected
      same_checks = let p : checked c a.parts ≡ completed tt = passes before c a in ap (λ (o : Outcome Unit). also o (after norm)) p ∙ norms.0

      old : c.bytes ≡ frame_of a.parts.width a.parts.count a.parts.norm a.parts.indices
      old = write_parsed c.bytes a.parts b a.parses

      back_again : converting after unwrite (converting_of c frame) (length c.bytes) ≡ completed c.bytes
      back_again =
          converting_is after unwrite (converting_of c frame) (length c.bytes) new a.norm parses_after same_checks
          ∙ ap (λ (o : Outcome (List ℕ)). and_then o (with_norm (length c.bytes) new)) norms.1
          ∙ made (length c.bytes) (frame_of a.parts.width a.parts.count a.parts.norm a.parts.indices) (ap length old)
          ∙ ap completed (sym old)

      -- nor do decode's
      same_reading : (q : DecodeCall) → readable_by after (decoding_of q frame) new ≡ readable_by before (decoding_of q c.bytes) a.parts
      unfolding readable_by indexed expected
      same_reading q = rw (norms.0, value before c a) refl

      decodes : (q : DecodeCall) → decodable_by after (decoding_of q frame) ≡ decodable_by before (decoding_of q c.bytes)
      decodes q = rw (parses_after, a.parses) (same_reading q)

      decoded : (q : DecodeCall) → decoding_by after (decoding_of q frame) ≡ decoding_by before (decoding_of q c.bytes)
      decoded q = rw (parses_after, a.parses) (ap (λ (o : Outcome Float). and_then o (valued (decoding_of q frame) new)) (same_reading q))

      converted : Converted before after (converting after unwrite) c frame
      converted = record {
        parts = a.parts;
        parses = a.parses;
        norm = norm;
        frame_is = f;
        parses_after = parses_after;
        value = a.norm;
        value_before = value before c a;
        value_after = norms.0;
        back_again = back_again;
        decoded = decoded;
        decodes = decodes;
      }

    completed_conversion : (c : ConvertCall) (output : ℕ) (frame : List ℕ) → Bytes c.bytes → converting before write c output ≡ completed frame → Converted before after (converting after unwrite) c frame
    completed_conversion c output frame b e =
        let (parts, parses, e1) = then_completed (parsed c.bytes) (λ parts. and_then (norm_by before c parts) (λ x. and_then (write x) (with_norm output parts))) frame e in
        let (x, norm_is, e2) = then_completed (norm_by before c parts) (λ x. and_then (write x) (with_norm output parts)) frame e1 in
        let (norm, written, e3) = then_completed (write x) (with_norm output parts) frame e2 in
        converted c frame b (record { parts = parts; parses = parses; norm = x; norm_is = norm_is }) norm written (is_made output (frame_of parts.width parts.count norm parts.indices) frame e3)

short_value : (n p E : ℕ) → n ≤ 65535 → (norm : List ℕ) (x : Float) → value_of n p E norm ≡ completed x → length norm ≤ 65535
short_value n p E h norm x e = let s = (as_read n p E norm x e).sized in omega arith

pub shortened_frame : (c : ConvertCall) (output : ℕ) (frame : List ℕ) → Bytes c.bytes → to_f16 c output ≡ completed frame → Shortened c frame
shortened_frame = completed_conversion norm_value_f32 norm_value f16_bytes f32_bytes (short_value 2 11 15 (lit≤ tt)) shortened

pub lengthened_frame : (c : ConvertCall) (output : ℕ) (frame : List ℕ) → Bytes c.bytes → to_f32 c output ≡ completed frame → Lengthened c frame
lengthened_frame = completed_conversion norm_value norm_value_f32 f32_bytes f16_bytes (short_value 4 24 127 (lit≤ tt)) lengthened

-- ---- when: an accepted frame comes to what writing its norm does
module _ (read : List ℕ → Outcome Float) (write : Float → Outcome (List ℕ)) (c : ConvertCall) (a : Accepted read c) (output : ℕ) where
  converting_accepted : converting read write c output ≡ and_then (write a.norm) (with_norm output a.parts)
  converting_accepted = converting_is read write c output a.parts a.norm a.parses a.norm_is

  module _ (norm : List ℕ) (w : write a.norm ≡ completed norm) where
    frame : List ℕ
    frame = frame_of a.parts.width a.parts.count norm a.parts.indices

    sized : length frame ≡ 11 + length norm + length a.parts.indices
    unfolding frame
    sized = length_frame a.parts.width a.parts.count norm a.parts.indices

    comes_to : converting read write c output ≡ of_length 6 (length frame) output (completed frame)
    unfolding frame
    comes_to = converting_accepted ∙ ap (λ (o : Outcome (List ℕ)). and_then o (with_norm output a.parts)) w

    done_with : output ≡ 11 + length norm + length a.parts.indices → Made (converting read write c output)
    done_with l = record { frame = frame; is = comes_to ∙ made output frame (l ∙ sym sized) }

    wrong_with : output ≢ 11 + length norm + length a.parts.indices → converting read write c output ≡ refused 7 (whole 6 ∷ [])
    wrong_with h = comes_to ∙ unmade output frame (λ e. h (e ∙ sized))

-- 27 is a refusal of the norm's bytes
module _ (read : List ℕ → Outcome Float) (write : Float → Outcome (List ℕ)) (c : ConvertCall) (output : ℕ) (values : List Value) where
  record Late : Type 0 where
    accepted : Accepted read c
    inexact : write accepted.norm ≡ refused 27 values

  no_check : (parts : Parts) → ((norm : List ℕ) → read norm ≡ refused 27 values → ⊥) → norm_by read c parts ≡ refused 27 values → ⊥
  unfolding norm_by checked
  no_check parts n e =
      let p = c.profile in
      let v : validity p c.schema c.algorithm c.log2 ≡ refused 27 values → ⊥ = profile-facts.validity_not 27 values (lit< tt) p c.schema c.algorithm c.log2 in
      let x : expected p.wire_index_bits (p.ambient_dim / p.block_dim) parts ≡ refused 27 values → ⊥ = expected_not p.wire_index_bits (p.ambient_dim / p.block_dim) parts 27 values (lit< tt) in
      n parts.norm (after_check 27 values (checked c parts) (read parts.norm) (λ f. x (after_check 27 values (validity p c.schema c.algorithm c.log2) _ v f)) e)

  late : ((norm : List ℕ) → read norm ≡ refused 27 values → ⊥) → converting read write c output ≡ refused 27 values → Late
  late n e = elim (then_refused (parsed c.bytes) (λ parts. and_then (norm_by read c parts) (λ x. and_then (write x) (with_norm output parts))) 27 values e) [
    | inl r ↦ absurd (parsed_not c.bytes 27 values (lit< tt) r)
    | inr (parts, parses, e1) ↦ elim (then_refused (norm_by read c parts) (λ x. and_then (write x) (with_norm output parts)) 27 values e1) [
      | inl r ↦ absurd (no_check parts n r)
      | inr (x, norm_is, e2) ↦ elim (then_refused (write x) (with_norm output parts) 27 values e2) [
        | inl r ↦ record { accepted = record { parts = parts; parses = parses; norm = x; norm_is = norm_is }; inexact = r }
        | inr (norm, written, e3) ↦ absurd (not_made output (frame_of parts.width parts.count norm parts.indices) values e3)
      ]
    ]
  ]

-- ---- towards binary16
module _ (c : ConvertCall) where
  module _ (a : Accepted norm_value_f32 c) where
    pattern : ℕ
    pattern = number_of a.parts.norm

    reads : Reads 4 24 127 a.parts.norm a.norm
    reads = as_read 4 24 127 a.parts.norm a.norm (value norm_value_f32 c a)

    positive : above_zero (unpacked 24 127 pattern) ≡ true
    unfolding pattern
    positive = ap above_zero (sym reads.is) ∙ reads.positive

    by_pattern : (o : Outcome (List ℕ)) → f16_bytes (unpacked 24 127 pattern) ≡ o → f16_bytes a.norm ≡ o
    unfolding pattern
    by_pattern o e = ap f16_bytes reads.is ∙ e

    module _ (h : InBinary16 a.norm) (output : ℕ) where
      written : f16_bytes a.norm ≡ completed (bytes_of 2 h.bits)
      unfolding pattern
      written = by_pattern _ (f16_of pattern positive h.bits h.small (h.stands ∙ reads.is))

      less : length c.bytes ≡ 11 + length (bytes_of 2 h.bits) + length a.parts.indices + 2
      less = let s = length_parsed c.bytes a.parts a.parses in let t = length_bytes 2 h.bits in let r = reads.sized in omega arith

      held : output + 2 ≡ length c.bytes → Made (to_f16 c output)
      held l = done_with norm_value_f32 f16_bytes c a output (bytes_of 2 h.bits) written (omega (arith, less))

      held_wrong : output + 2 ≢ length c.bytes → to_f16 c output ≡ refused 7 (whole 6 ∷ [])
      held_wrong n = wrong_with norm_value_f32 f16_bytes c a output (bytes_of 2 h.bits) written (λ e. n (omega (arith, less)))

    not_held : (InBinary16 a.norm → ⊥) → (output : ℕ) → to_f16 c output ≡ refused 27 []
    unfolding pattern
    not_held n output =
        converting_accepted norm_value_f32 f16_bytes c a output
        ∙ ap (λ (o : Outcome (List ℕ)). and_then o (with_norm output a.parts)) (by_pattern _ (f16_none pattern positive (λ h small e. n (record { bits = h; small = small; stands = e ∙ sym reads.is }))))

    not_in : (values : List Value) → f16_bytes a.norm ≡ refused 27 values → InBinary16 a.norm → ⊥
    unfolding pattern
    not_in values e h = f16_refused pattern positive 27 values (ap f16_bytes (sym reads.is) ∙ e) h.bits h.small (h.stands ∙ reads.is)

  pub shortening : Shortening c
  shortening = record {
    done = held;
    length_last = held_wrong;
    inexact = not_held;
    only = λ output values e. let l = late norm_value_f32 f16_bytes c output values (λ norm. value_not 4 24 127 norm 27 values (lit< tt)) e in (l.accepted, not_in l.accepted values l.inexact);
  }

  -- ---- and back
  more : (a : Accepted norm_value c) → length c.bytes + 2 ≡ 11 + length (bytes_of 4 (packed 24 127 a.norm)) + length a.parts.indices
  more a =
      let s = length_parsed c.bytes a.parts a.parses in
      let t = length_bytes 4 (packed 24 127 a.norm) in
      let r = (as_read 2 11 15 a.parts.norm a.norm (value norm_value c a)).sized in
      omega arith

  pub lengthening : Lengthening c
  unfolding f32_bytes
  lengthening = record {
    done = λ a output l. done_with norm_value f32_bytes c a output (bytes_of 4 (packed 24 127 a.norm)) refl (l ∙ more a);
    length_last = λ a output n. wrong_with norm_value f32_bytes c a output (bytes_of 4 (packed 24 127 a.norm)) refl (λ e. n (e ∙ sym (more a)));
    never = λ output values e. let l = late norm_value f32_bytes c output values (λ norm. value_not 2 11 15 norm 27 values (lit< tt)) e in never 27 values _ (sym l.inexact);
  }

pub valid_norms : ValidNorms
valid_norms = record {
  each = read_back;
  others = λ bits small x e.
      let r = as_read 2 11 15 (bytes_of 2 bits) x e in
      norm_pattern bits (ap above_zero (ap (unpacked 11 15) (sym (number_of_bytes 2 bits small)) ∙ sym r.is) ∙ r.positive);
}
