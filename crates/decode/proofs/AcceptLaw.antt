-- What a frame that passes every check but the last has shown. Assumes nothing.
use Rattle.std.specs.Prelude.{Option, None, Some}
use mathlib.Core.Path.{◌≡◌, refl, sym, ap, ◌∙◌}
use Prim.Native.Nat.{ℕ, ◌*◌, ◌/◌, ◌<◌}
use mathlib.Core.Bool.{Bool, true, false, not, cond}
use mathlib.Core.List.{List, [], ◌∷◌}
use lib.Dec.{ltb, eqb}
use lib.ListN.{length, get_or}
use lib.Ieee.{Float}
use borrow.Author.Tests.{not-false, ltb-true, eqb-true}
use Rattle.error.specs.Numbers.{Outcome, completed, refused, whole, of_length}
use Rattle.error.proofs.Outcomes.{never, passed_length}
use Rattle.error.proofs.Refusals.{also_first, also_next}
use Rattle.slices.proofs.FirstLaw.{none_before}
use Rattle.bitpack.specs.Layout.{index_at}
use Rattle.bitpack.proofs.Packing.{length-unpacked, unpacked_index}
use Rattle.compact.specs.Frame.{Parts}
use Rattle.profile.specs.Valid.{Valid}
use Rattle.profile.proofs.Facts as profile-facts
use Rattle.compact.specs.Expected.{expected}
use Rattle.compact.proofs.ExpectedLaw.{as_expected}
use Rattle.decode.specs.Decode.{DecodeCall, offending, indices_of, indexed, readable_by, readable}
use Rattle.decode.proofs.CheckLaw.{Passes, Sizes, Bounds, Indices}

-- ---- one check that is passed
none_offends : (n : ℕ) (indices : List ℕ) (f : Option ℕ) → offending n indices f ≡ completed tt → f ≡ None
none_offends n indices None h = refl
none_offends n indices (Some i) h = absurd (never 11 (whole (get_or indices i 0) ∷ whole n ∷ []) tt h)

-- ---- every check but the last
pub record Readable (c : DecodeCall) (parts : Parts) : Type 0 where
  pub valid : Valid c.profile
  pub matrix_length : length c.matrix ≡ c.profile.ambient_dim * c.profile.ambient_dim
  pub codewords_length : length c.codewords ≡ c.profile.codebook_size * c.profile.block_dim
  pub output_length : c.output ≡ c.profile.ambient_dim
  pub work_length : c.work ≡ 2 * c.profile.ambient_dim
  pub width : parts.width ≡ c.profile.wire_index_bits
  pub count : parts.count ≡ c.profile.ambient_dim / c.profile.block_dim
  pub indices_below : (i : ℕ) → i < parts.count → index_at parts.indices parts.width i < c.profile.codebook_size

pub readable_accepted : (c : DecodeCall) (parts : Parts) (norm : Float) → readable c parts ≡ completed norm → Readable c parts
unfolding readable_by indexed
readable_accepted c parts norm e =
    let d = c.profile.ambient_dim in
    let k = c.profile.block_dim in
    let n = c.profile.codebook_size in
    let w = c.profile.wire_index_bits in
    let e1 = also_next (Passes c parts) _ e in
    let e2 = also_next (Sizes c parts) _ e1 in
    let e3 = also_next (Bounds c parts) _ e2 in
    let l1 = passed_length 3 (d * d) (length c.matrix) _ tt (also_first (Sizes c parts) _ e1) in
    let l2 = passed_length 4 (n * k) (length c.codewords) _ tt l1.1 in
    let l3 = passed_length 6 d c.output _ tt l2.1 in
    let l4 = passed_length 7 (2 * d) c.work _ tt l3.1 in
    let i0 = also_first (Indices c parts) _ e3 in
    let a = as_expected w (d / k) parts (also_first (expected w (d / k) parts) _ i0) in
    let o = none_offends n (indices_of parts) _ (also_next (expected w (d / k) parts) _ i0) in
    record {
      valid = profile-facts.valid c.profile c.schema c.algorithm c.log2 (also_first (Passes c parts) _ e);
      matrix_length = l1.0;
      codewords_length = l2.0;
      output_length = l3.0;
      work_length = l4.0;
      width = a.width;
      count = a.count;
      indices_below = λ i l.
          ltb-true (index_at parts.indices parts.width i) n
          (ap (λ (z : ℕ). ltb z n) (sym (unpacked_index parts.indices parts.count parts.width i l))
          ∙ not-false _ (none_before (λ j. not (ltb (get_or (indices_of parts) j 0) n)) (length (indices_of parts)) o i (rw (length-unpacked parts.indices parts.count parts.width) l)));
    }
