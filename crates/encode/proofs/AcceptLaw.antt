-- What a call whose profile, lengths and values pass has shown. Assumes nothing.
use mathlib.Core.Path.{◌≡◌, sym, ap, ◌∙◌}
use Prim.Native.Nat.{ℕ, ◌*◌, ◌^◌, ◌≤◌}
use native.Mathlib.Omega.{arith}
use mathlib.Core.List.{List}
use lib.ListN.{length}
use lib.Ieee.{Float}
use Rattle.error.specs.Numbers.{completed}
use Rattle.error.proofs.Outcomes.{passed_length}
use Rattle.error.proofs.Refusals.{also_first, also_next}
use Rattle.profile.specs.declared.FibQuantProfile.{FibQuantProfile}
use Rattle.profile.specs.Valid.{Valid}
use Rattle.profile.proofs.Facts as profile-facts
use Rattle.profile.proofs.Width.{least_width}
use Rattle.lloyd_search.proofs.LimitLaw.{passed_bounded}
use Rattle.slices.specs.Limit.{first_not_finite}
use Rattle.slices.proofs.FirstLaw.{all_finite}
use Rattle.decode.specs.declared.FibQuantizer.{FibQuantizer}
use Rattle.decode.specs.Decode.{values}
use Rattle.encode.specs.Encode.{EncodeCall, encode_call_of, frame_length, fitting}
use Rattle.encode.specs.Work.{Writable}
use Rattle.encode.proofs.CheckLaw.{Passes, Sizes}

pub record Fitting (c : EncodeCall) : Type 0 where
  pub validates : Passes c ≡ completed tt
  pub valid : Valid c.profile
  pub matrix_length : length c.matrix ≡ c.profile.ambient_dim * c.profile.ambient_dim
  pub codewords_length : length c.codewords ≡ c.profile.codebook_size * c.profile.block_dim
  pub input_length : length c.input ≡ c.profile.ambient_dim
  pub output_length : c.output ≡ frame_length c.profile.ambient_dim c.profile.block_dim c.profile.wire_index_bits
  pub work_length : c.work ≡ 2 * c.profile.ambient_dim
  pub values_pass : values c.matrix c.codewords ≡ completed tt

pub fitting_accepted : (c : EncodeCall) → fitting c ≡ completed tt → Fitting c
unfolding fitting
fitting_accepted c e =
    let d = c.profile.ambient_dim in
    let k = c.profile.block_dim in
    let n = c.profile.codebook_size in
    let v = also_first (Passes c) _ e in
    let e1 = also_next (Passes c) _ e in
    let l1 = passed_length 3 (d * d) (length c.matrix) _ tt (also_first (Sizes c) _ e1) in
    let l2 = passed_length 4 (n * k) (length c.codewords) _ tt l1.1 in
    let l3 = passed_length 5 d (length c.input) _ tt l2.1 in
    let l4 = passed_length 6 (frame_length d k c.profile.wire_index_bits) c.output _ tt l3.1 in
    let l5 = passed_length 7 (2 * d) c.work _ tt l4.1 in
    record {
      validates = v;
      valid = profile-facts.valid c.profile c.schema c.algorithm c.log2 v;
      matrix_length = l1.0;
      codewords_length = l2.0;
      input_length = l3.0;
      output_length = l4.0;
      work_length = l5.0;
      values_pass = also_next (Sizes c) _ e1;
    }

-- a width of the profile holds every index
pub indices_fit : (p : FibQuantProfile) → Valid p → p.codebook_size ≤ 2 ^ p.wire_index_bits
indices_fit p v =
    let h = (least_width p.codebook_size).holds in
    let b = v.shape.book_least in
    rw v.width (omega arith)

-- what the work asks follows from the checks
pub writable : (q : FibQuantizer) (input : List Float) (output work : ℕ) → fitting (encode_call_of q input output work) ≡ completed tt → Writable q (length input) output work
unfolding values
writable q input output work e =
    let f = fitting_accepted (encode_call_of q input output work) e in
    let v = f.valid in
    let s = v.shape in
    let i = f.input_length in
    record {
      some_block = s.some_block;
      whole = i;
      blocks = i ∙ s.whole_blocks;
      square = f.matrix_length ∙ ap (λ (z : ℕ). z * z) (sym i);
      halves = omega (arith, f.work_length);
      book = f.codewords_length;
      book_finite = all_finite q.codewords.now (passed_bounded 4 (first_not_finite q.codewords.now) _ tt f.values_pass).0;
      some = omega (arith, s.book_least);
      fits = indices_fit q.given.profile v;
      narrow = v.width_most;
      room = f.output_length;
    }
