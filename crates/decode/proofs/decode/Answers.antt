-- `decode::decode` meets its contract: the frame, the checks, and then the values. Assumes nothing.
use mathlib.Core.Path.{◌≡◌, refl, sym, ap, ◌∙◌}
use mathlib.Core.List.{List}
use Prim.Native.Nat.{ℕ, ◌*◌}
use native.Mathlib.Omega.{arith}
use lib.ListN.{length, replicate}
use lib.Ieee.{Float}
use Rattle.error.specs.Numbers.{Outcome, completed, if_completed, accepted, contents}
use Rattle.ieee.specs.Sum.{plus_zero}
use Rattle.bitpack.specs.Layout.{bytes_for, index_at, unpacked_indices}
use Rattle.compact.specs.Frame.{Parts, parsed, parts_of}
use Rattle.compact.proofs.FrameLaws.{length_indices}
use Rattle.lloyd_search.proofs.Parts.{row_fits}
use Rattle.decode.specs.Decode.{DecodeCall, decode_call_of, decoded, only_finite, readable}
use Rattle.decode.proofs.CheckLaw.{decoding_is, decodable_is}
use Rattle.decode.proofs.AcceptLaw.{Readable, readable_accepted}
use Rattle.decode.proofs.decode.Goals as goal

pub invariant_of-packed : goal.invariant_of-packed
invariant_of-packed c =
    let call : DecodeCall = decode_call_of c.args.quantizer c.args.bytes.now (length c.args.output.now) (length c.args.work.now) in
    let f = c.in_ok-frame.frame in
    let parts : Parts = parts_of c.args.bytes.now f in
    let passes : Readable call parts = readable_accepted call parts c.in_ok-norm.norm (sym c.in_ok-norm.ensures) in
    let sized : length c.index_part.result.now ≡ bytes_for (f.block_count * f.width) =
    ap length c.index_part.ensures ∙ length_indices c.args.bytes.now parts (sym c.in_ok-frame.ensures.result_value) in
    record { some = omega (arith, passes.width, passes.valid.width_least); narrow = omega (arith, passes.width, passes.valid.width_most); whole = omega (arith, sized) }

pub reconstruct-requires : goal.reconstruct-requires
reconstruct-requires c =
    let call : DecodeCall = decode_call_of c.args.quantizer c.args.bytes.now (length c.args.output.now) (length c.args.work.now) in
    let f = c.in_ok-frame.frame in
    let parts : Parts = parts_of c.args.bytes.now f in
    let r : Readable call parts = readable_accepted call parts c.in_ok-norm.norm (sym c.in_ok-norm.ensures) in
    let k = call.profile.block_dim in
    let o = r.output_length in
    record {
      blocks = ap (λ (z : ℕ). z * k) r.count ∙ sym r.valid.shape.whole_blocks ∙ sym o;
      square = r.matrix_length ∙ ap (λ (z : ℕ). z * z) (sym o);
      halves = omega (arith, r.work_length);
      within = λ i l.
          rw c.index_part.ensures
          (row_fits (index_at parts.indices f.width i) call.profile.codebook_size k (index_at parts.indices f.width i * k) (length call.codewords) (r.indices_below i l) refl r.codewords_length);
    }

pub returns : goal.returns
returns c =
    let a = c.args in
    let f = c.in_ok-frame.frame in
    let x = c.in_ok-norm.norm in
    let call : DecodeCall = decode_call_of a.quantizer a.bytes.now (length a.output.now) (length a.work.now) in
    let parts : Parts = parts_of a.bytes.now f in
    let parses : parsed a.bytes.now ≡ completed parts = sym c.in_ok-frame.ensures.result_value in
    let reads : readable call parts ≡ completed x = sym c.in_ok-norm.ensures in
    let passes : Readable call parts = readable_accepted call parts x reads in
    let values : List ℕ → ℕ → List Float = λ bytes size. decoded size call.profile.block_dim call.matrix call.codewords (unpacked_indices bytes f.block_count f.width) x in
    let e : values c.index_part.result.now (length a.output.now) ≡ values parts.indices call.profile.ambient_dim =
    ap (values c.index_part.result.now) passes.output_length ∙ ap (λ (bytes : List ℕ). values bytes call.profile.ambient_dim) c.index_part.ensures in
    let whole = sym (decoding_is call parts x parses reads) in
    let said = c.reconstruct.ensures in (
      said.0 ∙ ap (λ (xs : List Float). accepted (only_finite xs)) e ∙ ap (λ (o : Outcome (List Float)). accepted o) whole,
      said.1 ∙ ap (λ (xs : List Float). contents (only_finite xs) a.output.now) e ∙ ap (λ (o : Outcome (List Float)). contents o a.output.now) whole,
      said.2 ∙ ap (λ (o : Outcome Float). if_completed o (replicate (length a.work.now) plus_zero) a.work.now) (sym (decodable_is call parts x parses reads)),
    )
