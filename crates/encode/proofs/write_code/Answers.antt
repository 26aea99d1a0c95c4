-- `encode::write_code` meets its contract: normalized, rotated,
-- rounded, searched; then the work is zeroed. Assumes nothing.
use mathlib.Core.Path.{◌≡◌, ap, ◌∙◌}
use mathlib.Core.List.{List, ◌++◌}
use Prim.Native.Nat.{ℕ, ◌/◌}
use native.Mathlib.Nat.{div-le_self}
use native.Mathlib.Omega.{arith}
use lib.ListN.{length, replicate, length-append}
use lib.Ieee.{Float}
use Rattle.ieee.specs.Sum.{plus_zero}
use Rattle.slices.specs.First.{count_where}
use Rattle.slices.proofs.CountLaw.{count_upto}
use Rattle.bitpack.specs.Layout.{packed_bytes}
use Rattle.slices.specs.Bytes.{bytes_of}
use Rattle.compact.specs.Frame.{frame_of}
use Rattle.encode.specs.Encode.{norm_of, searched, indices_for, tied_for}
use Rattle.encode.proofs.EncodeLaw.{seen}
use Rattle.encode.proofs.write_code.Goals as goal

pub overflow_cast-result : goal.overflow_cast-result
overflow_cast-result c =
    let p = c.args.quantizer.given.profile in
    record { fits = omega (arith, c.write_frame-tied_blocks.ensures.1, count_upto (tied_for p.block_dim p.codebook_size c.args.quantizer.codewords.now c.round.new.values) (p.ambient_dim / p.block_dim), div-le_self p.ambient_dim p.block_dim) }

pub returns : goal.returns
returns c =
    let q = c.args.quantizer in
    let p = q.given.profile in
    let input = c.args.input.now in
    let d = p.ambient_dim in
    let v : c.round.new.values ≡ searched d q.matrix.now input c.args.norm =
    seen d q.matrix.now input c.args.norm _ _ _ _ _ _ (omega arith) (omega arith) (omega arith) c.normalize.ensures c.rotate.ensures c.round.ensures in
    let w : c.round.new.values ≡ searched d q.matrix.now input (norm_of input) = v ∙ ap (searched d q.matrix.now input) c.requires.norm in
    let count = d / p.block_dim in
    let frame : List Float → List ℕ = λ xs. frame_of p.wire_index_bits count (bytes_of 2 c.args.bits) (packed_bytes (indices_for count p.block_dim p.codebook_size q.codewords.now xs) p.wire_index_bits) in
    let tied : List Float → ℕ = λ xs. count_where (tied_for p.block_dim p.codebook_size q.codewords.now xs) count in
    let size : length (c.normalize.new.output ++ c.round.new.values) ≡ length c.args.work.now = rw length-append (omega arith) in (
      c.write_frame-tied_blocks.ensures.0 ∙ ap frame w,
      c.zero_f64.ensures ∙ ap (λ (n : ℕ). replicate n plus_zero) size,
      c.write_frame-tied_blocks.ensures.1 ∙ ap tied w,
    )
