-- `decode::gather` meets its contract: before index i the reader has handed out i indices, and their codewords stand in
-- the output. Assumes nothing.
use mathlib.Core.Path.{◌≡◌, sym, ◌∙◌}
use mathlib.Core.List.{List}
use Prim.Native.Nat.{ℕ, ◌+◌, ◌*◌}
use native.Mathlib.Nat.{zero-mul}
use native.Mathlib.Omega.{arith}
use lib.ListN.{get_or}
use lib.Ieee.{Float, nan}
use Rattle.slices.specs.Lists.{patched}
use Rattle.bitpack.specs.Packed.{indices_in}
use Rattle.bitpack.proofs.Packing.{unpacked_index}
use Rattle.bitpack.proofs.Steps.{next_place, next_index}
use Rattle.decode.specs.Decode.{rotated_at}
use Rattle.decode.proofs.ListLaw.{patched_then, all_written}
use Rattle.decode.proofs.DecodeLaw.{rotated_row}
use Rattle.decode.proofs.gather.Goals as goal

-- one more codeword
next : (k : ℕ) (codewords : List Float) (indices : List ℕ) (old values new : List Float) (i value : ℕ) → values ≡ patched old 0 (i * k) (rotated_at k codewords indices) → value ≡ get_or indices i 0
    → new ≡ patched values (i * k) k (λ j. get_or codewords (value * k + j) nan) → new ≡ patched old 0 ((i + 1) * k) (rotated_at k codewords indices)
next k codewords indices old values new i value w v e =
    e ∙ rw (w, v, next_place i k) (patched_then old (i * k) k (rotated_at k codewords indices) (λ j. get_or codewords (get_or indices i 0 * k + j) nan) (λ j h. sym (rotated_row k codewords indices i j h)))

pub loop-i-init : goal.loop-i-init
unfolding patched
loop-i-init c = record { gathered = rw zero-mul; reads = rw (zero-mul c.args.packed.width) c.new-reader.ensures }

pub loop-i-preserved : goal.loop-i-preserved
loop-i-preserved c =
    let a = c.args in
    let i = c.loop-i.i in
    let packed = a.packed in
    let pulled = c.pull-index.ensures packed.bytes.now (i * packed.width) c.loop-i.invariant.reads in
    let v : c.pull-index.result ≡ get_or (indices_in packed) i 0 = pulled.value_is ∙ sym (unpacked_index packed.bytes.now packed.count packed.width i (omega arith)) in record {
      gathered = next a.quantizer.given.profile.block_dim a.quantizer.codewords.now (indices_in packed) a.output.now c.loop-i.output c.widen_row.new.output i c.pull-index.result
          c.loop-i.invariant.gathered v c.widen_row.ensures;
      reads = next_index packed i pulled;
    }

pub returns : goal.returns
returns c =
    let a = c.args in
    let k = a.quantizer.given.profile.block_dim in
    let e : c.loop-i.i ≡ a.packed.count = omega arith in
    all_written a.output.now c.loop-i.output (c.loop-i.i * k) (rotated_at k a.quantizer.codewords.now (indices_in a.packed)) c.loop-i.invariant.gathered (rw e c.requires.0)
