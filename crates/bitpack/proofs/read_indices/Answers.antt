-- `bitpack::read_indices` meets its contract: before index i the reader stands at its first bit. Assumes nothing.
use mathlib.Core.Path.{refl}
use Prim.Native.Nat.{◌+◌, ◌*◌}
use native.Mathlib.Omega.{arith}
use Rattle.slices.proofs.TabulateLaw.{filled_with}
use Rattle.bitpack.specs.Packed.{index_in}
use Rattle.bitpack.proofs.Steps.{next_index}
use Rattle.bitpack.proofs.read_indices.Goals as goal

pub loop-index-preserved : goal.loop-index-preserved
loop-index-preserved c =
    let packed = c.args.packed in
    let i = c.loop-index.index-index in
    let pulled = c.pull.ensures packed.bytes.now (i * packed.width) c.loop-index.invariant.reads in record {
      stored = rw c.loop-index.invariant.stored (filled_with i (i + 1) (index_in packed) c.args.output.now c.pull.result (omega arith) refl pulled.value_is);
      reads = next_index packed i pulled;
    }
