use mathlib.Core.Path.{◌≡◌}
use Prim.Native.Nat.{◌*◌}
use Rattle.slices.specs.Lists.{filled}
use Rattle.bitpack.specs.Cursor.{ReaderAt}
use Rattle.bitpack.specs.Packed.{index_in}
use Rattle.bitpack.proofs.read_indices.Given as goal

abbrev pub invariant-loop-index : goal.invariant-loop-index
invariant-loop-index l = record {
  stored : l.output ≡ filled l.index-index (index_in l.packed) l.initial.output;
  reads : ReaderAt l.packed.bytes.now (l.index-index * l.packed.width) l.reader;
}
