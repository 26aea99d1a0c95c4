use mathlib.Core.Path.{◌≡◌}
use Prim.Native.Nat.{◌*◌}
use Rattle.slices.specs.Lists.{patched}
use Rattle.bitpack.specs.Packed.{indices_in}
use Rattle.bitpack.specs.Cursor.{ReaderAt}
use Rattle.decode.specs.Decode.{rotated_at}
use Rattle.decode.proofs.gather.Given as goal

abbrev pub invariant-loop-i : goal.invariant-loop-i
invariant-loop-i l = record {
  gathered : l.output ≡ patched l.initial.output 0 (l.i * l.k) (rotated_at l.k l.quantizer.codewords.now (indices_in l.packed));
  reads : ReaderAt l.packed.bytes.now (l.i * l.packed.width) l.reader;
}
