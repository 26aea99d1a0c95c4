use Prim.Native.Nat.{◌*◌}
use Rattle.bitpack.specs.Layout.{packed_bit}
use Rattle.bitpack.specs.Cursor.{WriterAt}
use Rattle.bitpack.proofs.write_indices.Given as goal

abbrev pub invariant-loop-index : goal.invariant-loop-index
invariant-loop-index l = WriterAt (packed_bit l.indices l.width) (l.index-index * l.width) l.initial.output l.output l.writer
