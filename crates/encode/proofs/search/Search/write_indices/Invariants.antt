use mathlib.Core.Path.{◌≡◌}
use Prim.Native.Nat.{◌*◌, ◌≤◌}
use Rattle.bitpack.specs.Cursor.{WriterAt}
use Rattle.encode.specs.Search.{tied_of}
use Rattle.encode.proofs.IndexLaw.{packing}
use Rattle.encode.proofs.search.Search.write_indices.Given as goal

abbrev pub invariant-loop-i : goal.invariant-loop-i
invariant-loop-i l = record {
  few : l.i ≤ l.self.count;
  writes : WriterAt (packing l.self) (l.i * l.self.width) l.initial.output l.output l.writer;
  counted : l.tied_blocks ≡ tied_of l.self l.i;
}
