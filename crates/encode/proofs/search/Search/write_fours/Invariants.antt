use Rattle.std.proofs.Common.{◌≡◌, ◌*◌}
use Rattle.bitpack.specs.Cursor.{WriterAt}
use Rattle.encode.specs.Search.{tied_of}
use Rattle.encode.proofs.IndexLaw.{packing}
use Rattle.encode.proofs.search.Search.write_fours.Given as goal

abbrev pub invariant-loop-turn : goal.invariant-loop-turn
invariant-loop-turn l = record {
  written : WriterAt (packing l.self) (l.turn * 4 * l.self.width) l.initial.output l.output l.writer;
  tied : l.tied_blocks ≡ tied_of l.self (l.turn * 4);
}
