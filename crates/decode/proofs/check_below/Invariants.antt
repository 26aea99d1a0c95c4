use mathlib.Core.Path.{◌≡◌}
use mathlib.Core.Bool.{false}
use Prim.Native.Nat.{ℕ, ◌*◌, ◌<◌}
use Rattle.bitpack.specs.Cursor.{ReaderAt}
use Rattle.decode.proofs.DecodeLaw.{fails}
use Rattle.decode.proofs.check_below.Given as goal

abbrev pub invariant-loop-i : goal.invariant-loop-i
invariant-loop-i l = record {
  passed : (j : ℕ) → j < l._i → fails l.packed l.n j ≡ false;
  reads : ReaderAt l.packed.bytes.now (l._i * l.packed.width) l.reader;
}
