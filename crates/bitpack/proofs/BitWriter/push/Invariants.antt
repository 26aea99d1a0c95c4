use mathlib.Core.Path.{◌≡◌}
use mathlib.Core.List.{List}
use Prim.Native.Nat.{ℕ, ◌+◌, ◌*◌, ◌≤◌}
use lib.ListN.{length}
use Rattle.bitpack.specs.Cursor.{Writing}
use Rattle.bitpack.proofs.BitWriter.push.Given as goal

abbrev pub invariant-loop-have : goal.invariant-loop-have
invariant-loop-have l = record {
  same : length l.out ≡ length l.initial.out;
  room : 8 * l.at + l.have ≤ 8 * length l.initial.out;
  writes : (f : ℕ → ℕ) (p : ℕ) (old : List ℕ) → Writing f p old l.initial.out l.initial.at l.initial.acc l.initial.have → Writing f p old l.out l.at l.acc l.have;
}

abbrev pub decreases-loop-have : goal.decreases-loop-have
decreases-loop-have l = l.have
