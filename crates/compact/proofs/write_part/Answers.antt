-- `compact::write_part` meets its contract: a byte more of the part stands in the output. Assumes nothing.
use mathlib.Core.Path.{◌≡◌}
use Prim.Native.Nat.{ℕ, ◌+◌, ◌<◌}
use native.Mathlib.Numerals.{add-one}
use native.Mathlib.Omega.{arith}
use mathlib.Core.List.{List}
use lib.ListN.{length, get_or, set}
use Rattle.std.proofs.Math.Seq.{paste, paste-suc}
use Rattle.compact.proofs.write_part.Goals as goal

pasted : (out part now : List ℕ) (at i : ℕ) → now ≡ paste out at part i → at + i < length out → i < length part
    → set now (at + i) (get_or part i 0) ≡ paste out at part (i + 1)
pasted out part now at i e ho hp = rw (e, add-one) (paste-suc out at part i 0 ho hp)

pub loop-i-preserved : goal.loop-i-preserved
loop-i-preserved c =
    let a = c.args in
    pasted a.output.now a.part.now c.loop-i.output a.at c.loop-i.i c.loop-i.invariant (omega arith) (omega arith)
