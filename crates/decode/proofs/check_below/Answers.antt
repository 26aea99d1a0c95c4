-- `decode::check_below` meets its contract: before index i the reader has
-- handed out i indices, and none of them fails. Assumes nothing.
use mathlib.Core.Path.{◌≡◌, sym, ap, ◌∙◌}
use mathlib.Core.Bool.{false}
use mathlib.Core.List.{[], ◌∷◌}
use Prim.Native.Nat.{ℕ, ◌*◌}
use native.Mathlib.Omega.{arith}
use native.Mathlib.Numerals.{add-one}
use Rattle.error.specs.Numbers.{refused, whole}
use Rattle.slices.proofs.FirstLaw.{below_suc}
use Rattle.bitpack.proofs.Steps.{next_index}
use Rattle.decode.proofs.DecodeLaw.{fails, index_passes, below_none, below_first}
use Rattle.decode.proofs.check_below.Goals as goal

pub returns-then-n-index : goal.returns-then-n-index
returns-then-n-index c =
    let packed = c.args.packed in
    let i = c.loop-i._i in
    let v = (c.pull-index.ensures packed.bytes.now (i * packed.width) c.loop-i.invariant.reads).value_is in
    ap (λ (z : ℕ). refused 11 (whole z ∷ whole c.args.n ∷ [])) v
    ∙ sym (below_first packed c.args.n i (omega arith) c.loop-i.invariant.passed (omega (arith, v, c.if-n-index.true)))

pub loop-i-preserved : goal.loop-i-preserved
loop-i-preserved c =
    let packed = c.args.packed in
    let i = c.loop-i._i in
    let pulled = c.pull-index.ensures packed.bytes.now (i * packed.width) c.loop-i.invariant.reads in
    let v = pulled.value_is in record {
      passed = rw add-one
          (below_suc (λ (j : ℕ). fails packed c.args.n j ≡ false) i c.loop-i.invariant.passed (index_passes packed c.args.n i (omega arith) (omega (arith, v, c.if-n-index.false))));
      reads = next_index packed i pulled;
    }

pub returns : goal.returns
returns c = sym (below_none c.args.packed c.args.n (λ j h. c.loop-i.invariant.passed j (omega arith)))
