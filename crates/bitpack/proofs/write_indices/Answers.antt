-- `write_indices` meets its contract: before index i the writer stands at bit i * width of the packing. Assumes nothing.
use mathlib.Core.Path.{◌≡◌, sym, ◌∙◌}
use Prim.Native.Nat.{◌*◌}
use native.Mathlib.Omega.{arith}
use native.Mathlib.Nat.{zero-mul}
use lib.ListN.{length}
use Rattle.std.specs.Prelude.{ℕ, List}
use Rattle.bitpack.specs.declared.BitWriter.{BitWriter}
use Rattle.slices.proofs.TabulateLaw.{filled_all}
use Rattle.bitpack.specs.Layout.{packed_bit, byte_of, bytes_for}
use Rattle.bitpack.specs.Cursor.{WriterAt}
use Rattle.bitpack.proofs.Packing.{packed_binary, packed_index, packed_after}
use Rattle.bitpack.proofs.Steps.{pushable, finishable, next_place, next_within}
use Rattle.bitpack.proofs.write_indices.Goals as goal

pub loop-index-init : goal.loop-index-init
loop-index-init c =
    let xs = c.args.indices.now in
    rw (zero-mul c.args.width) (c.new-writer.ensures (packed_bit xs c.args.width) c.args.output.now (packed_binary xs c.args.width))

pub push-requires : goal.push-requires
push-requires c =
    let xs = c.args.indices.now in
    let i = c.loop-index.index-index in
    pushable _ _ _ _ _ _ _ c.loop-index.invariant
    (sym (packed_index xs c.args.width i (omega arith) (c.requires.fits i)))
    c.requires.narrow
    (omega (arith, c.requires.sized, next_within i (length xs) c.args.width (omega arith)))

pub loop-index-preserved : goal.loop-index-preserved
loop-index-preserved c =
    let i = c.loop-index.index-index in
    rw (next_place i c.args.width) (c.push.ensures _ _ _ c.loop-index.invariant (sym (packed_index c.args.indices.now c.args.width i (omega arith) (c.requires.fits i))))

-- after the last index the writer stands at the end of the packing
at_end : (i n w : ℕ) (f : ℕ → ℕ) (old out : List ℕ) (writer : BitWriter) → i ≡ n → WriterAt f (i * w) old out writer → WriterAt f (n * w) old out writer
at_end i n w f old out writer e h = rw (← e) h

pub finish-requires : goal.finish-requires
finish-requires c =
    finishable _ _ _ _ _ (at_end _ (length c.args.indices.now) _ _ _ _ _ (omega arith) c.loop-index.invariant) (omega (arith, c.requires.sized))

pub returns : goal.returns
returns c =
    let xs = c.args.indices.now in
    let n = length xs * c.args.width in
    c.finish.ensures _ n _ (at_end _ (length xs) _ _ _ _ _ (omega arith) c.loop-index.invariant) (packed_after xs c.args.width)
    ∙ filled_all (bytes_for n) (byte_of (packed_bit xs c.args.width)) c.args.output.now (omega (arith, c.requires.sized))
