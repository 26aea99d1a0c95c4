-- `decode::check_indices` meets its contract: a frame that is as expected has the profile's width of an index, and its
-- indices are as many bytes as their count and width ask. Assumes nothing.
use mathlib.Core.Path.{◌≡◌, sym, ap, ◌∙◌}
use Prim.Native.Nat.{◌*◌, ◌/◌}
use native.Mathlib.Omega.{arith}
use lib.ListN.{length}
use Rattle.bitpack.specs.Layout.{bytes_for}
use Rattle.compact.specs.Frame.{parts_of}
use Rattle.compact.proofs.FrameLaws.{length_indices}
use Rattle.compact.proofs.ExpectedLaw.{as_expected}
use Rattle.decode.proofs.check_indices.Goals as goal

pub invariant_of-packed : goal.invariant_of-packed
invariant_of-packed c =
    let p = c.args.profile in
    let parts = parts_of c.args.bytes.now c.args.frame in
    let width = (as_expected p.wire_index_bits (p.ambient_dim / p.block_dim) parts (sym c.in_ok-check_expected.ensures)).width in
    let sized : length c.index_part.result.now ≡ bytes_for (c.args.frame.block_count * c.args.frame.width) =
    ap length c.index_part.ensures ∙ length_indices c.args.bytes.now parts c.requires.frame in
    record { some = omega (arith, c.requires.valid.width_least, width); narrow = omega (arith, c.requires.valid.width_most, width); whole = omega (arith, sized) }
