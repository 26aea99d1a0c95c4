use Rattle.std.proofs.Common.{◌≡◌, ◌+◌, ◌*◌}
use Rattle.slices.specs.Lists.{filled}
use Rattle.rotation.specs.Rows.{row_total}
use Rattle.rotation.proofs.product.Product.rotate_rows.Given as goal

abbrev pub invariant-loop-block : goal.invariant-loop-block
invariant-loop-block g l =
    l.output ≡ filled (l.first + l.block * g.row.N) (row_total l.self) l.initial.output
