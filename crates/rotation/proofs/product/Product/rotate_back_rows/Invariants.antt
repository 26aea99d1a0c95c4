use Rattle.std.proofs.Common.{◌≡◌, ◌+◌, ◌*◌}
use Rattle.rotation.specs.Rows.{column_sums}
use Rattle.rotation.proofs.product.Product.rotate_back_rows.Given as goal

abbrev pub invariant-loop-block : goal.invariant-loop-block
invariant-loop-block g l = l.output ≡ column_sums l.self (l.first + l.block * g.row.N)
