use Rattle.std.proofs.Common.{◌≡◌, ◌+◌, length}
use Rattle.slices.specs.Lists.{filled}
use Rattle.rotation.specs.Rows.{row_part}
use Rattle.rotation.proofs.product.Rows.add_products.Given as goal

abbrev pub invariant-loop-i : goal.invariant-loop-i
invariant-loop-i g l =
    (length l.sums ≡ g.row.N) × (l.sums ≡ filled l.i (row_part l.self.product l.self.row (l.column + 1)) l.initial.sums)
