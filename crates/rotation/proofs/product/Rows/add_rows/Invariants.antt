use Rattle.std.proofs.Common.{◌≡◌, ◌+◌}
use Rattle.slices.specs.Lists.{filled}
use Rattle.rotation.specs.Rows.{column_total}
use Rattle.rotation.proofs.product.Rows.add_rows.Given as goal

abbrev pub invariant-loop-column : goal.invariant-loop-column
invariant-loop-column g l =
    l.output ≡ filled l.column (column_total l.self.product (l.self.row + g.row.N)) l.initial.output
