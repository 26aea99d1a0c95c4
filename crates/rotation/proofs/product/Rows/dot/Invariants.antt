use Rattle.std.proofs.Common.{◌≡◌}
use Rattle.rotation.specs.Rows.{row_sums}
use Rattle.rotation.proofs.product.Rows.dot.Given as goal

abbrev pub invariant-loop-column : goal.invariant-loop-column
invariant-loop-column g l = l.sums ≡ row_sums g.row.N l.self.product l.self.row l.column
