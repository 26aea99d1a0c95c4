use Rattle.std.proofs.Common.{◌≡◌}
use Rattle.rotation.specs.Rows.{column_total}
use Rattle.rotation.proofs.product.Rows.add_terms.Given as goal

abbrev pub invariant-loop-i : goal.invariant-loop-i
invariant-loop-i g l = l.sum ≡ column_total l.self.product l.i l.column
