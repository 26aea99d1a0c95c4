-- `Rows::dot` meets its contract. The loop's invariant: each row's sum is that of the products passed.
-- Assumes nothing.
use lib.Ieee.{of_bits}
use Rattle.rotation.proofs.RowLaw.{no_products}
use Rattle.rotation.proofs.product.Rows.dot.Goals as goal

pub loop-column-init : goal.loop-column-init
unfolding of_bits
loop-column-init g c = no_products c.args.self.product g.row.N c.args.self.row
