-- `Rows::add_products` meets its contract. The loop's invariant: the rows passed have their product. Assumes nothing.
use Rattle.std.proofs.Common.{refl}
use lib.ListN.{length-set}
use Rattle.slices.specs.Lists.{tabulate}
use Rattle.rotation.proofs.RowLaw.{one_product}
use Rattle.rotation.proofs.product.Rows.add_products.Goals as goal

pub loop-i-init : goal.loop-i-init
unfolding tabulate
loop-i-init g c = (c.told-sums, refl)

pub loop-i-preserved : goal.loop-i-preserved
loop-i-preserved g c = (
  simp length-set c.loop-i.invariant.0,
  one_product c.args.self.product g.row.N c.args.self.row c.args.column c.loop-i.i c.args.sums.now c.loop-i.sums c.loop-i-test.true c.requires.sums_value c.loop-i.invariant.1,
)
