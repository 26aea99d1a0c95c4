-- `Product::rotate_rows` meets its contract. The loop's invariant: the outputs of the rows passed stand.
-- Assumes nothing.
use Rattle.std.proofs.Common.{◌≡◌, ℕ, ◌+◌, ◌*◌, ap, ◌∙◌, arith}
use Rattle.slices.specs.Lists.{filled}
use Rattle.rotation.specs.Rows.{row_total}
use Rattle.rotation.proofs.RowLaw.{filled_more}
use Rattle.rotation.proofs.product.Product.rotate_rows.Goals as goal

pub loop-block-preserved : goal.loop-block-preserved
loop-block-preserved g c =
    let a = c.args in
    let row = a.first + c.loop-block.block * g.row.N in
    let e : row + g.row.N ≡ a.first + (c.loop-block.block + 1) * g.row.N = omega arith in
    filled_more row g.row.N (row_total a.self) a.output.now c.loop-block.output c.copy_from_slice.new.self c.loop-block.invariant (c.copy_from_slice.ensures.after ∙ c.dot-sums.ensures)
    ∙ ap (λ (n : ℕ). filled n (row_total a.self) a.output.now) e
