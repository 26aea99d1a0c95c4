-- `Rows::add_rows` meets its contract. The loop's invariant: the
-- outputs passed have their terms, and the others are as they were.
-- Assumes nothing.
use Rattle.std.proofs.Common.{◌≡◌, ◌+◌, ℕ, length, refl, ap, ◌∙◌, arith}
use lib.Ieee.{nan}
use Rattle.slices.specs.Lists.{tabulate, filled}
use Rattle.rotation.specs.Rows.{dim, column_total}
use Rattle.slices.proofs.TabulateLaw.{length-tabulate, get_d_tabulate, get_d_filled, filled_with, filled_all}
use Rattle.rotation.proofs.product.Rows.add_rows.Goals as goal

pub loop-column-init : goal.loop-column-init
unfolding tabulate
loop-column-init g c = refl

pub add_terms-requires : goal.add_terms-requires
add_terms-requires g c =
    let a = c.args in
    let e : length a.output.now ≡ dim a.self.product = ap length c.requires ∙ length-tabulate (dim a.self.product) (column_total a.self.product a.self.row) in
    let i = c.loop-column.column in (
      omega arith,
      (
        omega arith,
        rw (c.loop-column.invariant, get_d_filled i (column_total a.self.product (a.self.row + g.row.N)) a.output.now nan c.loop-column-test.true, c.requires)
            (get_d_tabulate (dim a.self.product) (column_total a.self.product a.self.row) i nan (omega arith)),
      ),
    )

pub loop-column-preserved : goal.loop-column-preserved
loop-column-preserved g c =
    let l = c.before in
    let a = l.args in
    rw l.loop-column.invariant
    (filled_with l.loop-column.column (l.loop-column.column + 1) (column_total a.self.product (a.self.row + g.row.N)) a.output.now c.add_terms.result l.loop-column-test.true refl c.add_terms.ensures)

pub returns : goal.returns
returns g c =
    let a = c.args in
    let f = column_total a.self.product (a.self.row + g.row.N) in
    let e : length a.output.now ≡ dim a.self.product = ap length c.requires ∙ length-tabulate (dim a.self.product) (column_total a.self.product a.self.row) in
    let i : c.loop-column.column ≡ dim a.self.product = omega arith in
    c.loop-column.invariant ∙ ap (λ (n : ℕ). filled n f a.output.now) i ∙ filled_all (dim a.self.product) f a.output.now (omega arith)
