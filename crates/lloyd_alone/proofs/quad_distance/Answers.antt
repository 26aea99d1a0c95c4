-- `lloyd_alone::quad_distance` meets its contract: four terms of the sum, each with its difference turned round. Assumes
-- nothing.
use mathlib.Core.Path.{◌≡◌, sym, ap, ◌∙◌}
use Prim.Native.Nat.{ℕ, ◌*◌}
use native.Mathlib.Nat.{add-zero}
use lib.Ieee.{Float, binary64, add, of_bits}
use Rattle.ieee.specs.Sum.{plus_zero, sum_to, squared_difference}
use Rattle.ieee.proofs.Square.{square_turned}
use Rattle.lloyd_search.specs.Distance.{distance, vector_of, row_of}
use Rattle.lloyd_alone.proofs.quad_distance.Goals as goal

-- four terms
four : (x a : ℕ → Float) → add binary64 (add binary64 (add binary64 (add binary64 plus_zero (squared_difference (a 0) (x 0))) (squared_difference (a 1) (x 1))) (squared_difference (a 2) (x 2))) (squared_difference (a 3) (x 3)) ≡ distance 4 x a
unfolding sum_to
four x a = rw (square_turned binary64 (a 0) (x 0), square_turned binary64 (a 1) (x 1), square_turned binary64 (a 2) (x 2), square_turned binary64 (a 3) (x 3))

pub returns : goal.returns
unfolding of_bits
returns c =
    let values = c.args.codewords.values.now in
    let at = c.args.index * 4 in
    let x = vector_of c.args.block.now in
    let row = row_of 4 values c.args.index in
    ap (λ (i : ℕ). add binary64 (add binary64 (add binary64 (add binary64 plus_zero (squared_difference (vector_of values i) (x 0))) (squared_difference (row 1) (x 1))) (squared_difference (row 2) (x 2))) (squared_difference (row 3) (x 3))) (sym (add-zero at))
    ∙ four x row
