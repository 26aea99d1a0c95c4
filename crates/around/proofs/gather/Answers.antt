-- `around::gather` meets its contract: each codeword is taken or passed over. Assumes nothing.
use Rattle.std.proofs.Common.{◌≡◌, refl, sym, arith, ap, ◌∙◌, ◌*◌, ℕ, length}
use Rattle.std.specs.Float.Ieee.{Float, le}
use Rattle.std.specs.Float.{nan}
use Rattle.lloyd_search.specs.Distance.{distance, vector_of, row_of}
use Rattle.lloyd_search.proofs.Parts.{part_distance_as}
use Rattle.around.specs.Around.{query, within_square}
use Rattle.around.proofs.ListedLaw.{one_taken, one_passed}
use Rattle.around.proofs.gather.Goals as goal
use Rattle.around.proofs.gather.Goals.{then-squared_distance-square, else-squared_distance-square}

pub loop-i-preserved : goal.loop-i-preserved
loop-i-preserved c =
    let a = c.args in
    let l = c.loop-i in
    let cw = a.codewords.values.now in
    let k = length a.block.now in
    let x = vector_of a.block.now in
    let near = within_square (query a.codewords.count a.codewords.dim cw a.block.now) a.square in
    let row : c.squared_distance.result ≡ distance k x (row_of k cw l.i) = c.squared_distance.ensures ∙ part_distance_as (λ (y : Float). y) nan x cw l.i k (l.i * k) refl in
    let far = row ∙ ap (λ (n : ℕ). distance n x (row_of n cw l.i)) c.requires.0 in
    let is : le c.squared_distance.result a.square ≡ near l.i = ap (λ (y : Float). le y a.square) far in
    let one = one_taken near l.i l.count a.numbers.now l.numbers l.invariant in
    let none = one_passed near l.i l.count a.numbers.now l.numbers l.invariant in
    elim c.if-squared_distance-square.branch [
      | then-squared_distance-square w ↦ rw (w.count-is, w.numbers-is) (one (sym is ∙ w.if-squared_distance-square.true) (omega (arith, l.invariant.0, c.loop-i-test.true, l.auto.numbers, c.requires.2)))
      | else-squared_distance-square w ↦ rw (w.count-is, w.numbers-is) (none (sym is ∙ w.if-squared_distance-square.false))
    ]
