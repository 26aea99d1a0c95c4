-- `lloyd_search::distances_from` meets its contract: each sum is that of the coordinates passed. Assumes nothing.
use Rattle.std.proofs.Common.{rules, ℕ, ◌+◌, ◌*◌, ◌<◌, ◌≤◌, length, arith, refl}
use native.Mathlib.Nat.{add-mul}
use Rattle.ieee.specs.Sum.{sum_to}
use lib.Ieee.{of_bits}
use Rattle.lloyd_search.specs.Distance.{vector_as, row_as}
use Rattle.lloyd_search.proofs.Reading.{read_row, read_vector, four_turned}
use Rattle.lloyd_search.proofs.distances_from.Goals as goal

-- four rows from row i on lie within the list
within : (i k j L : ℕ) → (i + 4) * k ≤ L → j < k → i * k + k + k + k + j < L
within i k j L h l = omega (arith, add-mul i 4 k)

pub loop-j-init : goal.loop-j-init
unfolding of_bits sum_to
loop-j-init g c = refl

pub loop-j-preserved : goal.loop-j-preserved
loop-j-preserved g c =
    let l = c.loop-j in
    let s = g.S.Coordinate in
    let t = g.T.Coordinate in
    let i = c.args.index in
    let k = length c.args.one.now in
    let rows = c.args.rows.now in
    let h = within i k l.j _ c.requires.within c.loop-j-test.true in
    let m = add-mul i 1 k in
    let n = add-mul i 2 k in
    let o = add-mul i 3 k in
    four_turned (vector_as s.value s.missing c.args.one.now) (row_as t.value t.missing k rows) i l.j l.sums c.widen-x.result c.widen.result c.widen-in-loop-j.result c.widen-in-loop-j-2.result c.widen-in-loop-j-3.result
    l.invariant
    (rw c.widen-x.ensures (read_vector c.args.one.now l.j _ (search rules) c.index-one-j.is s.value s.missing))
    (rw c.widen.ensures (read_row rows _ _ (omega (arith, h)) c.index-rows-at.is t.value t.missing k i l.j refl))
    (rw c.widen-in-loop-j.ensures (read_row rows _ _ (omega (arith, h)) c.index-rows-at2.is t.value t.missing k (i + 1) l.j (omega (arith, m))))
    (rw c.widen-in-loop-j-2.ensures (read_row rows _ _ (omega (arith, h)) c.index-rows-at3.is t.value t.missing k (i + 2) l.j (omega (arith, n))))
    (rw c.widen-in-loop-j-3.ensures (read_row rows _ _ h c.index-rows-at4.is t.value t.missing k (i + 3) l.j (omega (arith, o))))
