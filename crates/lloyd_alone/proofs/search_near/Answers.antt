-- `lloyd_alone::search_near` meets its contract: from what the fours give, the best so far is the choice among the
-- codewords passed, unless a distance is a NaN, and while `near` holds they are near. Assumes nothing.
use Rattle.std.proofs.Common.{◌≡◌, ◌+◌, ◌*◌, ◌/◌, List, Float, T, refl, arith, subst}
use lib.Ieee.{binary64, add, lt, of_bits}
use lib.Ieee.Bits.{is_true}
use lib.Ieee.Fits.{and_l, and_r}
use Rattle.ieee.proofs.Value.{holds_true}
use Rattle.lloyd_search.specs.Distance.{distance, vector_of, row_of}
use Rattle.lloyd_search.proofs.LimitLaw.{power}
use Rattle.lloyd_search.proofs.Parts.{part_distance}
use Rattle.lloyd_search.proofs.NearestLaw.{one_more}
use Rattle.lloyd_alone.proofs.WatchLaw.{fours_near, one_near}
use Rattle.lloyd_alone.proofs.search_near.Goals as goal

-- the sum of the sums is small
abbrev small : List Float → Type 0
small s = T (lt (add binary64 (add binary64 (vector_of s 0) (vector_of s 1)) (add binary64 (vector_of s 2) (vector_of s 3))) (power 250))

pub loop-i-init : goal.loop-i-init
unfolding of_bits
loop-i-init c =
    let book = c.args.codewords in
    let w = c.watch_fours-watched in
    record { best_is = w.ensures.best_is; where_near = λ h. fours_near book.dim (row_of book.dim book.values.now) (vector_of c.args.block.now) (book.count / 4) (subst small w.ensures.sums_are (holds_true h)) }

pub loop-i-preserved : goal.loop-i-preserved
unfolding of_bits
loop-i-preserved c =
    let l = c.loop-i in
    let x = vector_of c.args.block.now in
    let k = c.args.codewords.dim in
    let cw = c.args.codewords.values.now in
    let y = c.squared_distance-distance.result in
    let part = part_distance x cw l.i k (l.i * k) refl in
    let far : y ≡ distance k x (row_of k cw l.i) = rw (c.squared_distance-distance.ensures, c.requires) part in
    record {
      best_is = λ fine. one_more (λ m. distance k x (row_of k cw m)) l.i (l.i + 1) l.best c.nearer-best.result y refl (l.invariant.best_is (λ m h. fine m (omega arith))) far c.nearer-best.ensures;
      where_near = λ h. let t = holds_true h in one_near k (row_of k cw) x l.i y (l.invariant.where_near (is_true l.near (and_l l.near (lt y (power 250)) t))) far (and_r l.near (lt y (power 250)) t);
    }
