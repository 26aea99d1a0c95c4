-- `lloyd_round::nearest_cell` meets its contract: a distance found below infinity is that of its codeword; and the index
-- found is below n, so that its codeword lies within the codebook. Assumes nothing.
use mathlib.Core.Path.{◌≡◌, refl, sym, ap, ◌∙◌, subst}
use Prim.Native.Nat.{ℕ, ◌<◌, ◌*◌}
use native.Mathlib.Omega.{arith}
use mathlib.Core.Bool.{false}
use mathlib.Core.List.{List}
use lib.ListN.{length}
use lib.Seq.{length-take-le}
use lib.Dec.{T}
use lib.Ieee.{Float, inf, lt, of_bits}
use Rattle.ieee.proofs.Value.{holds_true}
use Rattle.lloyd_search.specs.declared.Found.{Found}
use Rattle.lloyd_search.specs.declared.Choice.{Choice}
use Rattle.lloyd_search.specs.Distance.{distance, vector_of, row_of}
use Rattle.lloyd_search.specs.Nearest.{first_least}
use Rattle.lloyd_search.proofs.NearestLaw.{found_is}
use Rattle.lloyd_search.proofs.Parts.{part_distance}
use Rattle.lloyd_round.specs.Adding.{front}
use Rattle.lloyd_round.proofs.AddLaw.{row_inside, found_below}
use Rattle.lloyd_round.proofs.nearest_cell.Goals as goal

answer : (i j : ℕ) (x : Float) (d : ℕ → Float) → i ≡ j → x ≡ d i → ◌≡◌ {A = Found} (record { index = i; distance = x }) (record { index = j; distance = d j })
answer i j x d e h = rw (h, e)

pub overflow_mul-from : goal.overflow_mul-from
overflow_mul-from c =
    let a = c.args in
    let k = length a.sample.now in
    let i = c.search.result.found.index in
    let below : i < a.n = subst (λ (r : Choice). r.found.index < a.n) (sym c.search.ensures) (found_below a.n k (front a.n k a.work.now) (vector_of a.sample.now) c.requires.0) in
    omega (arith, row_inside i a.n k below, c.requires.1)

pub overflow_add-to : goal.overflow_add-to
overflow_add-to c =
    let a = c.args in
    let k = length a.sample.now in
    let i = c.search.result.found.index in
    let below : i < a.n = subst (λ (r : Choice). r.found.index < a.n) (sym c.search.ensures) (found_below a.n k (front a.n k a.work.now) (vector_of a.sample.now) c.requires.0) in
    omega (arith, row_inside i a.n k below, c.requires.1)

pub offset_bounds-codewords-from : goal.offset_bounds-codewords-from
offset_bounds-codewords-from c =
    let a = c.args in
    let k = length a.sample.now in
    let i = c.search.result.found.index in
    let below : i < a.n = subst (λ (r : Choice). r.found.index < a.n) (sym c.search.ensures) (found_below a.n k (front a.n k a.work.now) (vector_of a.sample.now) c.requires.0) in
    omega (arith, row_inside i a.n k below, c.requires.1, c.well_formed.0.1)

pub slice_bounds-squared_distance-end : goal.slice_bounds-squared_distance-end
slice_bounds-squared_distance-end c =
    let a = c.args in
    let k = length a.sample.now in
    let i = c.search.result.found.index in
    let below : i < a.n = subst (λ (r : Choice). r.found.index < a.n) (sym c.search.ensures) (found_below a.n k (front a.n k a.work.now) (vector_of a.sample.now) c.requires.0) in
    omega (arith, row_inside i a.n k below, c.requires.1, length-take-le (a.n * k) a.work.now c.requires.1)

-- below infinity the search's own distance is that of the codeword found
pub returns-then-found : goal.returns-then-found
unfolding of_bits
returns-then-found c =
    let block : List Float =
    c.args.sample.now in
    let book : List Float =
    front c.args.n (length (block)) c.args.work.now in
    let q = c in
    let s = q in
    let k = length (block) in
    let d : ℕ → Float = λ i. distance k (vector_of (block)) (row_of k (book) i) in
    let e = ap (λ (r : Choice). r.found) q.search.ensures in
    e ∙ ap (λ (x : Float). record { index = (first_least d s.args.n).index; distance = x }) (found_is d s.args.n (subst (λ (f : Found). T (lt f.distance (inf false))) e (holds_true c.if-found.true)))

pub returns : goal.returns
returns c =
    let block : List Float =
    c.args.sample.now in
    let book : List Float =
    front c.args.n (length (block)) c.args.work.now in
    let q = c in
    let s = q in
    let k = length (block) in
    answer q.search.result.found.index _ c.squared_distance-distance.result (λ i. distance k (vector_of (block)) (row_of k (book) i)) (ap (λ (r : Choice). r.found.index) q.search.ensures)
    (c.squared_distance-distance.ensures ∙ part_distance (vector_of (block)) (book) q.search.result.found.index k (q.search.result.found.index * k) refl)
