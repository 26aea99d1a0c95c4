-- `lloyd_cells::residual_norm` meets its contract: the part of the work
-- that is handed over has the codeword's coordinates. Assumes nothing.
use mathlib.Core.Path.{◌≡◌, refl, ap, ◌∙◌}
use Prim.Native.Nat.{ℕ, ◌+◌, ◌-◌, ◌<◌}
use native.Mathlib.Omega.{arith}
use mathlib.Core.List.{List}
use lib.ListN.{length, get_or, take, drop}
use lib.Seq.{get_or-take, get_or-drop}
use lib.Ieee.{Float, nan, binary64}
use Rattle.root.specs.Sqrt.{sqrt_of}
use Rattle.lloyd_search.specs.Distance.{vector_of}
use Rattle.lloyd_search.proofs.Parts.{distance_ext}
use Rattle.lloyd_cells.proofs.residual_norm.Goals as goal

cut : (at k : ℕ) → at + k - at ≡ k
cut at k = omega arith

part_at : (xs : List Float) (at k j : ℕ) → j < k → vector_of (take (at + k - at) (drop at xs)) j ≡ get_or xs (at + j) nan
part_at xs at k j h = rw (cut at k) (get_or-take k (drop at xs) j nan h ∙ get_or-drop at xs j nan)

pub returns : goal.returns
returns c =
    let a = c.args in
    let far = vector_of a.far.now in
    let k = length a.far.now in
    c.sqrt.ensures ∙ ap (sqrt_of binary64) (c.squared_distance.ensures ∙ distance_ext k far _ far (λ j. get_or a.work.now (a.at + j) nan) (λ j h. refl) (part_at a.work.now a.at k))
