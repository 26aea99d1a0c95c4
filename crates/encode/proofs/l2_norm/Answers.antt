-- `encode::l2_norm` meets its contract: the sum is that of the squares passed. Assumes nothing.
use mathlib.Core.Path.{◌≡◌, refl, ap, ◌∙◌}
use native.Mathlib.Omega.{arith}
use native.Mathlib.Numerals.{add-one}
use lib.ListN.{length}
use lib.Ieee.{of_bits, binary64}
use Rattle.ieee.specs.Sum.{sum_to}
use Rattle.root.specs.Sqrt.{sqrt_of}
use Rattle.encode.specs.Encode.{square_at, norm_of}
use Rattle.encode.proofs.l2_norm.Goals as goal

pub loop-value-init : goal.loop-value-init
unfolding of_bits sum_to
loop-value-init c = refl

pub loop-value-preserved : goal.loop-value-preserved
unfolding sum_to
loop-value-preserved c = rw (add-one, c.f32_to_f64-x.ensures, c.loop-value.invariant)

pub returns : goal.returns
unfolding norm_of
returns c =
    let xs = c.args.input.now in
    let e : c.loop-value.value-index ≡ length xs = omega arith in
    c.sqrt.ensures ∙ ap (sqrt_of binary64) (c.loop-value.invariant ∙ ap (sum_to (square_at xs)) e)
