-- `encode::round` meets its contract: the places passed hold the rounded values. Assumes nothing.
use mathlib.Core.Path.{ap, ◌∙◌}
use Prim.Native.Nat.{ℕ}
use native.Mathlib.Nat.{zero-add}
use native.Mathlib.Omega.{arith}
use mathlib.Core.List.{List}
use lib.ListN.{get_or}
use lib.Ieee.{Float, nan, binary32}
use Rattle.slices.proofs.ListLaw.{patched_more, patched_next}
use Rattle.narrow.specs.Pack.{narrow_to}
use Rattle.decode.proofs.ListLaw.{all_written}
use Rattle.encode.proofs.round.Goals as goal

rounded : List Float → ℕ → Float
rounded values i = narrow_to binary32 (get_or values i nan)

pub loop-value-preserved : goal.loop-value-preserved
unfolding rounded
loop-value-preserved c =
    let old = c.args.values.now in
    let l = c.loop-value in
    let i = l.value-index in
    let same = patched_next old l.values 0 i i (rounded old) nan l.invariant (omega arith) ∙ ap (λ (z : ℕ). get_or old z nan) (zero-add i) in
    patched_more old l.values 0 i i (rounded old) c.f32_to_f64.result l.invariant (omega arith) (c.f32_to_f64.ensures ∙ c.f64_to_f32.ensures ∙ ap (narrow_to binary32) same)

pub returns : goal.returns
unfolding rounded
returns c = all_written c.args.values.now c.loop-value.values c.loop-value.value-index (rounded c.args.values.now) c.loop-value.invariant (omega arith)
