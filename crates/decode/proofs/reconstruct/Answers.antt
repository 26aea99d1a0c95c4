-- `decode::reconstruct` meets its contract: gathered, rotated back, scaled; then either refused, or copied out; and the
-- work zeroed. Assumes nothing.
use Rattle.std.specs.Prelude.{None, Some, Result, Ok, Err}
use mathlib.Core.Path.{◌≡◌, sym, ap, ◌∙◌}
use mathlib.Core.List.{List}
use Prim.Native.Nat.{ℕ}
use native.Mathlib.Omega.{arith}
use lib.ListN.{length, replicate}
use lib.Ieee.{Float}
use Rattle.error.specs.declared.Refusal.{Refusal}
use Rattle.error.specs.declared.Refusal.TheVariants.{NonFiniteInput}
use Rattle.error.specs.Numbers.{outcome, accepted, contents}
use Rattle.ieee.specs.Sum.{plus_zero}
use Rattle.bitpack.specs.Packed.{indices_in}
use Rattle.slices.specs.Limit.{first_not_finite}
use Rattle.decode.specs.Decode.{decoded, only_finite}
use Rattle.decode.proofs.ValueLaw.{copyable, scaled_is}
use Rattle.decode.proofs.reconstruct.Goals.{in-Some, in-None}
use Rattle.decode.proofs.reconstruct.Goals as goal

-- the two answers, from values xs that are those of the definition
module _ (xs ys out old : List Float) (a : Result Unit Refusal) (v : xs ≡ ys) where
  refuses : (i : ℕ) → first_not_finite xs ≡ Some i → a ≡ Err (NonFiniteInput i) → out ≡ old → (outcome a ≡ accepted (only_finite ys)) × (out ≡ contents (only_finite ys) old)
  refuses i f e o = (rw (e, ← v, f), rw (o, ← v, f))

  answers : first_not_finite xs ≡ None → a ≡ Ok tt → out ≡ xs → (outcome a ≡ accepted (only_finite ys)) × (out ≡ contents (only_finite ys) old)
  answers f e o = (rw (e, ← v, f), rw (o, ← v, f))

pub copy_out-requires-clause-by_index : goal.copy_out-requires-clause-by_index
copy_out-requires-clause-by_index c =
    copyable c.args.norm c.rotate_back.new.output c.scale.new.values (length c.rotate_back.new.output) c.scale.ensures.values_after (sym c.scale.ensures.bad ∙ c.in-None.is)

pub returns : goal.returns
returns c =
    let a = c.args in
    let k = a.quantizer.given.profile.block_dim in
    let indices : List ℕ = indices_in a.packed in
    let v : c.scale.new.values ≡ decoded (length a.output.now) k a.quantizer.matrix.now a.quantizer.codewords.now indices a.norm =
    scaled_is (length a.output.now) k a.quantizer.matrix.now a.quantizer.codewords.now indices a.norm _ _ _ _ _ _ (omega arith) (omega arith) (omega arith) c.gather.ensures c.rotate_back.ensures c.scale.ensures.values_after in
    let zeroed : c.zero_f64.new.s ≡ replicate (length a.work.now) plus_zero = c.zero_f64.ensures ∙ ap (λ (n : ℕ). replicate n plus_zero) c.match-scale.auto.work in
    elim c.match-scale.branch [
      | in-Some w ↦
          let r = refuses _ _ _ _ _ v w.in-Some.place (sym c.scale.ensures.bad ∙ w.in-Some.is) w.answer-is w.output-is in
          (r.0, r.1, zeroed)
      | in-None w ↦
          let r = answers _ _ _ a.output.now _ v (sym c.scale.ensures.bad ∙ w.in-None.is) w.answer-is (w.output-is ∙ w.copy_out.ensures) in
          (r.0, r.1, zeroed)
    ]
