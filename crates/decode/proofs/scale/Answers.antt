-- `decode::scale` meets its contract: the values passed are scaled, and the first of them that is not finite is noted.
-- Assumes nothing.
use Rattle.std.specs.Prelude.{Option, Some, None}
use Rattle.std.specs.Option.{option_or}
use Rattle.std.specs.Bool.{then_some}
use mathlib.Core.Path.{◌≡◌, refl, sym, ap, ◌∙◌}
use mathlib.Core.Bool.{Bool, true, false, not}
use Prim.Native.Nat.{ℕ, ◌+◌}
use native.Mathlib.Nat.{zero-add}
use native.Mathlib.Omega.{arith}
use native.Mathlib.Numerals.{add-one}
use lib.ListN.{length, get_or}
use lib.Ieee.{Float, nan, binary32, binary64, mul}
use lib.Ieee.Scale.{finite}
use Rattle.slices.specs.First.{first_where, or_at}
use Rattle.slices.specs.Limit.{first_not_finite}
use Rattle.slices.proofs.ListLaw.{patched_more, patched_next}
use Rattle.narrow.specs.Pack.{narrow_to}
use Rattle.decode.proofs.ListLaw.{all_written}
use Rattle.decode.proofs.ValueLaw.{scaled, first_bad}
use Rattle.decode.proofs.scale.Goals as goal

-- one value more
noted : (t : ℕ → Bool) (i : ℕ) (bad r : Option ℕ) (b : Bool) → bad ≡ first_where t i → b ≡ t i → r ≡ option_or bad (then_some b i)
    → r ≡ first_where t (i + 1)
unfolding first_where
noted t i bad r b h q e = e ∙ rw (add-one, h, q) (same (first_where t i) (t i))
  where
    same : (o : Option ℕ) (b : Bool) → option_or o (then_some b i) ≡ or_at o i b
    same (Some j) b = refl
    same None true = refl
    same None false = refl

pub loop-i-preserved : goal.loop-i-preserved
loop-i-preserved c =
    let a = c.args in
    let l = c.loop-i in
    let v : c.f64_to_f32-x.result ≡ scaled a.norm a.values.now l.i =
    c.f64_to_f32-x.ensures ∙ ap (λ (y : Float). narrow_to binary32 (mul binary64 y a.norm)) (patched_next a.values.now l.values 0 l.i l.i (scaled a.norm a.values.now) nan l.invariant.written (omega arith) ∙ ap (λ (z : ℕ). get_or a.values.now z nan) (zero-add l.i)) in record {
      found = noted (λ i. not (finite (scaled a.norm a.values.now i))) l.i l.bad c.or-bad.result (not c.is_finite_f32.result) l.invariant.found
          (ap not (c.is_finite_f32.ensures ∙ ap finite v)) (c.or-bad.ensures ∙ ap (option_or l.bad) c.then_some.ensures);
      written = patched_more a.values.now l.values 0 l.i l.i (scaled a.norm a.values.now) c.f32_to_f64.result l.invariant.written (omega arith) (c.f32_to_f64.ensures ∙ v);
    }

pub returns-clause-values_after : goal.returns-clause-values_after
returns-clause-values_after c =
    let a = c.args in
    all_written a.values.now c.loop-i.values c.loop-i.i (scaled a.norm a.values.now) c.loop-i.invariant.written (omega arith)

pub returns-clause-bad : goal.returns-clause-bad
returns-clause-bad c =
    let a = c.args in
    let l = c.loop-i in
    let g : ℕ → Float = scaled a.norm a.values.now in
    let e : l.i ≡ length a.values.now = omega arith in
    l.invariant.found ∙ ap (first_where (λ i. not (finite (g i)))) e ∙ first_bad a.norm a.values.now (length a.values.now)
    ∙ ap first_not_finite (sym (all_written a.values.now l.values l.i g l.invariant.written e))
