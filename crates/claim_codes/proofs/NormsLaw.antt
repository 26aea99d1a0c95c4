-- `RoundedOnce` and `StillCoded` hold of every float, and `EarlierAnswers`. Assumes nothing.
use mathlib.Core.Path.{◌≡◌, refl, sym, ap, ◌∙◌, subst}
use Prim.Native.Nat.{ℕ, ◌*◌, ◌^◌, ◌≤◌, ◌<◌}
use native.Mathlib.Nat.{lt_of_not-le, zero-add}
use native.Mathlib.Omega.{arith}
use mathlib.Core.Bool.{Bool, true, false, not, cond, true≢false}
use mathlib.Core.List.{[]}
use lib.Dec.{lit<, lit≤}
use lib.IntN.{ℤ}
use lib.Pow.{pow_pos}
use lib.Ieee.{Float, nan, inf, fin, binary32, up, down, round, lt}
use lib.Ieee.Fits.{down_pos}
use borrow.Author.Tests.{lt-ltb}
use Rattle.error.specs.Numbers.{Outcome, completed, refused}
use Rattle.ieee.specs.Bounds.{AtMost, NotNegative}
use Rattle.ieee.proofs.Bound.{round_at_most, round_not_negative}
use Rattle.narrow.specs.Format.{inf_of, unpacked, Rounded}
use Rattle.narrow.specs.Pack.{mag_of, packed, narrow_to}
use Rattle.narrow.proofs.ToNearest.{rounded}
use Rattle.narrow.proofs.Middle.{rounded_only}
use Rattle.norm.specs.Norm.{above_zero, written_as, norm_bits}
use Rattle.norm.proofs.NormLaw.{positive_value, positive_pattern, pattern_norm, WrittenAs, Written, as_written}
use Rattle.norm.proofs.RangeLaw.{coded_above, above_coded, coded_below, below_coded}
use Rattle.claim_codes.proofs.PastLaw.{Past, past_round}
use Rattle.claim_codes.specs.Norms.{Once, RoundedOnce, earlier_bits, EarlierAnswers, Coded, StillCoded}

-- ---- a pattern that stands for no norm
refused_as : (x : Float) (p : ℕ) → above_zero (unpacked 11 15 p) ≡ false → written_as x p ≡ refused 10 []
refused_as x p h = rw h (go (above_zero x) (refused 10 []))
  where
    go : (b : Bool) (o : Outcome ℕ) → cond (not b) o o ≡ o
    go true o = refl
    go false o = refl

-- ---- a finite norm without a minus sign
module _ (m : ℕ) (e : ℤ) where
  abbrev num : ℕ
  num = m * up e

  abbrev den : ℕ
  den = down e

  abbrev pattern : ℕ
  pattern = mag_of 11 15 num den

  nearest : Rounded 11 15 num den pattern
  nearest = rounded 11 15 num den (omega arith) (down_pos e)

  bits_are : packed 11 15 (fin false m e) ≡ pattern
  unfolding packed
  bits_are = zero-add pattern

  outcome_is : norm_bits (fin false m e) ≡ written_as (fin false m e) pattern
  unfolding norm_bits
  outcome_is = ap (written_as (fin false m e)) bits_are

  positive : 0 < num → above_zero (fin false m e) ≡ true
  positive h = positive_value (fin false m e) false num den (down_pos e) (refl, refl) ∙ lt-ltb 0 num h

  is_written : 0 < pattern → pattern < inf_of 11 15 → norm_bits (fin false m e) ≡ completed pattern
  is_written h k =
      let a = coded_above num den pattern (down_pos e) nearest h in
      outcome_is ∙ rw (positive (omega arith), pattern_norm pattern h k)

  is_refused : (b : ℕ) → pattern ≡ b → above_zero (unpacked 11 15 b) ≡ false → norm_bits (fin false m e) ≡ refused 10 []
  is_refused b i h = outcome_is ∙ refused_as (fin false m e) pattern (ap (λ (z : ℕ). above_zero (unpacked 11 15 z)) i ∙ h)

  once : Once num den (norm_bits (fin false m e))
  once = record {
    bits = pattern;
    nearest = nearest;
    only = λ (o : ℕ) r. rounded_only 11 15 num den (down_pos e) o pattern r nearest;
    written = is_written;
    zero = λ i. is_refused 0 i (positive_pattern 11 15 0);
    infinite = λ i. is_refused (inf_of 11 15) i (positive_pattern 11 15 (inf_of 11 15));
    above = (coded_above num den pattern (down_pos e) nearest, above_coded num den pattern (down_pos e) nearest);
    below = (coded_below num den pattern (down_pos e) nearest, below_coded num den pattern (down_pos e) nearest);
  }

  pub coded_range : (b : ℕ) → Written (fin false m e) b → (den < num * 2 ^ 25) × (num < 65520 * den)
  coded_range b w =
      let i = w.is ∙ bits_are in
      (coded_above num den pattern (down_pos e) nearest (subst (λ (z : ℕ). 0 < z) i w.above), coded_below num den pattern (down_pos e) nearest (subst (λ (z : ℕ). z < inf_of 11 15) i w.below))

pub rounded_once : (x : Float) → RoundedOnce x
unfolding norm_bits lt
rounded_once nan = refl
rounded_once (inf s) = refl
rounded_once (fin true m e) = refl
rounded_once (fin false m e) = once m e

-- ---- what two steps coded. Both limits are values of binary32, so the first step passes neither.
small : (y : Float) → NotNegative y → AtMost y 1 (2 ^ 25) → 0 < packed 11 15 y → ⊥
small nan n h k = n
small (inf s) n h k = h
small (fin true m e) n h k = true≢false n
small (fin false m e) n h k = let a = coded_above (num m e) (den m e) (pattern m e) (down_pos e) (nearest m e) (subst (λ (z : ℕ). 0 < z) (bits_are m e) k) in omega arith

large : (y : Float) → Past y 65520 → packed 11 15 y < inf_of 11 15 → ⊥
unfolding packed
large nan h k = h
large (inf true) h k = true≢false h
large (inf false) h k = omega arith
large (fin true m e) h k = true≢false h.0
large (fin false m e) h k = let a = coded_below (num m e) (den m e) (pattern m e) (down_pos e) (nearest m e) (subst (λ (z : ℕ). z < inf_of 11 15) (bits_are m e) k) in let l = h.1 in omega arith

module _ (m : ℕ) (e : ℤ) (b : ℕ) (w : WrittenAs (fin false m e) (packed 11 15 (round binary32 false (m * up e) (down e))) b) where
  abbrev step : Float
  step = round binary32 false (num m e) (den m e)

  still_above : den m e < num m e * 2 ^ 25
  still_above = lt_of_not-le (λ (g : num m e * 2 ^ 25 ≤ den m e).
      let a : AtMost step 1 (2 ^ 25) = round_at_most binary32 false (num m e) (den m e) 1 (2 ^ 25) 1 124 (down_pos e) (pow_pos 25) (lit< tt) (lit< tt) refl (omega arith) in
      small step (round_not_negative binary32 (num m e) (den m e)) a (subst (λ (z : ℕ). 0 < z) w.is w.above))

  still_below : num m e < 65520 * den m e
  still_below = lt_of_not-le (λ (g : 65520 * den m e ≤ num m e).
      large step (past_round binary32 (num m e) (den m e) 65520 (down_pos e) (record { q = 4095; j = 4; small = lit< tt; reach = lit≤ tt; is = refl }) g)
      (subst (λ (z : ℕ). z < inf_of 11 15) w.is w.below))

  still : Coded (fin false m e)
  still =
      let r = once m e in
      record { bits = r.bits; written = r.written (r.above.1 still_above) (r.below.1 still_below) }

pub earlier_answers : EarlierAnswers
unfolding packed narrow_to unpacked lt
earlier_answers = record { another_bit = refl; large_refused = refl; small_refused = refl }

earlier_written : (x : Float) (b : ℕ) → earlier_bits x ≡ completed b → WrittenAs x (packed 11 15 (narrow_to binary32 x)) b
earlier_written x b h = as_written x (packed 11 15 (narrow_to binary32 x)) b h

pub still_coded : (x : Float) → StillCoded x
unfolding lt narrow_to
still_coded nan b h = absurd (true≢false (sym (earlier_written nan b h).codable))
still_coded (inf s) b h = absurd (true≢false (sym (earlier_written (inf s) b h).codable))
still_coded (fin true m e) b h = absurd (true≢false (sym (earlier_written (fin true m e) b h).codable))
still_coded (fin false m e) b h = still m e b (earlier_written (fin false m e) b h)
