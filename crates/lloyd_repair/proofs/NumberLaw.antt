-- A whole number held as a float comes back as it was. Assumes nothing.
use Rattle.std.proofs.Common.{◌≡◌, ℕ, ◌+◌, ◌-◌, ◌*◌, ◌/◌, ◌^◌, ◌<◌, min, true, false, T, pos, sym, ap, ◌∙◌, true≢false, lt_of_lt_of_le, le_of_lt, mul-lt-mul_of_pos_right, mul-one, mul-div_cancel, arith, lit≤, lt→ltb}
use native.Mathlib.Nat.{min-eq_left}
use lib.Ieee.{Float, nan, inf, fin, binary64, up, down, lt, of_int, to_unsigned}
use lib.Ieee.Fits.{down_pos}
use lib.Ieee.Exact.{HasValue}
use Rattle.ieee.proofs.Whole.{whole_value}

above : (x : Float) (s : ℕ) → HasValue x false s 1 → T (lt (fin true 1 (pos 0)) x)
unfolding lt
above nan s h = h
above (inf t) s h = absurd h
above (fin true m e) s h = absurd (true≢false h.0)
above (fin false m e) s h = let d = down_pos e in lt→ltb 0 (1 * 1 * down e + m * up e * 1) (omega arith)

below : (x : Float) (s : ℕ) → HasValue x false s 1 → s < 2 ^ 64 → T (lt x (fin false 1 (pos 64)))
unfolding lt
below nan s h l = h
below (inf t) s h l = absurd h
below (fin true m e) s h l = absurd (true≢false h.0)
below (fin false m e) s h l =
    let d = down_pos e in
    let v : m * up e * 1 ≡ s * down e = h.1 in
    let w : s * down e < 2 ^ 64 * down e = mul-lt-mul_of_pos_right l d in
    lt→ltb (m * up e * 1) (1 * 2 ^ 64 * down e) (omega arith)

back : (x : Float) (s : ℕ) → HasValue x false s 1 → s < 2 ^ 64 → to_unsigned 64 x ≡ s
unfolding to_unsigned
back nan s h l = absurd h
back (inf t) s h l = absurd h
back (fin true m e) s h l = absurd (true≢false h.0)
back (fin false m e) s h l =
    let q : m * up e / down e ≡ s = ap (λ (z : ℕ). z / down e) (sym (mul-one (m * up e)) ∙ h.1) ∙ mul-div_cancel s (down_pos e) in
    ap (λ (z : ℕ). min z (2 ^ 64 - 1)) q ∙ min-eq_left (omega arith)

value : (s : ℕ) → s < 2 ^ 53 → HasValue (of_int binary64 (pos s)) false s 1
value s l = whole_value binary64 s (le_of_lt l)

wide : (s : ℕ) → s < 2 ^ 53 → s < 2 ^ 64
wide s l = lt_of_lt_of_le l (lit≤ tt)

module _ (x : Float) (s : ℕ) (e : x ≡ of_int binary64 (pos s)) (l : s < 2 ^ 53) where
  pub number_above : T (lt (fin true 1 (pos 0)) x)
  number_above = rw e (above (of_int binary64 (pos s)) s (value s l))

  pub number_below : T (lt x (fin false 1 (pos 64)))
  number_below = rw e (below (of_int binary64 (pos s)) s (value s l) (wide s l))

  pub number_back : to_unsigned 64 x ≡ s
  number_back = rw e (back (of_int binary64 (pos s)) s (value s l) (wide s l))
