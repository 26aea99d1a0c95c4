-- Squares, and sums of what is not negative, are not negative; and to add what is not negative makes nothing smaller.
-- Assumes nothing.
use Rattle.std.proofs.Common.{◌≡◌, ℕ, zero, suc, ◌+◌, ◌*◌, ◌<◌, ◌≤◌, true, false, not, T, ℤ, sym, refl, ap, ◌∙◌, subst, true≢false, le_trans, le_of_eq, le-add_right, mul-le-mul_right, mul_assoc, lt-suc_self, mul_comm, mul-pos, le-add_left}
use native.Mathlib.Nat.{le_step}
use lib.Ieee.{Float, nan, inf, fin, Format, up, down, round, sum, add, mul, lt, le, fits, binary64}
use lib.Ieee.Fits.{down_pos}
use lib.Ieee.Order.{round_mono}
use lib.Ieee.Scale.{finite}
use Rattle.ieee.specs.Bounds.{NotNegative}
use Rattle.ieee.specs.Sum.{sum_to}
use Rattle.ieee.proofs.Value.{holds_true, round_own}
use Rattle.ieee.proofs.Order.{le_not_lt}
use Rattle.ieee.proofs.Bound.{round_not_negative}

-- ---- the sign
-- a finite float times itself: the signs are alike
pub square_not_negative : (f : Format) (x : Float) → T (finite x) → NotNegative (mul f x x)
unfolding mul
square_not_negative f nan h = absurd h
square_not_negative f (inf s) h = absurd h
square_not_negative f (fin true m e) h = round_not_negative f (m * up e * (m * up e)) (down e * down e)
square_not_negative f (fin false m e) h = round_not_negative f (m * up e * (m * up e)) (down e * down e)

pub add_not_negative : (f : Format) (x y : Float) → NotNegative x → NotNegative y → NotNegative (add f x y)
unfolding add sum
add_not_negative f nan y p q = absurd p
add_not_negative f (inf s) nan p q = absurd q
add_not_negative f (inf true) (inf t) p q = absurd (true≢false p)
add_not_negative f (inf false) (inf true) p q = absurd (true≢false q)
add_not_negative f (inf false) (inf false) p q = refl
add_not_negative f (inf s) (fin t n d) p q = p
add_not_negative f (fin s m e) nan p q = absurd q
add_not_negative f (fin s m e) (inf t) p q = q
add_not_negative f (fin true m e) (fin t n d) p q = absurd (true≢false p)
add_not_negative f (fin false m e) (fin true n d) p q = absurd (true≢false q)
add_not_negative f (fin false m e) (fin false n d) p q = round_not_negative f (m * up e * down d + n * up d * down e) (down e * down d)

pub sum_to_not_negative : (t : ℕ → Float) (n : ℕ) → ((i : ℕ) → i < n → NotNegative (t i)) → NotNegative (sum_to t n)
unfolding sum_to
sum_to_not_negative t zero h = refl
sum_to_not_negative t (suc n) h = add_not_negative binary64 (sum_to t n) (t n) (sum_to_not_negative t n (λ i l. h i (le_step l))) (h n (lt-suc_self n))

-- ---- the size
-- what is rounded is at least m * 2 ^ e, a value of the format
no_less : (f : Format) (m : ℕ) (e : ℤ) (num den : ℕ) → T (fits f (fin false m e)) → 0 < den → m * up e * den ≤ num * down e → T (not (lt (round f false num den) (fin false m e)))
no_less f m e num den t D h =
    le_not_lt (fin false m e) (round f false num den)
    (subst (λ (z : Float). T (le z (round f false num den))) (round_own f false m e t) (round_mono f (m * up e) (down e) num den (down_pos e) D h))

no_smaller : (f : Format) (x y : Float) → NotNegative x → NotNegative y → (fits f x ≡ true → T (not (lt (add f x y) x))) × (fits f y ≡ true → T (not (lt (add f x y) y)))
unfolding add sum lt
no_smaller f nan y p q = absurd p
no_smaller f (inf s) nan p q = absurd q
no_smaller f (inf true) (inf t) p q = absurd (true≢false p)
no_smaller f (inf false) (inf true) p q = absurd (true≢false q)
no_smaller f (inf false) (inf false) p q = (λ r. tt, λ r. tt)
no_smaller f (inf true) (fin t n d) p q = absurd (true≢false p)
no_smaller f (inf false) (fin t n d) p q = (λ r. tt, λ r. tt)
no_smaller f (fin s m e) nan p q = absurd q
no_smaller f (fin s m e) (inf true) p q = absurd (true≢false q)
no_smaller f (fin s m e) (inf false) p q = (λ r. tt, λ r. tt)
no_smaller f (fin true m e) (fin t n d) p q = absurd (true≢false p)
no_smaller f (fin false m e) (fin true n d) p q = absurd (true≢false q)
no_smaller f (fin false m e) (fin false n d) p q =
    let a = m * up e * down d in
    let b = n * up d * down e in
    let D : 0 < down e * down d = mul-pos (down_pos e) (down_pos d) in (
      λ r. no_less f m e (a + b) (down e * down d) (holds_true r) D
          (le_trans (le_of_eq (ap (λ (z : ℕ). m * up e * z) (mul_comm (down e) (down d)) ∙ sym (mul_assoc (m * up e) (down d) (down e)))) (mul-le-mul_right (down e) (le-add_right a b))),
      λ r. no_less f n d (a + b) (down e * down d) (holds_true r) D
          (le_trans (le_of_eq (sym (mul_assoc (n * up d) (down e) (down d)))) (mul-le-mul_right (down d) (le-add_left b a))),
    )

-- x + y is not below x, and not below y, also where the sum overflows
pub add_not_below_first : (f : Format) (x y : Float) → fits f x ≡ true → NotNegative x → NotNegative y → T (not (lt (add f x y) x))
add_not_below_first f x y r p q = (no_smaller f x y p q).0 r

pub add_not_below_second : (f : Format) (x y : Float) → fits f y ≡ true → NotNegative x → NotNegative y → T (not (lt (add f x y) y))
add_not_below_second f x y r p q = (no_smaller f x y p q).1 r
