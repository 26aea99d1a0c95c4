-- Rounding does not fall below a value that the format holds: so a square, and a sum of what is not negative, are at least
-- what one of their parts says. Assumes nothing.
use mathlib.Core.Path.{◌≡◌, refl, subst}
use mathlib.Core.Logic.{◌⊎◌, inl, inr}
use Prim.Native.Nat.{ℕ, zero, suc, ◌*◌, ◌≤◌, ◌<◌}
use native.Mathlib.Nat.{le_refl, le_step, le_trans, le_of_eq, le_of_lt, lt-suc_self, eq-or-lt_of_le, le_of_suc-le-suc, mul_right_comm, mul-le-mul, mul-le-mul_right, mul-mul-mul_comm, mul-pos, le_of_mul-le-mul_right}
use native.Mathlib.Omega.{arith}
use mathlib.Core.Bool.{Bool, true, false, not, true≢false}
use lib.Dec.{T, ltb, ltb→lt, nltb→le}
use lib.Ieee.{Float, nan, inf, fin, Format, binary64, up, down, round, add, mul, lt, fits}
use lib.Ieee.Bits.{is_true}
use lib.Ieee.Fits.{down_pos, add-fits}
use lib.Ieee.Order.{round_mono}
use lib.Ieee.Scale.{finite}
use Rattle.ieee.specs.Bounds.{AtMost, AtLeast, NotNegative, HoldsFraction}
use Rattle.ieee.specs.Sum.{sum_to}
use Rattle.ieee.proofs.Bound.{round_not_negative, fraction_value}
use Rattle.ieee.proofs.Order.{le_not_lt}
use Rattle.ieee.proofs.Sign.{sum_to_not_negative, add_not_below_first, add_not_below_second}
use Rattle.ieee.proofs.Whole.{value_at_least}

-- a float is at most a / c in size, or at least
pub at_most_or_least : (x : Float) (a c : ℕ) → T (finite x) → AtMost x a c ⊎ AtLeast x a c
at_most_or_least nan a c h = absurd h
at_most_or_least (inf s) a c h = absurd h
at_most_or_least (fin s m e) a c h = go (ltb (a * down e) (m * up e * c)) (ltb→lt (a * down e) (m * up e * c)) (nltb→le (a * down e) (m * up e * c))
  where
    go : (b : Bool) → (T b → a * down e < m * up e * c) → (T (not b) → m * up e * c ≤ a * down e) → (m * up e * c ≤ a * down e) ⊎ (a * down e ≤ m * up e * c)
    go true l g = inr (le_of_lt (l tt))
    go false l g = inl (g tt)

-- x ≥ y ≥ a / c
pub at_least_above : (x y : Float) (a c : ℕ) → T (finite x) → NotNegative x → NotNegative y → T (not (lt x y)) → AtLeast y a c → AtLeast x a c
unfolding lt
at_least_above nan y a c f p q l h = absurd f
at_least_above (inf s) y a c f p q l h = absurd f
at_least_above (fin s m e) nan a c f p q l h = absurd h
at_least_above (fin s m e) (inf t) a c f p q l h = absurd h
at_least_above (fin true m e) (fin t n d) a c f p q l h = absurd (true≢false p)
at_least_above (fin false m e) (fin true n d) a c f p q l h = absurd (true≢false q)
at_least_above (fin false m e) (fin false n d) a c f p q l h =
    -- a / c ≤ n up d / down d ≤ m up e / down e
    le_of_mul-le-mul_right
    (le_trans (le_of_eq (mul_right_comm a (down e) (down d)))
    (le_trans (mul-le-mul_right (down e) h)
    (le_trans (le_of_eq (mul_right_comm (n * up d) c (down e)))
    (le_trans (mul-le-mul_right c (nltb→le (m * up e * down d) (n * up d * down e) l)) (le_of_eq (mul_right_comm (m * up e) (down d) c))))))
    (down_pos d)

-- what is at least a / c, a value of the format, rounds to at least a / c
pub round_at_least : (f : Format) (num den a c : ℕ) → 0 < den → 0 < c → HoldsFraction f a c → a * den ≤ num * c → T (finite (round f false num den)) → AtLeast (round f false num den) a c
round_at_least f num den a c D C v h t =
    at_least_above (round f false num den) (round f false a c) a c t (round_not_negative f num den) (round_not_negative f a c)
    (le_not_lt (round f false a c) (round f false num den) (round_mono f a c num den C D h)) (value_at_least (round f false a c) false a a c (fraction_value f a c C v) (le_refl a))

-- ---- a square
squared : (a c m d : ℕ) → a * d ≤ m * c → a * a * (d * d) ≤ m * m * (c * c)
squared a c m d h = le_trans (le_of_eq (mul-mul-mul_comm a a d d)) (le_trans (mul-le-mul h h) (le_of_eq (mul-mul-mul_comm m c m c)))

pub square_at_least : (f : Format) (x : Float) (a c : ℕ) → 0 < c → HoldsFraction f (a * a) (c * c) → AtLeast x a c → T (finite (mul f x x)) → AtLeast (mul f x x) (a * a) (c * c)
unfolding mul
square_at_least f nan a c C v h t = absurd h
square_at_least f (inf s) a c C v h t = absurd h
square_at_least f (fin true m e) a c C v h t =
    round_at_least f (m * up e * (m * up e)) (down e * down e) (a * a) (c * c) (mul-pos (down_pos e) (down_pos e)) (mul-pos C C) v (squared a c (m * up e) (down e) h) t
square_at_least f (fin false m e) a c C v h t =
    round_at_least f (m * up e * (m * up e)) (down e * down e) (a * a) (c * c) (mul-pos (down_pos e) (down_pos e)) (mul-pos C C) v (squared a c (m * up e) (down e) h) t

-- ---- a sum: a value of binary64, and where its terms are not negative at least each of them
pub sum_to_fits : (t : ℕ → Float) (n : ℕ) → fits binary64 (sum_to t n) ≡ true
unfolding sum_to fits
sum_to_fits t zero = refl
sum_to_fits t (suc n) = is_true _ (add-fits binary64 (sum_to t n) (t n))

module _ (t : ℕ → Float) (a c : ℕ) where
  pub sum_at_least : (n i : ℕ) → i < n → ((j : ℕ) → j < n → NotNegative (t j)) → ((j : ℕ) → j < n → fits binary64 (t j) ≡ true) → ((m : ℕ) → m ≤ n → T (finite (sum_to t m))) → AtLeast (t i) a c → AtLeast (sum_to t n) a c
  unfolding sum_to
  sum_at_least zero i l p q f h = absurd (omega arith)
  sum_at_least (suc n) i l p q f h =
      let P = sum_to_not_negative t n (λ j k. p j (le_step k)) in
      let P' = sum_to_not_negative t (suc n) p in
      elim (eq-or-lt_of_le (le_of_suc-le-suc l)) [
        | inl e ↦
            at_least_above (add binary64 (sum_to t n) (t n)) (t n) a c (f (suc n) (le_refl (suc n))) P' (p n (lt-suc_self n))
            (add_not_below_second binary64 (sum_to t n) (t n) (q n (lt-suc_self n)) P (p n (lt-suc_self n))) (subst (λ (z : ℕ). AtLeast (t z) a c) e h)
        | inr k ↦
            at_least_above (add binary64 (sum_to t n) (t n)) (sum_to t n) a c (f (suc n) (le_refl (suc n))) P' P
            (add_not_below_first binary64 (sum_to t n) (t n) (sum_to_fits t n) P (p n (lt-suc_self n)))
            (sum_at_least n i k (λ j g. p j (le_step g)) (λ j g. q j (le_step g)) (λ m g. f m (le_step g)) h)
      ]
