-- What is at least a whole number that the format holds stays so, or becomes
-- infinite, through squares, sums, roots and rounding. Assumes nothing.
use mathlib.Core.Path.{◌≡◌, refl, sym, ap, ◌∙◌, subst}
use mathlib.Core.Logic.{inl, inr}
use Prim.Native.Nat.{ℕ, zero, suc, ◌+◌, ◌*◌, ◌≤◌, ◌<◌}
use native.Mathlib.Nat.{le_trans, le_of_eq, le_of_lt, le_step, lt-suc_self, le-add_right, le-add_left, le_of_suc-le-suc, eq-or-lt_of_le, mul-one, mul_comm, mul_assoc, mul-le-mul, mul-le-mul_right, mul-pos, mul_right_comm, mul-mul-mul_comm, zero-lt-suc, le_of_mul-le-mul_right}
use native.Mathlib.Omega.{arith}
use mathlib.Core.Bool.{Bool, true, false, ◌&&◌, ◌||◌, true≢false}
use lib.Dec.{T, ltb, eqb, ltb→lt, eqb→eq}
use lib.Ieee.{Float, nan, inf, fin, Format, binary64, up, down, round, sum, add, mul, le}
use lib.Ieee.Fits.{down_pos}
use lib.Ieee.Exact.{HasValue}
use lib.Ieee.Order.{round_mono}
use Rattle.ieee.specs.Bounds.{AtLeast, NotNegative, Holds}
use Rattle.ieee.specs.Sum.{sum_to}
use Rattle.ieee.proofs.Bound.{round_not_negative, fraction_value, holds_fraction}
use Rattle.ieee.proofs.Sign.{sum_to_not_negative}

-- no NaN, no minus sign, and at least a: the infinity above is
abbrev pub Past : Float → ℕ → Type 0
Past nan a = ⊥
Past (inf s) a = s ≡ false
Past (fin s m e) a = (s ≡ false) × (a * down e ≤ m * up e)

or_le : (a b : ℕ) → T (ltb a b || (eqb a b && true)) → a ≤ b
or_le a b t = go (ltb a b) (eqb a b) (ltb→lt a b) (eqb→eq a b) t
  where
    go : (x y : Bool) → (T x → a < b) → (T y → a ≡ b) → T (x || (y && true)) → a ≤ b
    go true y h k t = le_of_lt (h tt)
    go false true h k t = le_of_eq (k tt)
    go false false h k t = absurd t

over : (x y : Float) (a : ℕ) → HasValue y false a 1 → NotNegative x → T (le y x) → Past x a
unfolding le
over x nan a v p h = absurd v
over x (inf s) a v p h = absurd v
over nan (fin s n d) a v p h = p
over (inf s) (fin t n d) a v p h = p
over (fin true m e) (fin t n d) a v p h = absurd (true≢false p)
over (fin false m e) (fin true n d) a v p h = absurd (true≢false v.0)
over (fin false m e) (fin false n d) a v p h =
    -- a = n up d / down d ≤ m up e / down e
    let q : n * up d ≡ a * down d = sym (mul-one (n * up d)) ∙ v.1 in
    (refl, le_of_mul-le-mul_right (le_trans (le_of_eq (mul_right_comm a (down e) (down d) ∙ ap (λ (z : ℕ). z * down e) (sym q))) (or_le (n * up d * down e) (m * up e * down d) h)) (down_pos d))

pub past_round : (f : Format) (num den a : ℕ) → 0 < den → Holds f a → a * den ≤ num → Past (round f false num den) a
past_round f num den a D r h =
    over (round f false num den) (round f false a 1) a (fraction_value f a 1 (zero-lt-suc 0) (holds_fraction f a r)) (round_not_negative f num den)
    (round_mono f a 1 num den (zero-lt-suc 0) D (le_trans h (le_of_eq (sym (mul-one num)))))

-- a square
squares : (a m q : ℕ) → a * q ≤ m * 1 → a * a * (q * q) ≤ m * m
squares a m q h = let l = le_trans h (le_of_eq (mul-one m)) in le_trans (le_of_eq (mul-mul-mul_comm a a q q)) (mul-le-mul l l)

pub past_square : (f : Format) (x : Float) (a : ℕ) → Holds f (a * a) → AtLeast x a 1 → Past (mul f x x) (a * a)
unfolding mul
past_square f nan a r h = absurd h
past_square f (inf s) a r h = absurd h
past_square f (fin true m e) a r h = past_round f (m * up e * (m * up e)) (down e * down e) (a * a) (mul-pos (down_pos e) (down_pos e)) r (squares a (m * up e) (down e) h)
past_square f (fin false m e) a r h = past_round f (m * up e * (m * up e)) (down e * down e) (a * a) (mul-pos (down_pos e) (down_pos e)) r (squares a (m * up e) (down e) h)

-- a sum of what is not negative
pub past_first : (f : Format) (x y : Float) (a : ℕ) → Holds f a → Past x a → NotNegative y → Past (add f x y) a
unfolding add sum
past_first f nan y a r h q = absurd h
past_first f (inf s) nan a r h q = absurd q
past_first f (inf true) (inf t) a r h q = absurd (true≢false h)
past_first f (inf false) (inf true) a r h q = absurd (true≢false q)
past_first f (inf false) (inf false) a r h q = refl
past_first f (inf s) (fin t n d) a r h q = h
past_first f (fin s m e) nan a r h q = absurd q
past_first f (fin s m e) (inf t) a r h q = q
past_first f (fin true m e) (fin t n d) a r h q = absurd (true≢false h.0)
past_first f (fin false m e) (fin true n d) a r h q = absurd (true≢false q)
past_first f (fin false m e) (fin false n d) a r h q =
    past_round f (m * up e * down d + n * up d * down e) (down e * down d) a (mul-pos (down_pos e) (down_pos d)) r
    (le_trans (le_of_eq (sym (mul_assoc a (down e) (down d)))) (le_trans (mul-le-mul_right (down d) h.1) (le-add_right (m * up e * down d) (n * up d * down e))))

pub past_second : (f : Format) (x y : Float) (a : ℕ) → Holds f a → NotNegative x → Past y a → Past (add f x y) a
unfolding add sum
past_second f nan y a r p h = absurd p
past_second f (inf s) nan a r p h = absurd h
past_second f (inf true) (inf t) a r p h = absurd (true≢false p)
past_second f (inf false) (inf true) a r p h = absurd (true≢false h)
past_second f (inf false) (inf false) a r p h = refl
past_second f (inf s) (fin t n d) a r p h = p
past_second f (fin s m e) nan a r p h = absurd h
past_second f (fin s m e) (inf t) a r p h = h
past_second f (fin true m e) (fin t n d) a r p h = absurd (true≢false p)
past_second f (fin false m e) (fin true n d) a r p h = absurd (true≢false h.0)
past_second f (fin false m e) (fin false n d) a r p h =
    past_round f (m * up e * down d + n * up d * down e) (down e * down d) a (mul-pos (down_pos e) (down_pos d)) r
    (le_trans (le_of_eq (ap (λ (z : ℕ). a * z) (mul_comm (down e) (down d)) ∙ sym (mul_assoc a (down d) (down e)))) (le_trans (mul-le-mul_right (down e) h.1) (le-add_left (n * up d * down e) (m * up e * down d))))

-- a sum of many, one of which is at least a
pub past_sum : (t : ℕ → Float) (n i a : ℕ) → Holds binary64 a → ((j : ℕ) → j < n → NotNegative (t j)) → i < n → Past (t i) a → Past (sum_to t n) a
unfolding sum_to
past_sum t zero i a r h l p = absurd (omega arith)
past_sum t (suc n) i a r h l p = elim (eq-or-lt_of_le (le_of_suc-le-suc l)) [
  | inl e ↦ past_second binary64 (sum_to t n) (t n) a r (sum_to_not_negative t n (λ j m. h j (le_step m))) (subst (λ (z : ℕ). Past (t z) a) e p)
  | inr m ↦ past_first binary64 (sum_to t n) (t n) a r (past_sum t n i a r (λ j g. h j (le_step g)) m p) (h n (lt-suc_self n))
]
