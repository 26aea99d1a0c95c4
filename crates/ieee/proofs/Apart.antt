-- Two finite values of binary32 that are not equal are so far apart that the square of their difference does not vanish
-- in binary64; of two that are equal it is +0. And how large such a value is. Assumes nothing.
use mathlib.Core.Path.{◌≡◌, refl, sym, ap, subst, ◌∙◌}
use mathlib.Core.Logic.{inl, inr}
use Prim.Native.Nat.{ℕ, zero, suc, ◌+◌, ◌-◌, ◌*◌, ◌^◌, ◌<◌, ◌≤◌, ◌%◌, zero-le}
use native.Mathlib.Nat.{le_trans, le_of_eq, le_of_lt, mul-one, one-mul, zero-mul, le_refl, mul-pos, mul-le-mul, mul-le-mul_right, eq-or-lt_of_le}
use native.Mathlib.Omega.{arith}
use mathlib.Core.Bool.{Bool, true, false, true≢false, not, ◌&&◌, ◌||◌, beq, cond}
use lib.Dec.{T, lit≤, lit<, ltb, leb, eqb, ltb→lt, leb→le, eqb→eq}
use lib.Pow.{pow_pos}
use lib.IntN.{ℤ, pos, negsuc}
use lib.Ieee.{Float, nan, inf, fin, binary32, binary64, up, down, round, sum, add, sub, mul, neg, lt, le, eq, level, fits}
use lib.Ieee.Fits.{and_l, and_r, down_pos}
use lib.Ieee.Scale.{finite, round_same}
use borrow.Author.Tests.{eq-eqb, ltb-true, ltb-false, le-ltb}
use Rattle.ieee.specs.Bounds.{Upto, AtLeast, NotNegative, HoldsFraction}
use Rattle.ieee.specs.Sum.{plus_zero, squared_difference}
use Rattle.ieee.proofs.Bound.{or_le, signed, round_signed}
use Rattle.ieee.proofs.Least.{round_at_least}

-- ---- a finite value of binary32
pub single_upto : (x : Float) → T (fits binary32 x) → T (finite x) → Upto x (2 ^ 128)
unfolding fits
single_upto nan f t = absurd t
single_upto (inf s) f t = absurd t
single_upto (fin s zero e) f t = le_trans (le_of_eq (ap (λ (z : ℕ). z * 1) (zero-mul (up e)))) zero-le
single_upto (fin s (suc m) e) f t =
    le_trans (le_of_eq (mul-one (suc m * up e)))
    (le_of_lt (ltb→lt (suc m * up e) (2 ^ 128 * down e) (and_r (eqb (suc m % 2) 1 && ltb (suc m) (2 ^ 24) && leb (down e) (2 ^ 149)) (ltb (suc m * up e) (2 ^ 128 * down e)) f)))

-- its exponent is no less than -149
parts_upto : (s : Bool) (m : ℕ) (e : ℤ) → T (fits binary32 (fin s m e)) → down e ≤ 2 ^ 149
unfolding fits
parts_upto s zero (pos k) f = lit≤ tt
parts_upto s zero (negsuc k) f = le_trans (le_of_eq (sym (one-mul (2 ^ suc k)) ∙ eqb→eq (1 * 2 ^ suc k) 1 f)) (lit≤ tt)
parts_upto s (suc m) e f =
    leb→le (down e) (2 ^ 149)
    (and_r (eqb (suc m % 2) 1 && ltb (suc m) (2 ^ 24)) (leb (down e) (2 ^ 149))
    (and_l (eqb (suc m % 2) 1 && ltb (suc m) (2 ^ 24) && leb (down e) (2 ^ 149)) (ltb (suc m * up e) (2 ^ 128 * down e)) f))

-- ---- the difference of two that are not equal
-- a fraction of at least 2 ^ -298, rounded, with a sign
signed_at_least : (s : Bool) (x : Float) (a c : ℕ) → T (finite (signed s x)) → (T (finite x) → AtLeast x a c) → AtLeast (signed s x) a c
signed_at_least s nan a c f h = f
signed_at_least s (inf t) a c f h = f
signed_at_least s (fin t m e) a c f h = h tt

rounded_at_least : (s : Bool) (n c : ℕ) → 0 < c → c ≤ 2 ^ 298 → 1 ≤ n → T (finite (round binary64 s n c)) → AtLeast (round binary64 s n c) 1 (2 ^ 298)
rounded_at_least s n c C few some f =
    let is = round_signed binary64 s n c in
    let far : 1 * c ≤ n * 2 ^ 298 = le_trans (le_of_eq (one-mul c)) (le_trans few (le_trans (le_of_eq (sym (one-mul (2 ^ 298)))) (mul-le-mul_right (2 ^ 298) some))) in
    subst (λ (x : Float). AtLeast x 1 (2 ^ 298)) (sym is)
    (signed_at_least s (round binary64 false n c) 1 (2 ^ 298) (subst (λ (x : Float). T (finite x)) is f)
    (round_at_least binary64 n c 1 (2 ^ 298) C (pow_pos 298) (record { q = 1; j = 776; small = lit< tt; under = lit< tt; is = refl }) far))

-- a / c and b / c with their signs, where they are not level
same_level : (s : Bool) (a b : ℕ) → a ≡ b → T (level s a s b)
same_level s a b e = subst (λ (z : ℕ). T (level s a s z)) e (go s)
  where
    go : (s : Bool) → T (level s a s a)
    go true = rw (eq-eqb a a refl) tt
    go false = rw (eq-eqb a a refl) tt

some_left : (a b : ℕ) → (a ≡ b → ⊥) → ltb a b ≡ false → 1 ≤ a - b
some_left a b o e = elim (eq-or-lt_of_le (ltb-false a b e)) [ inl i ↦ absurd (o (sym i)) | inr l ↦ omega arith ]

some_in_all : (a b : ℕ) → ((a ≡ 0) × (b ≡ 0) → ⊥) → 1 ≤ a + b
some_in_all zero zero h = absurd (h (refl, refl))
some_in_all zero (suc b) h = omega arith
some_in_all (suc a) b h = omega arith

summed : (s t : Bool) (a b c : ℕ) → 0 < c → c ≤ 2 ^ 298 → (T (level s a t b) → ⊥) → T (finite (sum binary64 s a (not t) b c)) → AtLeast (sum binary64 s a (not t) b c) 1 (2 ^ 298)
unfolding sum
summed s t a b c C few h f = go s t (ltb a b) refl h f
  where
    Far : Float → Type 0
    Far d = T (finite d) → AtLeast d 1 (2 ^ 298)

    go : (s t x : Bool) → ltb a b ≡ x → (T (level s a t b) → ⊥) → Far (cond (beq s (not t)) (round binary64 s (a + b) c) (cond x (round binary64 (not t) (b - a) c) (round binary64 (s && ltb b a) (a - b) c)))
    go true true true e h = rounded_at_least false (b - a) c C few (let l = ltb-true a b e in omega arith)
    go false false true e h = rounded_at_least true (b - a) c C few (let l = ltb-true a b e in omega arith)
    go true true false e h = rounded_at_least (true && ltb b a) (a - b) c C few (some_left a b (λ i. h (same_level true a b i)) e)
    go false false false e h = rounded_at_least (false && ltb b a) (a - b) c C few (some_left a b (λ i. h (same_level false a b i)) e)
    go true false x e h = rounded_at_least true (a + b) c C few (some_in_all a b (λ i. h (rw (i.0, i.1) tt)))
    go false true x e h = rounded_at_least false (a + b) c C few (some_in_all a b (λ i. h (rw (i.0, i.1) tt)))

pub difference_at_least : (x y : Float) → T (fits binary32 x) → T (fits binary32 y) → T (finite x) → T (finite y) → (T (eq x y) → ⊥) → T (finite (sub binary64 x y)) → AtLeast (sub binary64 x y) 1 (2 ^ 298)
unfolding sub add neg eq
difference_at_least nan y f g p q h = absurd p
difference_at_least (inf s) y f g p q h = absurd p
difference_at_least (fin s m e) nan f g p q h = absurd q
difference_at_least (fin s m e) (inf t) f g p q h = absurd q
difference_at_least (fin s m e) (fin t n d) f g p q h =
    summed s t (m * up e * down d) (n * up d * down e) (down e * down d) (mul-pos (down_pos e) (down_pos d)) (le_trans (mul-le-mul (parts_upto s m e f) (parts_upto t n d g)) (lit≤ tt)) h

-- binary64 has the square of 2 ^ -298
pub square_of_least : HoldsFraction binary64 (1 * 1) (2 ^ 298 * 2 ^ 298)
square_of_least = record { q = 1; j = 478; small = lit< tt; under = lit< tt; is = refl }

-- what is at least some a / c is above zero
pub above_zero : (x : Float) (a c : ℕ) → 0 < a → NotNegative x → AtLeast x a c → T (le x plus_zero) → ⊥
unfolding le lt eq
above_zero nan a c A p h t = p
above_zero (inf s) a c A p h t = h
above_zero (fin true m e) a c A p h t = true≢false p
above_zero (fin false m e) a c A p h t =
    let none : m * up e * 1 ≤ 0 * down e = or_le (m * up e * 1) (0 * down e) t in
    let z = zero-mul (down e) in
    let o = mul-one (m * up e) in
    let empty : m * up e ≡ 0 = omega (arith, none, z, o) in
    let all : m * up e * c ≡ 0 = ap (λ (n : ℕ). n * c) empty ∙ zero-mul c in
    let some = mul-pos A (down_pos e) in
    omega (arith, some, h, all)

-- ---- of two that are equal
zero_squared : (s : Bool) → mul binary64 (round binary64 s 0 1) (round binary64 s 0 1) ≡ plus_zero
unfolding mul round
zero_squared true = refl
zero_squared false = refl

zero_square : (s : Bool) (c : ℕ) → 0 < c → mul binary64 (round binary64 s 0 c) (round binary64 s 0 c) ≡ plus_zero
zero_square s c C = ap (λ (x : Float). mul binary64 x x) (round_same binary64 s 0 c 0 1 C (pow_pos 0) (sym (zero-mul c))) ∙ zero_squared s

level_sum : (s t : Bool) (a b c : ℕ) → T (level s a t b) → (u : Bool) × (sum binary64 s a (not t) b c ≡ round binary64 u 0 c)
unfolding sum
level_sum s t a b c h = subst (λ (z : ℕ). (u : Bool) × (sum binary64 s a (not t) z c ≡ round binary64 u 0 c)) (eqb→eq a b (and_l (eqb a b) (beq s t || eqb a 0) h)) (go s t (and_r (eqb a b) (beq s t || eqb a 0) h))
  where
    alike : (u : Float) (w : Bool) → cond (ltb a a) u (round binary64 w (a - a) c) ≡ round binary64 w 0 c
    alike u w = rw (le-ltb a a (le_refl a), none) refl
      where
        none : a - a ≡ 0
        none = omega arith

    go : (s t : Bool) → T (beq s t || eqb a 0) → (u : Bool) × (cond (beq s (not t)) (round binary64 s (a + a) c) (cond (ltb a a) (round binary64 (not t) (a - a) c) (round binary64 (s && ltb a a) (a - a) c)) ≡ round binary64 u 0 c)
    go true true h = (true && ltb a a, alike _ (true && ltb a a))
    go false false h = (false && ltb a a, alike _ (false && ltb a a))
    go true false h = (true, rw (eqb→eq a 0 h) refl)
    go false true h = (false, rw (eqb→eq a 0 h) refl)

pub equal_square : (x y : Float) → T (finite x) → T (finite y) → T (eq x y) → squared_difference x y ≡ plus_zero
unfolding sub add neg eq
equal_square nan y p q h = absurd p
equal_square (inf s) y p q h = absurd p
equal_square (fin s m e) nan p q h = absurd q
equal_square (fin s m e) (inf t) p q h = absurd q
equal_square (fin s m e) (fin t n d) p q h =
    let (u, is) = level_sum s t (m * up e * down d) (n * up d * down e) (down e * down d) h in
    ap (λ (x : Float). mul binary64 x x) is ∙ zero_square u (down e * down d) (mul-pos (down_pos e) (down_pos d))
