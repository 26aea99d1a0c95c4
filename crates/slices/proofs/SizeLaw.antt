-- The larger of x and -x is at most a limit where x lies between -limit and limit. Of any floats. Assumes nothing.
use mathlib.Core.Path.{◌≡◌, refl, sym}
use Prim.Native.Nat.{ℕ, ◌+◌, ◌*◌, ◌≤◌, ◌<◌}
use native.Mathlib.Nat.{le_of_lt, le_of_eq, eq-or-lt_of_le, zero-mul, mul-pos, eq-zero-or-pos}
use native.Mathlib.Omega.{arith}
use mathlib.Core.Logic.{inl, inr}
use mathlib.Core.Bool.{Bool, true, false, not, cond, ◌&&◌, ◌||◌}
use lib.Dec.{T, ltb, eqb, ltb→lt, lt→ltb, nltb→le, eqb→eq}
use lib.IntN.{ℤ}
use lib.Ieee.{Float, nan, inf, fin, up, down, below, level, lt, eq, le, neg}
use lib.Ieee.Fits.{down_pos, and_i, and_l, and_r, eq→eqb}
use Rattle.slices.specs.Limit.{within}

-- two tests that follow from each other
same : (a b : Bool) → (T a → T b) → (T b → T a) → a ≡ b
same true true h k = refl
same true false h k = absurd (h tt)
same false true h k = absurd (k tt)
same false false h k = refl

-- ±a ≤ ±b
abbrev at_most : Bool → ℕ → Bool → ℕ → Bool
at_most s a t b = below s a t b || level s a t b

or_elim : (x y : Bool) (P : Type 0) → (T x → P) → (T y → P) → T (x || y) → P
or_elim true y P h k t = h tt
or_elim false y P h k t = k t

or_l : (x y : Bool) → T x → T (x || y)
or_l true y t = tt
or_l false y t = absurd t

or_r : (x y : Bool) → T y → T (x || y)
or_r true y t = tt
or_r false y t = t

-- what it says
abbrev Means : Bool → ℕ → Bool → ℕ → Type 0
Means false a false b = a ≤ b
Means false a true b = a + b ≤ 0
Means true a false b = 0 ≤ a + b
Means true a true b = b ≤ a

told : (s t : Bool) (a b : ℕ) → T (at_most s a t b) → Means s a t b
told false false a b h = or_elim (ltb a b) (eqb a b && true) (a ≤ b) (λ k. le_of_lt (ltb→lt a b k)) (λ k. le_of_eq (eqb→eq a b (and_l (eqb a b) true k))) h
told false true a b h =
    let e = eqb→eq a b (and_l (eqb a b) (eqb a 0) h) in
    let z = eqb→eq a 0 (and_r (eqb a b) (eqb a 0) h) in
    omega arith
told true false a b h = omega arith
told true true a b h = or_elim (ltb b a) (eqb a b && true) (b ≤ a) (λ k. le_of_lt (ltb→lt b a k)) (λ k. le_of_eq (sym (eqb→eq a b (and_l (eqb a b) true k)))) h

tell : (s t : Bool) (a b : ℕ) → Means s a t b → T (at_most s a t b)
tell false false a b h = elim (eq-or-lt_of_le h) [ inl e ↦ or_r (ltb a b) (eqb a b && true) (and_i (eqb a b) true (eq→eqb e) tt) | inr l ↦ or_l (ltb a b) (eqb a b && true) (lt→ltb a b l) ]
tell false true a b h =
    let p : a ≡ b = omega arith in
    let q : a ≡ 0 = omega arith in
    and_i (eqb a b) (eqb a 0) (eq→eqb p) (eq→eqb q)
tell true false a b h = elim (eq-zero-or-pos (a + b)) [
  | inl z ↦
      let p : a ≡ b = omega arith in
      let q : a ≡ 0 = omega arith in
      or_r (ltb 0 (a + b)) (eqb a b && eqb a 0) (and_i (eqb a b) (eqb a 0) (eq→eqb p) (eq→eqb q))
  | inr l ↦ or_l (ltb 0 (a + b)) (eqb a b && eqb a 0) (lt→ltb 0 (a + b) l)
]
tell true true a b h = elim (eq-or-lt_of_le h) [ inl e ↦ or_r (ltb b a) (eqb a b && true) (and_i (eqb a b) true (eq→eqb (sym e)) tt) | inr l ↦ or_l (ltb b a) (eqb a b && true) (lt→ltb b a l) ]

-- ---- the size of x = ±a against the limit ±b, by the sign of x
of_minus : (t : Bool) (a b : ℕ) → at_most false a t b ≡ at_most (not t) b true a && at_most true a t b
of_minus false a b =
    same (at_most false a false b) (at_most true b true a && at_most true a false b)
    (λ h. let k = told false false a b h in and_i (at_most true b true a) (at_most true a false b) (tell true true b a k) (tell true false a b (omega arith)))
    (λ h. tell false false a b (told true true b a (and_l (at_most true b true a) (at_most true a false b) h)))
of_minus true a b =
    same (at_most false a true b) (at_most false b true a && at_most true a true b)
    (λ h. let k = told false true a b h in and_i (at_most false b true a) (at_most true a true b) (tell false true b a (omega arith)) (tell true true a b (omega arith)))
    (λ h. let k = told false true b a (and_l (at_most false b true a) (at_most true a true b) h) in tell false true a b (omega arith))

of_plus : (t : Bool) (a b : ℕ) → at_most false a t b ≡ at_most (not t) b false a && at_most false a t b
of_plus false a b =
    same (at_most false a false b) (at_most true b false a && at_most false a false b)
    (λ h. and_i (at_most true b false a) (at_most false a false b) (tell true false b a (omega arith)) h)
    (λ h. and_r (at_most true b false a) (at_most false a false b) h)
of_plus true a b =
    same (at_most false a true b) (at_most false b false a && at_most false a true b)
    (λ h. let k = told false true a b h in and_i (at_most false b false a) (at_most false a true b) (tell false false b a (omega arith)) h)
    (λ h. and_r (at_most false b false a) (at_most false a true b) h)

-- +0 is not above -0, so that its size is -0
of_zero : (t : Bool) (a b : ℕ) → a ≡ 0 → at_most true a t b ≡ at_most (not t) b false a && at_most false a t b
of_zero false a b z =
    same (at_most true a false b) (at_most true b false a && at_most false a false b)
    (λ h. and_i (at_most true b false a) (at_most false a false b) (tell true false b a (omega arith)) (tell false false a b (omega arith)))
    (λ h. tell true false a b (omega arith))
of_zero true a b z =
    same (at_most true a true b) (at_most false b false a && at_most false a true b)
    (λ h. let k = told true true a b h in and_i (at_most false b false a) (at_most false a true b) (tell false false b a k) (tell false true a b (omega arith)))
    (λ h. tell true true a b (told false false b a (and_l (at_most false b false a) (at_most false a true b) h)))

-- ---- of floats
-- m times powers of two that is zero, for one power of two below the line, is zero for every one
still_zero : (m p q : ℕ) → 0 < p → m * p + m * p ≤ 0 → m * q ≡ 0
still_zero m p q l h = elim (eq-zero-or-pos m) [ inl z ↦ rw z (zero-mul q) | inr k ↦ let w = mul-pos k l in absurd (omega arith) ]

finite_plus : (g t : Bool) (m n : ℕ) (e d : ℤ) → (T (not g) → m * up e * down d ≡ 0) → le (cond g (fin false m e) (fin true m e)) (fin t n d) ≡ le (fin (not t) n d) (fin false m e) && le (fin false m e) (fin t n d)
unfolding le lt eq
finite_plus true t m n e d z = of_plus t (m * up e * down d) (n * up d * down e)
finite_plus false t m n e d z = of_zero t (m * up e * down d) (n * up d * down e) (z tt)

infinite_limit : (g t : Bool) (m : ℕ) (e : ℤ) → le (cond g (fin false m e) (fin true m e)) (inf t) ≡ le (inf (not t)) (fin false m e) && le (fin false m e) (inf t)
unfolding le lt eq
infinite_limit true true m e = refl
infinite_limit true false m e = refl
infinite_limit false true m e = refl
infinite_limit false false m e = refl

no_limit : (g : Bool) (m : ℕ) (e : ℤ) → le (cond g (fin false m e) (fin true m e)) nan ≡ false
unfolding le lt eq
no_limit true m e = refl
no_limit false m e = refl

pub size_within : (limit x : Float) → le (cond (lt (neg x) x) x (neg x)) limit ≡ within limit x
unfolding le lt eq neg
size_within nan nan = refl
size_within (inf t) nan = refl
size_within (fin t n d) nan = refl
size_within nan (inf true) = refl
size_within nan (inf false) = refl
size_within (inf true) (inf true) = refl
size_within (inf true) (inf false) = refl
size_within (inf false) (inf true) = refl
size_within (inf false) (inf false) = refl
size_within (fin t n d) (inf true) = refl
size_within (fin t n d) (inf false) = refl
size_within nan (fin true m e) = refl
size_within (inf true) (fin true m e) = refl
size_within (inf false) (fin true m e) = refl
size_within (fin t n d) (fin true m e) = of_minus t (m * up e * down d) (n * up d * down e)
size_within nan (fin false m e) = no_limit (ltb 0 (m * up e * down e + m * up e * down e)) m e
size_within (inf t) (fin false m e) = infinite_limit (ltb 0 (m * up e * down e + m * up e * down e)) t m e
size_within (fin t n d) (fin false m e) =
    finite_plus (ltb 0 (m * up e * down e + m * up e * down e)) t m n e d
    (λ h. still_zero (m * up e) (down e) (down d) (down_pos e) (nltb→le 0 (m * up e * down e + m * up e * down e) h))
