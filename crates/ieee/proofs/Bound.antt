-- Rounding does not pass a value that the format holds: where a / c is such a value, a
-- fraction of at most a / c rounds to a finite float of size at most a / c. And so for sums,
-- differences, products and quotients: for each a law `-below` (by what the bound rounds
-- to), and from it one for bounds that are whole numbers of the format. Assumes nothing.
use Rattle.std.proofs.Common.{◌≡◌, ℕ, zero, suc, ◌+◌, ◌-◌, ◌*◌, ◌/◌, ◌%◌, ◌^◌, ◌<◌, ◌≤◌, Bool, true, false, cond, not, ◌&&◌, ◌||◌, T, eqb, ltb, pos, sym, refl, ap, ◌∙◌, subst, true≢false, zero-le, le_trans, le_of_eq, le_refl, lt_of_lt_of_le, le_of_lt, mul-le-mul_right, zero-lt-suc, mul_assoc, lt-suc_self, suc-mul, mul_comm, add-mul, mul-le-mul, mul-pos, one-mul, mul-one, mul_right_comm, le_of_mul-le-mul_right, mul_left_comm, arith, eqb→eq, ltb→lt, pow_mono, pow-add, shl_lt}
use Prim.Native.Nat.{compare}
use native.Mathlib.Nat.{le_step, le_of_suc-le, mul-mul-mul_comm}
use mathlib.Core.Bool.{beq}
use lib.Dec.{not_T}
use lib.Ieee.{Float, nan, inf, fin, Format, binary64, prec, emax, low, unlike, up, down, size, nearest, odd, units, round, sum, neg, add, sub, mul, div, le, of_int}
use lib.Ieee.Fits.{round_is, down_pos}
use lib.Ieee.Bits.{cond_no}
use lib.Ieee.Exact.{HasValue, round_exact}
use lib.Ieee.Order.{round_mono}
use lib.Ieee.Positive.{first_pos}
use lib.Ieee.Scale.{finite, round_same}
use Rattle.ieee.specs.Bounds.{AtMost, AtLeast, Upto, NotNegative, Holds, HoldsFraction}
use Rattle.ieee.specs.Sum.{sum_to}
use Rattle.ieee.proofs.Whole.{whole_value, value_at_least}

-- ---- a sign changes nothing else
abbrev pub signed : Bool → Float → Float
signed s nan = nan
signed s (inf t) = inf s
signed s (fin t m e) = fin s m e

odd_signed : (d : ℕ) (s : Bool) (q k l : ℕ) → odd d s q k l ≡ signed s (odd d false q k l)
unfolding odd
odd_signed d s zero k l = refl
odd_signed d s (suc q) k l = refl

units_signed : (f : Format) (s : Bool) (q k : ℕ) → units f s q k ≡ signed s (units f false q k)
unfolding units
units_signed f s q k = go (ltb (q * 2 ^ k) (2 ^ (low f + suc (emax f))))
  where
    go : (b : Bool) → cond b (odd (suc (prec f)) s q k (low f)) (inf s) ≡ signed s (cond b (odd (suc (prec f)) false q k (low f)) (inf false))
    go true = odd_signed (suc (prec f)) s q k (low f)
    go false = refl

pub round_signed : (f : Format) (s : Bool) (num den : ℕ) → round f s num den ≡ signed s (round f false num den)
round_signed f s num den =
    let n = num * 2 ^ low f in
    let k = size (n / den) - prec f in
    let u = den * 2 ^ k in
    round_is f s num den ∙ units_signed f s (nearest (n / u) (compare (n % u * 2) u)) k ∙ ap (signed s) (sym (round_is f false num den))

signed_at_most : (s : Bool) (x : Float) (a c : ℕ) → AtMost x a c → AtMost (signed s x) a c
signed_at_most s nan a c h = h
signed_at_most s (inf t) a c h = h
signed_at_most s (fin t m e) a c h = h

-- ---- below a finite value that is not negative
pub or_le : (a b : ℕ) → T (ltb a b || (eqb a b && true)) → a ≤ b
or_le a b t = go (ltb a b) (eqb a b) (ltb→lt a b) (eqb→eq a b) t
  where
    go : (x y : Bool) → (T x → a < b) → (T y → a ≡ b) → T (x || (y && true)) → a ≤ b
    go true y h k t = le_of_lt (h tt)
    go false true h k t = le_of_eq (k tt)
    go false false h k t = absurd t

odd_not_negative : (d q k l : ℕ) → NotNegative (odd d false q k l)
unfolding odd
odd_not_negative d zero k l = refl
odd_not_negative d (suc q) k l = refl

units_not_negative : (f : Format) (q k : ℕ) → NotNegative (units f false q k)
unfolding units
units_not_negative f q k = go (ltb (q * 2 ^ k) (2 ^ (low f + suc (emax f))))
  where
    go : (b : Bool) → NotNegative (cond b (odd (suc (prec f)) false q k (low f)) (inf false))
    go true = odd_not_negative (suc (prec f)) q k (low f)
    go false = refl

pub round_not_negative : (f : Format) (num den : ℕ) → NotNegative (round f false num den)
round_not_negative f num den = subst NotNegative (sym (round_is f false num den)) (units_not_negative f _ _)

under : (x y : Float) (a c : ℕ) → NotNegative x → HasValue y false a c → T (le x y) → AtMost x a c
unfolding le
under nan y a c p v h = p
under (inf s) nan a c p v h = v
under (inf s) (inf t) a c p v h = v
under (inf true) (fin t n d) a c p v h = absurd (true≢false p)
under (inf false) (fin t n d) a c p v h = h
under (fin s m e) nan a c p v h = absurd v
under (fin s m e) (inf t) a c p v h = absurd v
under (fin true m e) (fin t n d) a c p v h = absurd (true≢false p)
under (fin false m e) (fin true n d) a c p v h = absurd (true≢false v.0)
under (fin false m e) (fin false n d) a c p v h =
    -- m up e / down e ≤ n up d / down d = a / c
    le_of_mul-le-mul_right
    (le_trans (le_of_eq (mul_right_comm (m * up e) c (down d)))
    (le_trans (mul-le-mul_right c (or_le (m * up e * down d) (n * up d * down e) h))
    (le_of_eq (mul_right_comm (n * up d) (down e) c ∙ ap (λ (z : ℕ). z * down e) v.1 ∙ mul_right_comm a (down d) (down e)))))
    (down_pos d)

-- THE LAW. What is at most a / c rounds, whatever its sign, to at most what a / c rounds to, which is u / w
pub round_below : (f : Format) (s : Bool) (num den a c u w : ℕ) → 0 < den → 0 < c → HasValue (round f false a c) false u w → num * c ≤ a * den → AtMost (round f s num den) u w
round_below f s num den a c u w D C v l =
    subst (λ (x : Float). AtMost x u w) (sym (round_signed f s num den))
    (signed_at_most s (round f false num den) u w
    (under (round f false num den) (round f false a c) u w (round_not_negative f num den) v (round_mono f num den a c D C l)))

-- where a / c is q * 2 ^ j of the format's smallest values, it rounds to itself
pub round_at_most : (f : Format) (s : Bool) (num den a c q j : ℕ) → 0 < den → 0 < c → q < 2 ^ prec f → q * 2 ^ j < 2 ^ (low f + suc (emax f)) → a * 2 ^ low f ≡ q * 2 ^ j * c
    → num * c ≤ a * den → AtMost (round f s num den) a c
round_at_most f s num den a c q j D C small fine h l = round_below f s num den a c a c D C (round_exact f false a c q j C small fine h) l

-- ---- values of the format
pub fraction_value : (f : Format) (a c : ℕ) → 0 < c → HoldsFraction f a c → HasValue (round f false a c) false a c
fraction_value f a c C r = round_exact f false a c r.q r.j C r.small r.under r.is

raise : (p j l m : ℕ) → j + p ≤ m → p + (j + l) ≤ l + m
raise p j l m h = omega arith

-- a whole number of the format, as the fraction A / 1
pub holds_fraction : (f : Format) (A : ℕ) → Holds f A → HoldsFraction f A 1
holds_fraction f A r =
    let l = low f in record {
      q = r.q;
      j = r.j + l;
      small = r.small;
      under = lt_of_lt_of_le (shl_lt (prec f) (r.j + l) r.small) (pow_mono (raise (prec f) r.j l (suc (emax f)) r.reach));
      is = ap (λ (z : ℕ). z * 2 ^ l) r.is ∙ mul_assoc r.q (2 ^ r.j) (2 ^ l) ∙ ap (λ (z : ℕ). r.q * z) (sym (pow-add 2 r.j l)) ∙ sym (mul-one (r.q * 2 ^ (r.j + l)));
    }

holds_value : (f : Format) (A : ℕ) → Holds f A → HasValue (round f false A 1) false A 1
holds_value f A r = fraction_value f A 1 (zero-lt-suc 0) (holds_fraction f A r)

pub round_upto : (f : Format) (s : Bool) (num den A : ℕ) → 0 < den → Holds f A → num ≤ A * den → Upto (round f s num den) A
round_upto f s num den A D r h = round_below f s num den A 1 A 1 D (zero-lt-suc 0) (holds_value f A r) (le_trans (le_of_eq (mul-one num)) h)

-- ---- a bound says that the float is finite, and a larger bound holds too
pub at_most_finite : (x : Float) (a c : ℕ) → AtMost x a c → T (finite x)
at_most_finite nan a c h = h
at_most_finite (inf s) a c h = h
at_most_finite (fin s m e) a c h = tt

pub upto_finite : (x : Float) (A : ℕ) → Upto x A → T (finite x)
upto_finite x A h = at_most_finite x A 1 h

pub at_most_mono : (x : Float) (a b c : ℕ) → AtMost x a c → a ≤ b → AtMost x b c
at_most_mono nan a b c h l = h
at_most_mono (inf s) a b c h l = h
at_most_mono (fin s m e) a b c h l = le_trans h (mul-le-mul_right (down e) l)

pub upto_mono : (x : Float) (A B : ℕ) → Upto x A → A ≤ B → Upto x B
upto_mono x A B h l = at_most_mono x A B 1 h l

neg_at_most : (x : Float) (a c : ℕ) → AtMost x a c → AtMost (neg x) a c
unfolding neg
neg_at_most nan a c h = h
neg_at_most (inf s) a c h = h
neg_at_most (fin s m e) a c h = h

-- ---- sums: with x at most a / c and y at most b / d, what (a * d + b * c) / (c * d) rounds to
added : (a c b d m n p q : ℕ) → m * c ≤ a * p → n * d ≤ b * q → (m * q + n * p) * (c * d) ≤ (a * d + b * c) * (p * q)
added a c b d m n p q h k =
    let x : m * q * (c * d) ≤ a * d * (p * q) = le_trans (le_of_eq (mul-mul-mul_comm m q c d)) (le_trans (mul-le-mul_right (q * d) h) (le_of_eq (ap (λ (z : ℕ). a * p * z) (mul_comm q d) ∙ mul-mul-mul_comm a p d q))) in
    let y : n * p * (c * d) ≤ b * c * (p * q) = le_trans (le_of_eq (ap (λ (z : ℕ). n * p * z) (mul_comm c d) ∙ mul-mul-mul_comm n p d c)) (le_trans (mul-le-mul_right (p * c) k) (le_of_eq (mul-mul-mul_comm b q p c ∙ simp (mul_assoc, mul_comm, mul_left_comm)))) in
    omega (arith, add-mul (m * q) (n * p) (c * d), add-mul (a * d) (b * c) (p * q))

sum_below : (f : Format) (s t : Bool) (a b den p q u w : ℕ) → 0 < den → 0 < q → HasValue (round f false p q) false u w → (a + b) * q ≤ p * den → AtMost (sum f s a t b den) u w
unfolding sum
sum_below f s t a b den p q u w D Q v h = go (beq s t) (ltb a b)
  where
    less : (n : ℕ) → n ≤ a + b → n * q ≤ p * den
    less n l = le_trans (mul-le-mul_right q l) h

    go : (x y : Bool) → AtMost (cond x (round f s (a + b) den) (cond y (round f t (b - a) den) (round f (s && ltb b a) (a - b) den))) u w
    go true y = round_below f s (a + b) den p q u w D Q v h
    go false true = round_below f t (b - a) den p q u w D Q v (less (b - a) (omega arith))
    go false false = round_below f (s && ltb b a) (a - b) den p q u w D Q v (less (a - b) (omega arith))

pub add_below : (f : Format) (x y : Float) (a c b d u w : ℕ) → 0 < c → 0 < d → HasValue (round f false (a * d + b * c) (c * d)) false u w → AtMost x a c → AtMost y b d → AtMost (add f x y) u w
unfolding add
add_below f nan y a c b d u w C D v h k = absurd h
add_below f (inf s) y a c b d u w C D v h k = absurd h
add_below f (fin s m e) nan a c b d u w C D v h k = absurd k
add_below f (fin s m e) (inf t) a c b d u w C D v h k = absurd k
add_below f (fin s m e) (fin t n g) a c b d u w C D v h k =
    sum_below f s t (m * up e * down g) (n * up g * down e) (down e * down g) (a * d + b * c) (c * d) u w (mul-pos (down_pos e) (down_pos g)) (mul-pos C D) v
    (added a c b d (m * up e) (n * up g) (down e) (down g) h k)

pub sub_below : (f : Format) (x y : Float) (a c b d u w : ℕ) → 0 < c → 0 < d → HasValue (round f false (a * d + b * c) (c * d)) false u w → AtMost x a c → AtMost y b d → AtMost (sub f x y) u w
unfolding sub
sub_below f x y a c b d u w C D v h k = add_below f x (neg y) a c b d u w C D v h (neg_at_most y b d k)

whole_sum : (f : Format) (A B : ℕ) → Holds f (A + B) → HasValue (round f false (A * 1 + B * 1) (1 * 1)) false (A + B) 1
whole_sum f A B r = subst (λ (z : ℕ). HasValue (round f false z 1) false (A + B) 1) (ap (λ (z : ℕ). z + B) (sym (mul-one A)) ∙ ap (λ (z : ℕ). A * 1 + z) (sym (mul-one B))) (holds_value f (A + B) r)

-- under whole bounds whose sum the format holds
pub add_upto : (f : Format) (x y : Float) (A B : ℕ) → Holds f (A + B) → Upto x A → Upto y B → Upto (add f x y) (A + B)
add_upto f x y A B r h k = add_below f x y A 1 B 1 (A + B) 1 (zero-lt-suc 0) (zero-lt-suc 0) (whole_sum f A B r) h k

pub sub_upto : (f : Format) (x y : Float) (A B : ℕ) → Holds f (A + B) → Upto x A → Upto y B → Upto (sub f x y) (A + B)
sub_upto f x y A B r h k = sub_below f x y A 1 B 1 (A + B) 1 (zero-lt-suc 0) (zero-lt-suc 0) (whole_sum f A B r) h k

-- ---- products: with x at most a / c and y at most b / d, what a * b / (c * d) rounds to
times : (a c b d m n p q : ℕ) → m * c ≤ a * p → n * d ≤ b * q → m * n * (c * d) ≤ a * b * (p * q)
times a c b d m n p q h k = le_trans (le_of_eq (mul-mul-mul_comm m n c d)) (le_trans (mul-le-mul h k) (le_of_eq (mul-mul-mul_comm a p b q)))

pub mul_below : (f : Format) (x y : Float) (a c b d u w : ℕ) → 0 < c → 0 < d → HasValue (round f false (a * b) (c * d)) false u w → AtMost x a c → AtMost y b d → AtMost (mul f x y) u w
unfolding mul
mul_below f nan y a c b d u w C D v h k = absurd h
mul_below f (inf s) y a c b d u w C D v h k = absurd h
mul_below f (fin s m e) nan a c b d u w C D v h k = absurd k
mul_below f (fin s m e) (inf t) a c b d u w C D v h k = absurd k
mul_below f (fin s m e) (fin t n g) a c b d u w C D v h k =
    round_below f (unlike s t) (m * up e * (n * up g)) (down e * down g) (a * b) (c * d) u w (mul-pos (down_pos e) (down_pos g)) (mul-pos C D) v
    (times a c b d (m * up e) (n * up g) (down e) (down g) h k)

pub mul_upto : (f : Format) (x y : Float) (A B : ℕ) → Holds f (A * B) → Upto x A → Upto y B → Upto (mul f x y) (A * B)
mul_upto f x y A B r h k = mul_below f x y A 1 B 1 (A * B) 1 (zero-lt-suc 0) (zero-lt-suc 0) (holds_value f (A * B) r) h k

-- ---- quotients: with x at most a / c and y at least b / d, what a * d / (c * b) rounds to
over : (a c b d m n p q : ℕ) → m * c ≤ a * p → b * q ≤ n * d → m * q * (c * b) ≤ a * d * (n * p)
over a c b d m n p q h k =
    le_trans (le_of_eq (ap (λ (z : ℕ). m * q * z) (mul_comm c b) ∙ swap m q b c))
    (le_trans (mul-le-mul h k) (le_of_eq (ap (λ (z : ℕ). a * p * z) (mul_comm n d) ∙ mul-mul-mul_comm a p d n ∙ ap (λ (z : ℕ). a * d * z) (mul_comm p n))))
  where
    swap : (m q b c : ℕ) → m * q * (b * c) ≡ m * c * (b * q)
    swap m q b c = simp (mul_assoc, mul_comm, mul_left_comm)

pub div_below : (f : Format) (x y : Float) (a c b d u w : ℕ) → 0 < c → 0 < b → HasValue (round f false (a * d) (c * b)) false u w → AtMost x a c → AtLeast y b d → AtMost (div f x y) u w
unfolding div
div_below f nan y a c b d u w C B v h k = absurd h
div_below f (inf s) y a c b d u w C B v h k = absurd h
div_below f (fin s m e) nan a c b d u w C B v h k = absurd k
div_below f (fin s m e) (inf t) a c b d u w C B v h k = absurd k
div_below f (fin s m e) (fin t n g) a c b d u w C B v h k =
    -- a divisor of at least b / d is not zero
    let N : 0 < n * up g = first_pos (n * up g) d (lt_of_lt_of_le (mul-pos B (down_pos g)) k) in
    subst (λ (z : Float). AtMost z u w) (sym (cond_no (eqb n 0) (cond (eqb m 0) nan (inf (unlike s t))) (round f (unlike s t) (m * up e * down g) (n * up g * down e)) (not_zero n (first_pos n (up g) N))))
    (round_below f (unlike s t) (m * up e * down g) (n * up g * down e) (a * d) (c * b) u w (mul-pos N (down_pos e)) (mul-pos C B) v
    (over a c b d (m * up e) (n * up g) (down e) (down g) h k))
  where
    not_zero : (n : ℕ) → 0 < n → T (not (eqb n 0))
    not_zero n h = not_T (eqb n 0) (λ k. let z = eqb→eq n 0 k in absurd (omega arith))

-- by a divisor of at least 1 / C
pub div_at_most : (f : Format) (x y : Float) (A C : ℕ) → Holds f (A * C) → Upto x A → AtLeast y 1 C → Upto (div f x y) (A * C)
div_at_most f x y A C r h k = div_below f x y A 1 1 C (A * C) 1 (zero-lt-suc 0) (zero-lt-suc 0) (holds_value f (A * C) r) h k

-- the mean of n + 1 values of at most A each, from their sum, is at most A
pub mean_upto : (f : Format) (x : Float) (A n : ℕ) → Holds f A → suc n < 2 ^ prec f → Upto x (suc n * A) → Upto (div f x (of_int f (pos (suc n)))) A
mean_upto f x A n r l h =
    let same : round f false A 1 ≡ round f false (suc n * A * 1) (1 * suc n) = round_same f false A 1 (suc n * A * 1) (1 * suc n) (zero-lt-suc 0) (mul-pos (zero-lt-suc 0) (zero-lt-suc n)) (simp (mul-one, one-mul, mul_comm)) in
    div_below f x (of_int f (pos (suc n))) (suc n * A) 1 (suc n) 1 A 1 (zero-lt-suc 0) (zero-lt-suc n) (subst (λ (y : Float). HasValue y false A 1) same (holds_value f A r)) h
    (value_at_least (of_int f (pos (suc n))) false (suc n) (suc n) 1 (whole_value f (suc n) (le_of_lt l)) (le_refl (suc n)))

-- ---- sums of many terms
-- only the terms themselves count
pub sum_to_ext : (s t : ℕ → Float) (n : ℕ) → ((i : ℕ) → i < n → s i ≡ t i) → sum_to s n ≡ sum_to t n
unfolding sum_to
sum_to_ext s t zero h = refl
sum_to_ext s t (suc n) h = ap (λ (x : Float). add binary64 x (s n)) (sum_to_ext s t n (λ i l. h i (le_step l))) ∙ ap (λ (y : Float). add binary64 (sum_to t n) y) (h n (lt-suc_self n))

-- n terms of at most 2 ^ j each add up to at most n * 2 ^ j: rounding never passes it, since the format holds it
pub sum_to_upto : (t : ℕ → Float) (n j : ℕ) → ((i : ℕ) → i < n → Upto (t i) (2 ^ j)) → n < 2 ^ 53 → j + 53 ≤ 1024 → Upto (sum_to t n) (n * 2 ^ j)
unfolding sum_to
sum_to_upto t zero j h N J = zero-le
sum_to_upto t (suc n) j h N J =
    subst (λ (z : ℕ). Upto (add binary64 (sum_to t n) (t n)) z) (sym (suc-mul n (2 ^ j)))
    (add_upto binary64 (sum_to t n) (t n) (n * 2 ^ j) (2 ^ j) (record { q = suc n; j = j; small = N; reach = J; is = sym (suc-mul n (2 ^ j)) })
    (sum_to_upto t n j (λ i l. h i (le_step l)) (le_of_suc-le N) J) (h n (lt-suc_self n)))

-- ---- 2 ^ 48 is not passed by a step of at most 2 ^ -6: 2 ^ 48 + 2 ^ -6 rounds to 2 ^ 48
step_lost : HasValue (round binary64 false (2 ^ 48 * 64 + 1 * 1) (1 * 64)) false (2 ^ 48) 1
unfolding round
step_lost = (refl, refl)

pub never_passes : (x y : Float) → Upto x (2 ^ 48) → AtMost y 1 64 → Upto (add binary64 x y) (2 ^ 48) × Upto (sub binary64 x y) (2 ^ 48)
never_passes x y h k = (
  add_below binary64 x y (2 ^ 48) 1 1 64 (2 ^ 48) 1 (zero-lt-suc 0) (zero-lt-suc 63) step_lost h k,
  sub_below binary64 x y (2 ^ 48) 1 1 64 (2 ^ 48) 1 (zero-lt-suc 0) (zero-lt-suc 63) step_lost h k,
)
