-- Where a block's values are at most 2 ^ 127 in size and its distances are at most 2 ^ 250, the codewords' values are
-- at most 2 ^ 128: a NaN, an infinity or a larger value would show in a distance. Assumes nothing.
use Rattle.std.specs.Prelude.{None}
use mathlib.Core.Path.{◌≡◌, refl, sym, subst}
use Prim.Native.Nat.{ℕ, zero, suc, ◌+◌, ◌-◌, ◌*◌, ◌/◌, ◌%◌, ◌^◌, ◌≤◌, ◌<◌}
use native.Mathlib.Nat.{le_trans, le_of_eq, le_of_lt, lt_of_not-le, not-le_of_lt, lt_of_lt_of_le, le-add_right, le-add_left, mul-one, one-mul, mul_comm, mul_assoc, mul_left_comm, mul-mul-mul_comm, add-mul, mul-pos, mul-le-mul, mul-le-mul_right, le_of_mul-le-mul_right, zero-lt-suc, div-add-mod', div-lt_iff_lt-mul, mod-lt}
use native.Mathlib.Omega.{arith}
use mathlib.Core.Bool.{Bool, true, false, not, ◌&&◌, beq, cond, true≢false}
use mathlib.Core.List.{List}
use lib.Dec.{T, ltb, ltb→lt, nltb→le, lit<, lit≤}
use lib.ListN.{length, get_or}
use lib.Ieee.{Float, nan, inf, fin, Format, binary64, prec, emax, low, unlike, up, down, odd, units, round, sum, neg, add, sub, mul, lt, fits}
use lib.Ieee.Exact.{HasValue}
use lib.Ieee.Fits.{down_pos, mul-fits, round_is}
use lib.Ieee.Positive.{first_pos, through}
use Rattle.ieee.specs.Bounds.{AtMost, Upto, NotNegative, Holds}
use Rattle.ieee.specs.Sum.{sum_to, squared_difference}
use Rattle.ieee.proofs.Value.{holds_true, round_own}
use Rattle.ieee.proofs.Bound.{round_below, round_not_negative, fraction_value, holds_fraction}
use Rattle.ieee.proofs.Sign.{square_not_negative, add_not_negative}
use Rattle.slices.specs.Limit.{first_outside}
use Rattle.slices.proofs.FirstLaw.{below_suc}
use Rattle.lloyd_alone.specs.Answers.{search_limit}
use Rattle.lloyd_search.specs.Distance.{distance, vector_of, row_of}
use Rattle.lloyd_search.proofs.LimitLaw.{power, all_within}
use Rattle.lloyd_search.proofs.WithinLaw.{all_upto, wider}
use Rattle.ieee.proofs.Least.{sum_to_fits}
use Rattle.lloyd_search.proofs.FiniteLaw.{Bounded}

-- ---- a fraction that rounds to at most A
-- x is at most a / c, and that is at most A
at_most_upto : (x : Float) (a c A : ℕ) → 0 < c → AtMost x a c → a * 1 ≤ A * c → Upto x A
at_most_upto nan a c A C h k = h
at_most_upto (inf s) a c A C h k = h
at_most_upto (fin s m e) a c A C h k = through (m * up e) a A (down e) c 1 C h k

-- x is at most what y is
below_value : (x y : Float) (A : ℕ) → NotNegative y → ((u w : ℕ) → HasValue y false u w → AtMost x u w) → Upto y A → Upto x A
below_value x nan A p k h = absurd h
below_value x (inf s) A p k h = absurd h
below_value x (fin s m e) A p k h = at_most_upto x (m * up e) (down e) A (down_pos e) (k (m * up e) (down e) (p, refl)) h

-- the sign does not count
odd_upto : (d : ℕ) (s : Bool) (q k l A : ℕ) → Upto (odd d s q k l) A → Upto (odd d false q k l) A
unfolding odd
odd_upto d s zero k l A h = h
odd_upto d s (suc q) k l A h = h

units_upto : (f : Format) (s : Bool) (q k A : ℕ) → Upto (units f s q k) A → Upto (units f false q k) A
unfolding units
units_upto f s q k A h = go (ltb (q * 2 ^ k) (2 ^ (low f + suc (emax f)))) h
  where
    go : (b : Bool) → Upto (cond b (odd (suc (prec f)) s q k (low f)) (inf s)) A → Upto (cond b (odd (suc (prec f)) false q k (low f)) (inf false)) A
    go true h = odd_upto (suc (prec f)) s q k (low f) A h
    go false h = h

unsigned_upto : (f : Format) (s : Bool) (num den A : ℕ) → Upto (round f s num den) A → Upto (round f false num den) A
unsigned_upto f s num den A h =
    subst (λ (x : Float). Upto x A) (sym (round_is f false num den)) (units_upto f s _ _ A (subst (λ (x : Float). Upto x A) (round_is f s num den) h))

-- what is no larger rounds to at most A too
smaller_upto : (f : Format) (s : Bool) (num den a c A : ℕ) → 0 < den → 0 < c → a * den ≤ num * c → Upto (round f s num den) A → Upto (round f false a c) A
smaller_upto f s num den a c A D C l h =
    below_value (round f false a c) (round f false num den) A (round_not_negative f num den) (λ u w v. round_below f false a c num den u w C D v l)
    (unsigned_upto f s num den A h)

value_upto : (x : Float) (A B : ℕ) → HasValue x false B 1 → Upto x A → B ≤ A
value_upto nan A B v h = absurd v
value_upto (inf s) A B v h = absurd v
value_upto (fin s m e) A B v h = le_of_mul-le-mul_right (le_trans (le_of_eq (sym v.1)) h) (down_pos e)

-- so it is below each B above A that the format holds
rounded_less : (f : Format) (s : Bool) (num den A B : ℕ) → 0 < den → Holds f B → A < B → Upto (round f s num den) A → num < B * den
rounded_less f s num den A B D r l h =
    lt_of_not-le (λ (g : B * den ≤ num). not-le_of_lt l
    (value_upto (round f false B 1) A B (fraction_value f B 1 (zero-lt-suc 0) (holds_fraction f B r))
    (smaller_upto f s num den B 1 A D (zero-lt-suc 0) (le_trans g (le_of_eq (sym (mul-one num)))) h)))

-- ---- a square of at most A, below B * B: its root is at most B
root : (m d B : ℕ) → m * m < B * B * (d * d) → m * 1 ≤ B * d
root m d B h = le_trans (le_of_eq (mul-one m)) (le_of_lt (lt_of_not-le (λ (g : B * d ≤ m). not-le_of_lt h (le_trans (le_of_eq (mul-mul-mul_comm B B d d)) (mul-le-mul g g)))))

root_upto : (f : Format) (x : Float) (A B : ℕ) → Holds f (B * B) → A < B * B → Upto (mul f x x) A → Upto x B
unfolding mul
root_upto f nan A B r l h = h
root_upto f (inf s) A B r l h = h
root_upto f (fin s m e) A B r l h =
    root (m * up e) (down e) B (rounded_less f (unlike s s) (m * up e * (m * up e)) (down e * down e) A (B * B) (mul-pos (down_pos e) (down_pos e)) r l h)

-- ---- a difference of at most A, below B: what is taken away is at most B more than the other
sum_second : (f : Format) (s t : Bool) (a b c A B : ℕ) → 0 < c → Holds f B → A < B → Upto (sum f s a t b c) A → b ≤ a + B * c
unfolding sum
sum_second f s t a b c A B C r l h = go (beq s t) (ltb a b) (nltb→le a b) h
  where
    less : (u : Bool) (n : ℕ) → Upto (round f u n c) A → n < B * c
    less u n h = rounded_less f u n c A B C r l h

    go : (x y : Bool) → (T (not y) → b ≤ a) → Upto (cond x (round f s (a + b) c) (cond y (round f t (b - a) c) (round f (s && ltb b a) (a - b) c))) A → b ≤ a + B * c
    go true y k h = let n = less s (a + b) h in omega arith
    go false true k h = let n = less t (b - a) h in omega arith
    go false false k h = le_trans (k tt) (le-add_right a (B * c))

apart : (m n d e X B : ℕ) → 0 < d → m * 1 ≤ X * d → n * d ≤ m * e + B * (d * e) → n * 1 ≤ (X + B) * e
apart m n d e X B D h k =
    let p : m * e ≤ X * d * e = mul-le-mul_right e (le_trans (le_of_eq (sym (mul-one m))) h) in
    let q : (X + B) * e * d ≡ X * d * e + B * (d * e) = simp (add-mul, mul_assoc, mul_comm, mul_left_comm) in
    let r : n * d ≤ (X + B) * e * d = omega arith in
    le_trans (le_of_eq (mul-one n)) (le_of_mul-le-mul_right r D)

second_upto : (f : Format) (x y : Float) (A B X : ℕ) → Holds f B → A < B → Upto x X → Upto (sub f x y) A → Upto y (X + B)
unfolding sub add neg
second_upto f nan y A B X r l g h = absurd g
second_upto f (inf s) y A B X r l g h = absurd g
second_upto f (fin s m e) nan A B X r l g h = h
second_upto f (fin s m e) (inf t) A B X r l g h = h
second_upto f (fin s m e) (fin t n d) A B X r l g h =
    apart (m * up e) (n * up d) (down e) (down d) X B (down_pos e) g
    (sum_second f s (not t) (m * up e * down d) (n * up d * down e) (down e * down d) A B (mul-pos (down_pos e) (down_pos d)) r l h)

-- ---- a NaN, or what has no minus sign: squares and their sums
abbrev pub NoMinus : Float → Type 0
NoMinus nan = T true
NoMinus (inf s) = s ≡ false
NoMinus (fin s m e) = s ≡ false

no_minus : (x : Float) → NotNegative x → NoMinus x
no_minus nan h = tt
no_minus (inf s) h = h
no_minus (fin s m e) h = h

square_no_minus : (f : Format) (x : Float) → NoMinus (mul f x x)
unfolding mul
square_no_minus f nan = tt
square_no_minus f (inf true) = refl
square_no_minus f (inf false) = refl
square_no_minus f (fin s m e) = no_minus (mul f (fin s m e) (fin s m e)) (square_not_negative f (fin s m e) tt)

pub add_no_minus : (f : Format) (x y : Float) → NoMinus x → NoMinus y → NoMinus (add f x y)
unfolding add
add_no_minus f nan y p q = tt
add_no_minus f (inf s) nan p q = tt
add_no_minus f (inf s) (inf t) p q = no_minus (add f (inf s) (inf t)) (add_not_negative f (inf s) (inf t) p q)
add_no_minus f (inf s) (fin t n d) p q = p
add_no_minus f (fin s m e) nan p q = tt
add_no_minus f (fin s m e) (inf t) p q = q
add_no_minus f (fin s m e) (fin t n d) p q = no_minus (add f (fin s m e) (fin t n d)) (add_not_negative f (fin s m e) (fin t n d) p q)

-- each of two such values is at most what bounds their sum
pub add_parts : (f : Format) (x y : Float) (A : ℕ) → NoMinus x → NoMinus y → T (fits f x) → T (fits f y) → Upto (add f x y) A → Upto x A × Upto y A
unfolding add sum
add_parts f nan y A p q u v h = absurd h
add_parts f (inf s) nan A p q u v h = absurd h
add_parts f (inf true) (inf true) A p q u v h = absurd h
add_parts f (inf true) (inf false) A p q u v h = absurd h
add_parts f (inf false) (inf true) A p q u v h = absurd h
add_parts f (inf false) (inf false) A p q u v h = absurd h
add_parts f (inf s) (fin t n d) A p q u v h = absurd h
add_parts f (fin s m e) nan A p q u v h = absurd h
add_parts f (fin s m e) (inf t) A p q u v h = absurd h
add_parts f (fin true m e) (fin t n d) A p q u v h = absurd (true≢false p)
add_parts f (fin false m e) (fin true n d) A p q u v h = absurd (true≢false q)
add_parts f (fin false m e) (fin false n d) A p q u v h =
    let a = m * up e * down d in
    let b = n * up d * down e in
    let c : 0 < down e * down d = mul-pos (down_pos e) (down_pos d) in
    let first : m * up e * (down e * down d) ≤ (a + b) * down e = le_trans (le_of_eq (simp (mul_assoc, mul_comm, mul_left_comm))) (mul-le-mul_right (down e) (le-add_right a b)) in
    let second : n * up d * (down e * down d) ≤ (a + b) * down d = le_trans (le_of_eq (sym (mul_assoc (n * up d) (down e) (down d)))) (mul-le-mul_right (down d) (le-add_left b a)) in (
      subst (λ (x : Float). Upto x A) (round_own f false m e u) (smaller_upto f false (a + b) (down e * down d) (m * up e) (down e) A c (down_pos e) first h),
      subst (λ (x : Float). Upto x A) (round_own f false n d v) (smaller_upto f false (a + b) (down e * down d) (n * up d) (down d) A c (down_pos d) second h),
    )

module _ (t : ℕ → Float) (p : (i : ℕ) → NoMinus (t i)) where
  pub sum_to_no_minus : (n : ℕ) → NoMinus (sum_to t n)
  unfolding sum_to
  sum_to_no_minus zero = refl
  sum_to_no_minus (suc n) = add_no_minus binary64 (sum_to t n) (t n) (sum_to_no_minus n) (p n)

  pub sum_to_parts : ((i : ℕ) → T (fits binary64 (t i))) → (A n : ℕ) → Upto (sum_to t n) A → (i : ℕ) → i < n → Upto (t i) A
  unfolding sum_to
  sum_to_parts v A zero h = λ i l. absurd (omega arith)
  sum_to_parts v A (suc n) h =
      let r = add_parts binary64 (sum_to t n) (t n) A (sum_to_no_minus n) (p n) (holds_true (sum_to_fits t n)) (v n) h in
      below_suc (λ (i : ℕ). Upto (t i) A) n (sum_to_parts v A n r.0) r.1

-- such a value below 2 ^ b
pub lt_upto : (b : ℕ) (x : Float) → NoMinus x → T (lt x (power b)) → Upto x (2 ^ b)
unfolding lt
lt_upto b nan p h = h
lt_upto b (inf true) p h = absurd (true≢false p)
lt_upto b (inf false) p h = h
lt_upto b (fin true m e) p h = absurd (true≢false p)
lt_upto b (fin false m e) p h = subst (λ (z : ℕ). m * up e * 1 ≤ z * down e) (one-mul (2 ^ b)) (le_of_lt (ltb→lt (m * up e * 1) (1 * 2 ^ b * down e) h))

-- ---- distances
squares_no_minus : (x y : ℕ → Float) (j : ℕ) → NoMinus (squared_difference (x j) (y j))
squares_no_minus x y j = square_no_minus binary64 (sub binary64 (x j) (y j))

pub distance_no_minus : (k : ℕ) (x y : ℕ → Float) → NoMinus (distance k x y)
distance_no_minus k x y = sum_to_no_minus (λ j. squared_difference (x j) (y j)) (squares_no_minus x y) k

-- the square of a difference is at most 2 ^ 250, the difference 2 ^ 126, and what is taken away 2 ^ 127 + 2 ^ 127
vector_upto : (k : ℕ) (x y : ℕ → Float) → Bounded 127 k x → Upto (distance k x y) (2 ^ 250) → Bounded 128 k y
vector_upto k x y g h j l =
    let d = sub binary64 (x j) (y j) in
    let square = sum_to_parts (λ i. squared_difference (x i) (y i)) (squares_no_minus x y) (λ i. mul-fits binary64 (sub binary64 (x i) (y i)) (sub binary64 (x i) (y i))) (2 ^ 250) k h j l in
    second_upto binary64 (x j) (y j) (2 ^ 126) (2 ^ 127) (2 ^ 127) (record { q = 1; j = 127; small = lit< tt; reach = lit≤ tt; is = refl }) (lit< tt) (g j l)
    (root_upto binary64 d (2 ^ 250) (2 ^ 126) (record { q = 1; j = 252; small = lit< tt; reach = lit≤ tt; is = refl }) (lit< tt) square)

-- place i of the codewords is coordinate i % k of codeword i / k
codewords_upto : (k n : ℕ) (codewords : List Float) (x : ℕ → Float) → length codewords ≡ n * k → Bounded 127 k x → ((i : ℕ) → i < n → Upto (distance k x (row_of k codewords i)) (2 ^ 250))
    → (i : ℕ) → i < length codewords → Upto (get_or codewords i nan) (2 ^ 128)
codewords_upto k n codewords x e g h i l =
    let m : i < n * k = lt_of_lt_of_le l (le_of_eq e) in
    let K : 0 < k = first_pos k n (omega (arith, mul_comm n k)) in
    subst (λ (z : ℕ). Upto (get_or codewords z nan) (2 ^ 128)) (div-add-mod' i k) (vector_upto k x (row_of k codewords (i / k)) g (h (i / k) ((div-lt_iff_lt-mul K).1 m)) (i % k) (mod-lt i K))

pub codewords_within : (k n : ℕ) (codewords block : List Float) → length codewords ≡ n * k → length block ≡ k
    → first_outside (power 127) block ≡ None
    → ((i : ℕ) → i < n → Upto (distance k (vector_of block) (row_of k codewords i)) (2 ^ 250))
    → (first_outside search_limit block ≡ None) × (first_outside search_limit codewords ≡ None)
codewords_within k n codewords block e b g h = (
  wider 127 128 block (lit≤ tt) g,
  all_upto 128 codewords (codewords_upto k n codewords (vector_of block) e (λ j l. all_within 127 block g j (lt_of_lt_of_le l (le_of_eq (sym b)))) h),
)
