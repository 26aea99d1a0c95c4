-- The pattern of the rounded root, by a root that has one digit more than an f64 keeps. Assumes nothing.
use mathlib.Core.Path.{◌≡◌, refl, sym, ap, ◌∙◌, subst}
use Prim.Native.Nat.{ℕ, zero, suc, ◌+◌, ◌-◌, ◌*◌, ◌/◌, ◌%◌, ◌^◌, ◌≤◌, ◌<◌, min, compare, zero-le}
use native.Mathlib.Nat.{le_refl, le_trans, le_of_eq, lt_of_le_of_lt, lt_of_lt_of_le, lt_of_not-le, mul-one, mul_comm, mul_assoc, mul_left_comm, mul_right_comm, mul-le-mul_left, mul-le-mul_right, eq_of_mul-eq-mul_right, mul-pos, add-mul, mul-mul-mul_comm, mul-div_cancel, div-add-mod', mod-lt, min-eq_left, zero-lt-suc, suc-mul, pow-suc, zero-add}
use native.Mathlib.Omega.{arith}
use mathlib.Core.Bool.{Bool, true, false, cond}
use lib.Dec.{T, eqb, eqb→eq}
use lib.Arith.{digits_div, digits_mod}
use lib.Pow.{pow-add, pow_pos}
use lib.Ieee.{Float, nan, inf, fin, Format, binary64, low, size, nearest, round, to_bits}
use lib.Ieee.Fits.{eq→eqb}
use lib.Ieee.Nearest.{closest, closest_same, div_same}
use lib.Ieee.Positive.{num, den, positive}
use Rattle.root.specs.Sqrt.{isqrt, root_of, sqrt_of}
use Rattle.narrow.specs.Pack.{mag_of}
use Rattle.narrow.proofs.PackLaw.{to_bits_round}
use Rattle.narrow.proofs.MagLaw.{three}
use Rattle.narrow.proofs.Digits.{size_is}
use Rattle.narrow.proofs.Cmp.{nearest_down, nearest_up}
use Rattle.root.proofs.Isqrt.{Between, sq_mono, not_above, unique, isqrt_at, shrink}

-- ---- the rounding of 2 * s + t, over 4 * G, for s = r * G + y
even : (h G y t : ℕ) → y < G → t ≤ 1 → closest (2 * (2 * h * G + y) + t) (4 * G) ≡ h
even h G y t Y T1 =
    let low : 2 * y + t < 4 * G = omega arith in
    let e : 2 * (2 * h * G + y) + t ≡ h * (4 * G) + (2 * y + t) = let a = mul_assoc 2 h G in let b = mul_left_comm h 4 G in omega arith in
    ap (λ (x : ℕ). closest x (4 * G)) e
    ∙ ap (λ (x : ℕ). nearest x (compare ((h * (4 * G) + (2 * y + t)) % (4 * G) * 2) (4 * G))) (digits_div h low)
    ∙ nearest_down h ((h * (4 * G) + (2 * y + t)) % (4 * G) * 2) (4 * G) (subst (λ (x : ℕ). x * 2 < 4 * G) (sym (digits_mod h low)) (omega arith))

odd : (h G y t : ℕ) → y < G → t ≤ 1 → 0 < y + t → closest (2 * ((2 * h + 1) * G + y) + t) (4 * G) ≡ suc h
odd h G y t Y T1 P =
    let low : 2 * G + (2 * y + t) < 4 * G = omega arith in
    let e : 2 * ((2 * h + 1) * G + y) + t ≡ h * (4 * G) + (2 * G + (2 * y + t)) = let a = mul_assoc 2 h G in let b = mul_left_comm h 4 G in let c = add-mul (2 * h) 1 G in omega arith in
    ap (λ (x : ℕ). closest x (4 * G)) e
    ∙ ap (λ (x : ℕ). nearest x (compare ((h * (4 * G) + (2 * G + (2 * y + t))) % (4 * G) * 2) (4 * G))) (digits_div h low)
    ∙ nearest_up h ((h * (4 * G) + (2 * G + (2 * y + t))) % (4 * G) * 2) (4 * G) (subst (λ (x : ℕ). 4 * G < x * 2) (sym (digits_mod h low)) (omega arith))

-- an odd number's square is odd
pub odd_square : (h n : ℕ) → (2 * h + 1) * (2 * h + 1) ≡ 2 * n → ⊥
odd_square h n e =
    let a = add-mul (2 * h) 1 (2 * h + 1) in
    let b = mul_assoc 2 h (2 * h + 1) in
    omega arith

sticky_le : (b : Bool) → cond b 0 1 ≤ 1
sticky_le true = zero-le
sticky_le false = le_refl 1

module _ (N G s r y t half : ℕ) (P : 0 < G) (whole : r * G + y ≡ s) (Y : y < G) (T1 : t ≤ 1) (exact : t ≡ 0 → s * s ≡ N * (G * G)) (e2 : N ≡ 2 * half) where
  no_tie : (h : ℕ) → r ≡ 2 * h + 1 → 0 < y + t
  no_tie h e = pos_of (y + t) (λ (z : y + t ≡ 0).
      let sq : s * s ≡ N * (G * G) = exact (omega arith) in
      let sr : s ≡ r * G = omega arith in
      let rr : r * r ≡ N = eq_of_mul-eq-mul_right (G * G) (mul-pos P P) (r * r) N (mul-mul-mul_comm r r G G ∙ ap (λ (x : ℕ). x * x) (sym sr) ∙ sq) in
      odd_square h half (ap (λ (x : ℕ). x * x) (sym e) ∙ rr ∙ e2))
    where
      pos_of : (n : ℕ) → (n ≡ 0 → ⊥) → 0 < n
      pos_of zero f = absurd (f refl)
      pos_of (suc n) f = zero-lt-suc n

  closest_root : closest (2 * s + t) (4 * G) ≡ r / 2 + r % 2
  closest_root = go (r % 2) refl
    where
      go : (d : ℕ) → r % 2 ≡ d → closest (2 * s + t) (4 * G) ≡ r / 2 + d
      go zero d =
          let e : r ≡ 2 * (r / 2) = omega arith in
          ap (λ (x : ℕ). closest (2 * x + t) (4 * G)) (sym whole ∙ ap (λ (x : ℕ). x * G + y) e) ∙ even (r / 2) G y t Y T1 ∙ omega arith
      go (suc zero) d =
          let e : r ≡ 2 * (r / 2) + 1 = omega arith in
          ap (λ (x : ℕ). closest (2 * x + t) (4 * G)) (sym whole ∙ ap (λ (x : ℕ). x * G + y) e) ∙ odd (r / 2) G y t Y T1 (no_tie (r / 2) e) ∙ omega arith
      go (suc (suc d)) e = absurd (omega arith)

-- ---- the digits of s
size_root : (p g s : ℕ) → 2 ^ p ≤ s / 2 ^ g → s / 2 ^ g < 2 ^ suc p → size s ≡ suc (p + g)
size_root p g s a b =
    let w = div-add-mod' s (2 ^ g) in
    let l = mod-lt s (pow_pos g) in
    let lo : 2 ^ (p + g) ≤ s = le_trans (le_of_eq (pow-add 2 p g)) (le_trans (mul-le-mul_right (2 ^ g) a) (omega arith)) in
    let hi : s < 2 ^ suc p * 2 ^ g = lt_of_lt_of_le (let x = suc-mul (s / 2 ^ g) (2 ^ g) in up w l x) (mul-le-mul_right (2 ^ g) b) in
    size_is s (p + g) lo (lt_of_lt_of_le hi (le_of_eq (sym (pow-add 2 (suc p) g) ∙ ap (λ (x : ℕ). 2 ^ x) (move p g))))
  where
    up : s / 2 ^ g * 2 ^ g + s % 2 ^ g ≡ s → s % 2 ^ g < 2 ^ g → suc (s / 2 ^ g) * 2 ^ g ≡ s / 2 ^ g * 2 ^ g + 2 ^ g → s < suc (s / 2 ^ g) * 2 ^ g
    up w l x = omega arith

    move : (p g : ℕ) → suc p + g ≡ suc (p + g)
    move p g = omega arith

-- ---- the pattern of 2 * s + t over 2 * 2 ^ L, L = E + p - 2
mag_root : (p E g s t : ℕ) → t ≤ 1 → size s ≡ suc (p + g) → mag_of p E (2 * s + t) (2 * 2 ^ (E + p - 2)) ≡ min (suc g * 2 ^ (p - 1) + closest (2 * s + t) (4 * 2 ^ g)) ((2 * E + 1) * 2 ^ (p - 1))
unfolding mag_of
mag_root p E g s t T1 z =
    let B = 2 ^ (E + p - 2) in
    let n = (2 * s + t) * B in
    let w : n / (2 * B) ≡ s = div_same n (2 * B) (2 * s + t) 2 (mul-pos (zero-lt-suc 1) (pow_pos (E + p - 2))) (zero-lt-suc 1) (mul_assoc (2 * s + t) B 2 ∙ ap (λ (x : ℕ). (2 * s + t) * x) (mul_comm B 2)) ∙ halve s t T1 in
    let k : size (n / (2 * B)) - p ≡ suc g = ap (λ (x : ℕ). size x - p) w ∙ ap (λ (x : ℕ). x - p) z ∙ less p g in
    let q : closest n (2 * B * 2 ^ suc g) ≡ closest (2 * s + t) (4 * 2 ^ g) =
    closest_same n (2 * B * 2 ^ suc g) (2 * s + t) (4 * 2 ^ g) (mul-pos (mul-pos (zero-lt-suc 1) (pow_pos (E + p - 2))) (pow_pos (suc g))) (mul-pos (zero-lt-suc 3) (pow_pos g))
    (mul_assoc (2 * s + t) B (4 * 2 ^ g) ∙ ap (λ (x : ℕ). (2 * s + t) * x) (regroup B (2 ^ g) ∙ ap (λ (x : ℕ). 2 * B * x) (sym (pow-suc 2 g)))) in
    ap (λ (x : ℕ). min (x * 2 ^ (p - 1) + closest n (2 * B * 2 ^ x)) ((2 * E + 1) * 2 ^ (p - 1))) k
    ∙ ap (λ (x : ℕ). min (suc g * 2 ^ (p - 1) + x) ((2 * E + 1) * 2 ^ (p - 1))) q
  where
    halve : (s t : ℕ) → t ≤ 1 → (2 * s + t) / 2 ≡ s
    halve s t h = omega arith

    less : (p g : ℕ) → suc (p + g) - p ≡ suc g
    less p g = omega arith

    regroup : (B G : ℕ) → B * (4 * G) ≡ 2 * B * (G * 2)
    regroup B G = mul_left_comm B 4 G ∙ let a = mul_assoc 2 B (G * 2) in let b = sym (mul_assoc B G 2) in let c = mul_comm (B * G) 2 in omega arith

-- ---- the law
root_round : (N g s r half t : ℕ) → Between (N * (2 ^ g * 2 ^ g)) s → t ≤ 1 → (t ≡ 0 → s * s ≡ N * (2 ^ g * 2 ^ g)) → N ≡ 2 * half → Between N r → 2 ^ 53 ≤ r → r < 2 ^ 54 → g < 2000
    → to_bits binary64 (round binary64 false (2 * s + t) (2 * 2 ^ low binary64)) ≡ suc g * 2 ^ 52 + (r / 2 + r % 2)
root_round N g s r half t b T1 exact e2 R lo hi fine =
    let G = 2 ^ g in
    let r_is : s / G ≡ r = unique N (s / G) r (shrink N G s (pow_pos g) b) R in
    let w : r * G + s % G ≡ s = ap (λ (x : ℕ). x * G + s % G) (sym r_is) ∙ div-add-mod' s G in
    let z : size s ≡ suc (53 + g) = size_root 53 g s (subst (λ (x : ℕ). 2 ^ 53 ≤ x) (sym r_is) lo) (subst (λ (x : ℕ). x < 2 ^ 54) (sym r_is) hi) in
    let c : closest (2 * s + t) (4 * G) ≡ r / 2 + r % 2 = closest_root N G s r (s % G) t half (pow_pos g) w (mod-lt s (pow_pos g)) T1 exact e2 in
    let u : suc g * 2 ^ 52 + (r / 2 + r % 2) ≤ 2047 * 2 ^ 52 = omega arith in
    to_bits_round binary64 false (2 * s + t) (2 * 2 ^ low binary64)
    ∙ zero-add (mag_of 53 1023 (2 * s + t) (2 * 2 ^ low binary64))
    ∙ mag_root 53 1023 g s t T1 z
    ∙ ap (λ (x : ℕ). min (suc g * 2 ^ 52 + x) (2047 * 2 ^ 52)) c
    ∙ min-eq_left u

scaled_eq : (a b c n : ℕ) → 0 < c → n ≡ b * c → ◌≡◌ {A = ℕ} (cond (eqb (a * c) n) 0 1) 0 → a ≡ b
scaled_eq a b c n C e h = go (eqb (a * c) n) (eqb→eq (a * c) n) h
  where
    go : (d : Bool) → (T d → a * c ≡ n) → ◌≡◌ {A = ℕ} (cond d 0 1) 0 → a ≡ b
    go true p q = eq_of_mul-eq-mul_right c C a b (p tt ∙ e)
    go false p q = absurd (omega arith)

-- num / den is N * G * G in units of the smallest value squared
root_bits : (num den N g half : ℕ) → 0 < den → num * (2 ^ low binary64 * 2 ^ low binary64) ≡ N * (2 ^ g * 2 ^ g) * den → N ≡ 2 * half → 2 ^ 53 ≤ isqrt N → isqrt N < 2 ^ 54 → g < 2000
    → to_bits binary64 (root_of binary64 num den) ≡ suc g * 2 ^ 52 + (isqrt N / 2 + isqrt N % 2)
unfolding root_of
root_bits num den N g half D n-is e2 lo hi fine =
    let G = 2 ^ g in
    let n = num * (2 ^ low binary64 * 2 ^ low binary64) in
    let q_is : n / den ≡ N * (G * G) = ap (λ (x : ℕ). x / den) n-is ∙ mul-div_cancel (N * (G * G)) D in
    let s = isqrt (n / den) in
    let b : Between (N * (G * G)) s = subst (λ (x : ℕ). Between x s) q_is (isqrt_at (n / den)) in
    root_round N g s (isqrt N) half (cond (eqb (s * s * den) n) 0 1) b (sticky_le (eqb (s * s * den) n)) (scaled_eq (s * s) (N * (G * G)) den n D n-is) e2 (isqrt_at N) lo hi fine

-- ---- `root_of` sees only the value of its fraction
same_test : (a b c d : ℕ) → (a ≡ b → c ≡ d) → (c ≡ d → a ≡ b) → eqb a b ≡ eqb c d
same_test a b c d f g = go (eqb a b) (eqb c d) (eqb→eq a b) (λ (e : a ≡ b). eq→eqb e) (eqb→eq c d) (λ (e : c ≡ d). eq→eqb e)
  where
    go : (x y : Bool) → (T x → a ≡ b) → (a ≡ b → T x) → (T y → c ≡ d) → (c ≡ d → T y) → x ≡ y
    go true true p q u v = refl
    go true false p q u v = absurd (v (f (p tt)))
    go false true p q u v = absurd (q (g (u tt)))
    go false false p q u v = refl

-- s over 1 is n / b, and so is m / d
crossed : (s n b m d : ℕ) → 0 < b → n * d ≡ m * b → s * b ≡ n → s * d ≡ m
crossed s n b m d B e h = eq_of_mul-eq-mul_right b B (s * d) m (mul_right_comm s d b ∙ ap (λ (x : ℕ). x * d) h ∙ e)

pub root_of_same : (f : Format) (a b c d : ℕ) → 0 < b → 0 < d → a * d ≡ c * b → root_of f a b ≡ root_of f c d
unfolding root_of
root_of_same f a b c d B D e =
    let l = 2 ^ low f * 2 ^ low f in
    let x : a * l * d ≡ c * l * b = mul_right_comm a l d ∙ ap (λ (z : ℕ). z * l) e ∙ mul_right_comm c b l in
    let s = isqrt (c * l / d) in
    let t : eqb (s * s * b) (a * l) ≡ eqb (s * s * d) (c * l) = same_test (s * s * b) (a * l) (s * s * d) (c * l) (crossed (s * s) (a * l) b (c * l) d B x) (crossed (s * s) (c * l) d (a * l) b D (sym x)) in
    ap (λ (q : ℕ). round f false (2 * isqrt q + cond (eqb (isqrt q * isqrt q * b) (a * l)) 0 1) (2 * 2 ^ low f)) (div_same (a * l) b (c * l) d B D x)
    ∙ ap (λ (u : Bool). round f false (2 * s + cond u 0 1) (2 * 2 ^ low f)) t

-- ---- the fraction by its 53 digits, as the program has it
pub record Scaled (num den sig h : ℕ) : Type 0 where
  pub some : 0 < den
  pub low : 2 ^ 52 ≤ sig
  pub high : sig < 2 ^ 53
  pub reach : h < 2098
  pub same : num * 2 ^ 1126 ≡ sig * 2 ^ h * den

-- half of h, and what is left of it with sig, so that the root has 54 digits
abbrev pub radicand : ℕ → ℕ → ℕ
radicand sig h = sig * (1 + h % 2) * 2 ^ 54

abbrev pub halved : ℕ → ℕ
halved h = h / 2 + 484

halves : (n d s a b h o c g : ℕ) → n * 2 ^ a ≡ s * 2 ^ h * d → h + b ≡ o + c + (g + g) → n * 2 ^ (a + b) ≡ s * 2 ^ o * 2 ^ c * (2 ^ g * 2 ^ g) * d
halves n d s a b h o c g e k =
    ap (λ (x : ℕ). n * x) (pow-add 2 a b) ∙ sym (mul_assoc n (2 ^ a) (2 ^ b)) ∙ ap (λ (x : ℕ). x * 2 ^ b) e ∙ mul_right_comm (s * 2 ^ h) d (2 ^ b)
    ∙ ap (λ (x : ℕ). x * d)
    (mul_assoc s (2 ^ h) (2 ^ b)
    ∙ ap (λ (x : ℕ). s * x) (sym (pow-add 2 h b) ∙ ap (λ (x : ℕ). 2 ^ x) k)
    ∙ sym (three s o c (g + g))
    ∙ ap (λ (x : ℕ). s * 2 ^ o * 2 ^ c * x) (pow-add 2 g g))

-- 1 + o is 2 ^ o, for o below 2
low_power : (o : ℕ) → o < 2 → 1 + o ≡ 2 ^ o
low_power zero h = refl
low_power (suc zero) h = refl
low_power (suc (suc o)) h = absurd (omega arith)

pub scaled_lt : (sig h : ℕ) → sig < 0x20000000000000 → sig * (1 + h % 2) < 0x40000000000000
scaled_lt sig h s = lt_of_le_of_lt (mul-le-mul_left sig (small h)) (omega arith)
  where
    small : (h : ℕ) → 1 + h % 2 ≤ 2
    small h = omega arith

scaled_ge : (sig h : ℕ) → sig ≤ sig * (1 + h % 2)
scaled_ge sig h = le_trans (le_of_eq (sym (mul-one sig))) (mul-le-mul_left sig (small h))
  where
    small : (h : ℕ) → 1 ≤ 1 + h % 2
    small h = omega arith

pub root_low : (sig h : ℕ) → 2 ^ 52 ≤ sig → 2 ^ 53 ≤ isqrt (radicand sig h)
root_low sig h l = not_above (radicand sig h) (2 ^ 53) (isqrt (radicand sig h)) (let x = scaled_ge sig h in omega arith) (isqrt_at (radicand sig h)).1

pub root_high : (sig h : ℕ) → sig < 2 ^ 53 → isqrt (radicand sig h) < 2 ^ 54
root_high sig h l = lt_of_not-le (λ (g : 2 ^ 54 ≤ isqrt (radicand sig h)).
    let a = sq_mono (2 ^ 54) (isqrt (radicand sig h)) g in
    let b = (isqrt_at (radicand sig h)).0 in
    let c = scaled_lt sig h l in
    absurd (omega arith))

module _ (num den sig h : ℕ) (d : Scaled num den sig h) where
  pub in_units_lem : num * (2 ^ low binary64 * 2 ^ low binary64) ≡ radicand sig h * (2 ^ halved h * 2 ^ halved h) * den
  in_units_lem =
      halves num den sig 1126 1022 h (h % 2) 54 (halved h) d.same (omega arith)
      ∙ ap (λ (x : ℕ). sig * x * 2 ^ 54 * (2 ^ halved h * 2 ^ halved h) * den) (sym (low_power (h % 2) (mod-lt h (zero-lt-suc 1))))

  -- THE LAW
  pub root_is : to_bits binary64 (root_of binary64 num den) ≡ (h / 2 + 485) * 2 ^ 52 + (isqrt (radicand sig h) / 2 + isqrt (radicand sig h) % 2)
  root_is =
      let r = d.reach in
      root_bits num den (radicand sig h) (halved h) (sig * (1 + h % 2) * 2 ^ 53) d.some in_units_lem (omega arith) (root_low sig h d.low) (root_high sig h d.high) (omega arith)
      ∙ ap (λ (x : ℕ). x * 2 ^ 52 + (isqrt (radicand sig h) / 2 + isqrt (radicand sig h) % 2)) (count h)
    where
      count : (h : ℕ) → suc (halved h) ≡ h / 2 + 485
      count h = omega arith

-- the root of a float that is finite and above zero, by its fraction
pub positive_root : (f : Format) (x : Float) → T (positive x) → sqrt_of f x ≡ root_of f (num x) (den x)
unfolding sqrt_of
positive_root f nan p = absurd p
positive_root f (inf s) p = absurd p
positive_root f (fin true m e) p = absurd p
positive_root f (fin false zero e) p = absurd p
positive_root f (fin false (suc m) e) p = refl
