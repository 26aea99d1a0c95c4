-- `mag_of` of a fraction whose denominator is a power of two, by one cut of the numerator's digits. All over variables,
-- so that no power is worked out. Assumes nothing.
use Rattle.std.proofs.Common.{◌≡◌, ℕ, suc, ◌+◌, ◌-◌, ◌*◌, ◌/◌, ◌%◌, ◌^◌, ◌<◌, ◌≤◌, min, sym, ap, ◌∙◌, subst, le_trans, le_of_eq, lt_of_lt_of_le, mul-le-mul_right, mod-eq_of_lt, mul_assoc, mul-pos, le-div_iff_mul-le, sub-eq-zero_of_le, eq-zero-or-pos, inl, inr, arith, pow_pos, pow_mono, pow-add, shl_lt, shr_lt}
use native.Mathlib.Nat.{div-eq_of_lt}
use lib.Ieee.{size}
use lib.Ieee.Digits.{size-le}
use lib.Ieee.Nearest.{closest, closest_same, div_same}
use Rattle.narrow.specs.Format.{low_of, inf_of}
use Rattle.narrow.specs.Pack.{mag_of}
use Rattle.narrow.proofs.Cmp.{nearest_down}
use Rattle.narrow.proofs.Digits.{size_is}

-- the powers of a product, as one
pub three : (s a b c : ℕ) → s * 2 ^ a * 2 ^ b * 2 ^ c ≡ s * 2 ^ (a + b + c)
three s a b c = mul_assoc (s * 2 ^ a) (2 ^ b) (2 ^ c) ∙ mul_assoc s (2 ^ a) (2 ^ b * 2 ^ c) ∙ ap (λ (x : ℕ). s * x) (sym (mul_assoc (2 ^ a) (2 ^ b) (2 ^ c)) ∙ ap (λ (x : ℕ). x * 2 ^ c) (sym (pow-add 2 a b)) ∙ sym (pow-add 2 (a + b) c))

-- s * 2 ^ e * 2 ^ l / 2 ^ L is s * 2 ^ e / 2 ^ c, for L = l + c
whole : (s e l c L : ℕ) → L ≡ l + c → s * 2 ^ e * 2 ^ l / 2 ^ L ≡ s * 2 ^ e / 2 ^ c
whole s e l c L h = div_same (s * 2 ^ e * 2 ^ l) (2 ^ L) (s * 2 ^ e) (2 ^ c) (pow_pos L) (pow_pos c)
    (mul_assoc (s * 2 ^ e) (2 ^ l) (2 ^ c) ∙ ap (λ (x : ℕ). s * 2 ^ e * x) (sym (pow-add 2 l c) ∙ ap (λ (x : ℕ). 2 ^ x) (sym h)))

-- with e no more than c - d all of the whole part's digits are kept
drop_low : (p d c e s : ℕ) → s < 2 ^ (p + d) → e + d ≤ c → size (s * 2 ^ e / 2 ^ c) - p ≡ 0
drop_low p d c e s h l = sub-eq-zero_of_le (size-le (s * 2 ^ e / 2 ^ c) p (shr_lt p c (lt_of_lt_of_le (shl_lt (p + d) e h) (pow_mono (room p d c e l)))))
  where
    room : (p d c e : ℕ) → e + d ≤ c → p + d + e ≤ p + c
    room p d c e l = omega arith

-- with a larger e, and all of s's digits in use, k are dropped
drop_high : (p d c e k s : ℕ) → 0 < p → 2 ^ (p + d - 1) ≤ s → s < 2 ^ (p + d) → e + d ≡ c + k → size (s * 2 ^ e / 2 ^ c) - p ≡ k
drop_high p d c e k s P g h l =
    let j = p - 1 + k in
    let z : size (s * 2 ^ e / 2 ^ c) ≡ suc j =
    size_is (s * 2 ^ e / 2 ^ c) j
    ((le-div_iff_mul-le (pow_pos c)).1 (le_trans (le_of_eq (sym (pow-add 2 j c) ∙ ap (λ (x : ℕ). 2 ^ x) (low p d c e k P l) ∙ pow-add 2 (p + d - 1) e)) (mul-le-mul_right (2 ^ e) g)))
    (shr_lt (suc j) c (lt_of_lt_of_le (shl_lt (p + d) e h) (le_of_eq (ap (λ (x : ℕ). 2 ^ x) (high p d c e k P l)))))
    in
    last p k (size (s * 2 ^ e / 2 ^ c)) P z
  where
    low : (p d c e k : ℕ) → 0 < p → e + d ≡ c + k → p - 1 + k + c ≡ p + d - 1 + e
    low p d c e k P l = omega arith

    high : (p d c e k : ℕ) → 0 < p → e + d ≡ c + k → p + d + e ≡ suc (p - 1 + k) + c
    high p d c e k P l = omega arith

    last : (p k z : ℕ) → 0 < p → z ≡ suc (p - 1 + k) → z - p ≡ k
    last p k z P h = omega arith

-- the law, from the digits that are dropped
pub mag_at : (p E s e c k r L : ℕ) → L ≡ low_of p E + c → size (s * 2 ^ e / 2 ^ c) - p ≡ k → r + e ≡ c + k
    → mag_of p E (s * 2 ^ e) (2 ^ L) ≡ min (k * 2 ^ (p - 1) + closest s (2 ^ r)) (inf_of p E)
unfolding mag_of
mag_at p E s e c k r L h z t =
    let l = low_of p E in
    let n = s * 2 ^ e * 2 ^ l in
    let z' : size (n / 2 ^ L) - p ≡ k = ap (λ (x : ℕ). size x - p) (whole s e l c L h) ∙ z in
    let q : closest n (2 ^ L * 2 ^ k) ≡ closest s (2 ^ r) =
    closest_same n (2 ^ L * 2 ^ k) s (2 ^ r) (mul-pos (pow_pos L) (pow_pos k)) (pow_pos r)
    (three s e l r ∙ ap (λ (x : ℕ). s * x) (ap (λ (x : ℕ). 2 ^ x) (sums l L c e r k h t) ∙ pow-add 2 L k)) in
    ap (λ (x : ℕ). min (x * 2 ^ (p - 1) + closest n (2 ^ L * 2 ^ x)) (inf_of p E)) z' ∙ ap (λ (x : ℕ). min (k * 2 ^ (p - 1) + x) (inf_of p E)) q
  where
    sums : (l L c e r k : ℕ) → L ≡ l + c → r + e ≡ c + k → e + l + r ≡ L + k
    sums l L c e r k h t = omega arith

-- and from a number of p + d digits: d are cut, or those that lie below the smallest value
pub mag_cut : (p E s e c d k r L : ℕ) → 0 < p → L ≡ low_of p E + c → s < 2 ^ (p + d) → (0 < e → 2 ^ (p + d - 1) ≤ s) → d ≤ c → k ≡ e - (c - d) → r + e ≡ c + k
    → mag_of p E (s * 2 ^ e) (2 ^ L) ≡ min (k * 2 ^ (p - 1) + closest s (2 ^ r)) (inf_of p E)
mag_cut p E s e c d k r L P h f g l i t = mag_at p E s e c k r L h (elim (eq-zero-or-pos k) [
  | inl z ↦ drop_low p d c e s f (omega arith) ∙ sym z
  | inr K ↦ drop_high p d c e k s P (g (omega arith)) f (omega arith)
]) t

-- less than a half
pub closest_none : (r s : ℕ) → s * 2 < 2 ^ r → closest s (2 ^ r) ≡ 0
closest_none r s h =
    let b : s < 2 ^ r = omega arith in
    nearest_down (s / 2 ^ r) (s % 2 ^ r * 2) (2 ^ r) (subst (λ (x : ℕ). x * 2 < 2 ^ r) (sym (mod-eq_of_lt b)) h) ∙ div-eq_of_lt b
