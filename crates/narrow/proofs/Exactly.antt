-- Two floats of one format that are the same number are the same float, and a product that is exact. Assumes nothing.
use Rattle.std.proofs.Common.{◌≡◌, ℕ, zero, suc, ◌+◌, ◌-◌, ◌*◌, ◌/◌, ◌^◌, ◌<◌, ◌≤◌, Bool, true, false, cond, not, T, leb, pos, negsuc, sym, refl, ap, ◌∙◌, mul-pos, arith, leb→le, le-leb}
use native.Mathlib.Nat.{mul-mul-mul_comm}
use lib.Dec.{nleb→lt}
use lib.Count.{count_trailing_zeros}
use lib.Ieee.{Float, nan, inf, fin, Format, low, up, down, minus, unlike, odd, round, mul, fits, of_bits}
use lib.Ieee.Bits.{of_bits-to_bits}
use lib.Ieee.Exact.{HasValue}
use lib.Ieee.Fits.{down_pos}
use lib.Ieee.Scale.{round_same}
use borrow.Author.Tests.{lt-leb}
use Rattle.narrow.proofs.PackLaw.{to_bits_at}

-- w is the number in units of the format's smallest value
pub same_value : (f : Format) (x y : Float) (s : Bool) (w : ℕ) → T (fits f x) → T (fits f y) → HasValue x s w (2 ^ low f) → HasValue y s w (2 ^ low f) → x ≡ y
same_value f x y s w a b h k = sym (of_bits-to_bits f x a) ∙ ap (of_bits f) (to_bits_at f x s w h ∙ sym (to_bits_at f y s w k)) ∙ of_bits-to_bits f y b

minus_shift : (a l c : ℕ) → minus (a + c) (l + c) ≡ minus a l
minus_shift a l c = go (leb l a) (leb→le l a) (nleb→lt l a)
  where
    go : (b : Bool) → (T b → l ≤ a) → (T (not b) → a < l) → minus (a + c) (l + c) ≡ cond b (pos (a - l)) (negsuc (l - suc a))
    go true h k = let g = h tt in rw (le-leb (l + c) (a + c) (omega arith)) (ap pos (omega arith))
    go false h k = let g = k tt in rw (lt-leb (l + c) (a + c) (omega arith)) (ap negsuc (omega arith))

-- q * 2 ^ k / 2 ^ l, in smaller units
pub odd_shift : (d : ℕ) (s : Bool) (q k l c : ℕ) → odd d s q (k + c) (l + c) ≡ odd d s q k l
unfolding odd
odd_shift d s zero k l c = refl
odd_shift d s (suc q) k l c =
    let t = count_trailing_zeros d (suc q) in
    let e : k + c + t ≡ k + t + c = omega arith in
    ap (fin s (suc q / 2 ^ t)) (ap (λ (x : ℕ). minus x (l + c)) e ∙ minus_shift (k + t) l c)

-- a product, by any fractions that its factors equal
pub mul_value : (f : Format) (x y : Float) (a c b d : ℕ) → 0 < c → 0 < d → HasValue x false a c → HasValue y false b d → mul f x y ≡ round f false (a * b) (c * d)
unfolding mul
mul_value f nan y a c b d C D h k = absurd h
mul_value f (inf s) y a c b d C D h k = absurd h
mul_value f (fin s m e) nan a c b d C D h k = absurd k
mul_value f (fin s m e) (inf t) a c b d C D h k = absurd k
mul_value f (fin s m e) (fin t n i) a c b d C D h k =
    ap (λ (z : Bool). round f z (m * up e * (n * up i)) (down e * down i)) (ap (λ (z : Bool). unlike z t) h.0 ∙ ap (unlike false) k.0)
    ∙ round_same f false (m * up e * (n * up i)) (down e * down i) (a * b) (c * d) (mul-pos (down_pos e) (down_pos i)) (mul-pos C D)
    (mul-mul-mul_comm (m * up e) (n * up i) c d ∙ ap (λ (z : ℕ). z * (n * up i * d)) h.1 ∙ ap (λ (z : ℕ). a * down e * z) k.1 ∙ mul-mul-mul_comm a (down e) b (down i))
