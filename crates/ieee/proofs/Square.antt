-- The square of a difference does not hang on which of the two is taken from the other: of any floats. Assumes nothing.
use Rattle.std.proofs.Common.{◌≡◌, ℕ, zero, suc, ◌+◌, ◌-◌, ◌*◌, ◌^◌, ◌<◌, ◌≤◌, Bool, true, false, cond, not, T, ltb, sym, refl, ap, ◌∙◌, mul_comm, add_comm, arith, ltb→lt, nltb→le}
use lib.Ieee.{Float, nan, inf, fin, Format, prec, emax, low, unlike, up, down, odd, units, round, sum, neg, add, sub, mul}
use lib.Ieee.Fits.{round_is}

-- ---- the sign of what is squared does not count
alike : (s t : Bool) → unlike s s ≡ unlike t t
alike true true = refl
alike true false = refl
alike false true = refl
alike false false = refl

abbrev square : Format → Float → Float
square f x = mul f x x

square_fin : (f : Format) (s t : Bool) (m : ℕ) (e : _) → square f (fin s m e) ≡ square f (fin t m e)
unfolding mul
square_fin f s t m e = ap (λ (b : Bool). round f b (m * up e * (m * up e)) (down e * down e)) (alike s t)

square_inf : (f : Format) (s t : Bool) → square f (inf s) ≡ square f (inf t)
unfolding mul
square_inf f s t = ap (λ (b : Bool). inf b) (alike s t)

square_odd : (f : Format) (d : ℕ) (s t : Bool) (q k l : ℕ) → square f (odd d s q k l) ≡ square f (odd d t q k l)
unfolding odd
square_odd f d s t zero k l = square_fin f s t _ _
square_odd f d s t (suc q) k l = square_fin f s t _ _

square_units : (f : Format) (s t : Bool) (q k : ℕ) → square f (units f s q k) ≡ square f (units f t q k)
unfolding units
square_units f s t q k = go (ltb (q * 2 ^ k) (2 ^ (low f + suc (emax f))))
  where
    go : (b : Bool) → square f (cond b (odd (suc (prec f)) s q k (low f)) (inf s)) ≡ square f (cond b (odd (suc (prec f)) t q k (low f)) (inf t))
    go true = square_odd f (suc (prec f)) s t q k (low f)
    go false = square_inf f s t

square_round : (f : Format) (s t : Bool) (n c : ℕ) → square f (round f s n c) ≡ square f (round f t n c)
square_round f s t n c = ap (square f) (round_is f s n c) ∙ square_units f s t _ _ ∙ sym (ap (square f) (round_is f t n c))

-- ---- a / c less b / c, and b / c less a / c, with any signs
square-apart : (f : Format) (a b c : ℕ) (p q r s : Bool) → square f (cond (ltb a b) (round f p (b - a) c) (round f q (a - b) c)) ≡ square f (cond (ltb b a) (round f r (a - b) c) (round f s (b - a) c))
square-apart f a b c p q r s = go (ltb a b) (ltb b a) (ltb→lt a b) (nltb→le a b) (ltb→lt b a) (nltb→le b a)
  where
    same : a ≤ b → b ≤ a → a - b ≡ b - a
    same h k = omega arith

    go : (x y : Bool) → (T x → a < b) → (T (not x) → b ≤ a) → (T y → b < a) → (T (not y) → a ≤ b) → square f (cond x (round f p (b - a) c) (round f q (a - b) c)) ≡ square f (cond y (round f r (a - b) c) (round f s (b - a) c))
    go true true h i j k = let l = h tt in let g = j tt in absurd (omega arith)
    go true false h i j k = square_round f p s (b - a) c
    go false true h i j k = square_round f q r (a - b) c
    go false false h i j k = square_round f q s (a - b) c ∙ ap (λ (n : ℕ). square f (round f s n c)) (same (k tt) (i tt))

square-sum : (f : Format) (s t : Bool) (a b c : ℕ) → square f (sum f s a (not t) b c) ≡ square f (sum f t b (not s) a c)
unfolding sum
square-sum f true false a b c = square_round f true false (a + b) c ∙ ap (λ (n : ℕ). square f (round f false n c)) (add_comm a b)
square-sum f false true a b c = square_round f false true (a + b) c ∙ ap (λ (n : ℕ). square f (round f true n c)) (add_comm a b)
square-sum f true true a b c = square-apart f a b c false (ltb b a) false (ltb a b)
square-sum f false false a b c = square-apart f a b c true false true false

pub square_turned : (f : Format) (x y : Float) → square f (sub f x y) ≡ square f (sub f y x)
unfolding sub add neg
square_turned f nan nan = refl
square_turned f nan (inf t) = refl
square_turned f nan (fin t n d) = refl
square_turned f (inf s) nan = refl
square_turned f (inf true) (inf true) = refl
square_turned f (inf true) (inf false) = square_inf f true false
square_turned f (inf false) (inf true) = square_inf f false true
square_turned f (inf false) (inf false) = refl
square_turned f (inf s) (fin t n d) = square_inf f s (not s)
square_turned f (fin s m e) nan = refl
square_turned f (fin s m e) (inf t) = square_inf f (not t) t
square_turned f (fin s m e) (fin t n d) =
    square-sum f s t (m * up e * down d) (n * up d * down e) (down e * down d) ∙ ap (λ (c : ℕ). square f (sum f t (n * up d * down e) (not s) (m * up e * down d) c)) (mul_comm (down e) (down d))
