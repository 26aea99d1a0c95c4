-- Laws of a stream's fields of bits: they add up, split and determine their bits. Assumes nothing.
use Prim.Native.Nat.{ℕ, zero, suc, ◌+◌, ◌*◌, ◌/◌, ◌%◌, ◌^◌, ◌<◌}
use mathlib.Core.Path.{◌≡◌, refl, sym, ap, ◌∙◌}
use native.Mathlib.Nat.{add-suc, add-zero, add_assoc, add_comm, add-mul, mul_assoc, mul_comm, pow-suc, pow-zero, mod-one, zero-div, le_dest, suc-add, mul-le-mul_right}
use native.Mathlib.Numerals.{add-one}
use native.Mathlib.Omega.{arith}
use lib.Pow.{pow-add, high, low, mod-pow-add, shr-shr}
use Rattle.bitpack.specs.Layout.{bit_of, bits, field}

-- fields of n bits that agree bit by bit
pub field_ext : (f g : ℕ → ℕ) (p q n : ℕ) → ((j : ℕ) → j < n → f (p + j) ≡ g (q + j)) → field f p n ≡ field g q n
unfolding field bits
field_ext f g p q zero h = refl
field_ext f g p q (suc n) h = rw (field_ext f g p q n (λ j l. h j (omega arith)), h n (omega arith))

pub field-none : (f : ℕ → ℕ) (p : ℕ) → field f p 0 ≡ 0
unfolding field bits
field-none f p = refl

pub field_zero : (f : ℕ → ℕ) (p n : ℕ) → ((j : ℕ) → j < n → f (p + j) ≡ 0) → field f p n ≡ 0
unfolding field bits
field_zero f p zero h = refl
field_zero f p (suc n) h = rw (field_zero f p n (λ j l. h j (omega arith)), h n (omega arith)) (omega arith)

-- m bits, and then n bits
pub field_add : (f : ℕ → ℕ) (p m n : ℕ) → field f p (m + n) ≡ field f p m + field f (p + m) n * 2 ^ m
unfolding field bits
field_add f p m zero = rw (add-zero m, field-none f (p + m)) (omega arith)
field_add f p m (suc n) =
    rw (add-suc, field_add f p m n, ← add_assoc p m n, pow-add 2 m n, add-mul (field f (p + m) n), mul_assoc)
    (omega (arith, ap (λ (x : ℕ). f (p + m + n) * x) (mul_comm (2 ^ m) (2 ^ n))))

-- the value of n bits is below 2^n
pub field_lt : (f : ℕ → ℕ) (p n : ℕ) → ((j : ℕ) → f j < 2) → field f p n < 2 ^ n
unfolding field bits
field_lt f p zero b = omega arith
field_lt f p (suc n) b = rw pow-suc (omega (arith, field_lt f p n b, mul-le-mul_right {m = f (p + n)} {n = 1} (2 ^ n) (omega (arith, b (p + n)))))

-- the low m bits of m + n, and the n above them
pub field_mod : (f : ℕ → ℕ) (p m n : ℕ) → ((j : ℕ) → f j < 2) → field f p (m + n) % 2 ^ m ≡ field f p m
field_mod f p m n b = rw (field_add, add_comm) (low (field f (p + m) n) m (field_lt f p m b))

pub field_div : (f : ℕ → ℕ) (p m n : ℕ) → ((j : ℕ) → f j < 2) → field f p (m + n) / 2 ^ m ≡ field f (p + m) n
field_div f p m n b = rw (field_add, add_comm) (high (field f (p + m) n) m (field_lt f p m b))

-- one bit
pub field-one : (f : ℕ → ℕ) (p : ℕ) → field f p 1 ≡ f p
unfolding field bits
field-one f p = rw (add-zero p) (omega arith)

-- bit j of a field is the stream's
pub bit_field : (f : ℕ → ℕ) (p n j : ℕ) → ((j : ℕ) → f j < 2) → j < n → bit_of (field f p n) j ≡ f (p + j)
bit_field f p n j b l = go (le_dest l)
  where
    go : (k : ℕ) × (suc j + k ≡ n) → bit_of (field f p n) j ≡ f (p + j)
    go (k, e) =
        rw (← e, suc-add j k, ← add-suc j k, field_div f p j (suc k) b, ← add-one k, add_comm k 1)
        (field_mod f (p + j) 1 k b ∙ field-one f (p + j))

-- a field that is 0 has no bit set
pub field_clear : (f : ℕ → ℕ) (p n j : ℕ) → ((j : ℕ) → f j < 2) → field f p n ≡ 0 → j < n → f (p + j) ≡ 0
field_clear f p n j b z l = sym (bit_field f p n j b l) ∙ rw (z, zero-div) refl

-- the bits of a number from bit k on
pub field-bit_of : (x k n : ℕ) → field (bit_of x) k n ≡ x / 2 ^ k % 2 ^ n
unfolding field bits
field-bit_of x k zero = rw pow-zero (sym (mod-one (x / 2 ^ k)))
field-bit_of x k (suc n) =
    rw (field-bit_of x k n, ← add-one n, add_comm n 1, mod-pow-add (x / 2 ^ k) 1 n, shr-shr x k n)
    (add_comm _ _)
