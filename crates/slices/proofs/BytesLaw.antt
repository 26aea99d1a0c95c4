-- Numbers to bytes and back. Assumes nothing.
use mathlib.Core.Path.{◌≡◌, refl, sym, ap, ◌∙◌}
use mathlib.Core.List.{List, [], ◌∷◌}
use Prim.Native.Nat.{ℕ, zero, suc, ◌+◌, ◌*◌, ◌/◌, ◌%◌, ◌^◌, ◌<◌}
use native.Mathlib.Nat.{div-add-mod}
use native.Mathlib.Omega.{arith}
use lib.ListN.{length}
use lib.Pow.{pow-add}
use Rattle.slices.specs.Bytes.{Bytes, bytes_of, number_of}

pub number_of_bytes : (n v : ℕ) → v < 256 ^ n → number_of (bytes_of n v) ≡ v
unfolding bytes_of number_of
number_of_bytes zero v h = omega (arith, h)
number_of_bytes (suc n) v h = rw (number_of_bytes n (v / 256) (omega arith)) (omega (arith, div-add-mod v 256))

pub length_bytes : (n v : ℕ) → length (bytes_of n v) ≡ n
unfolding bytes_of
length_bytes zero v = refl
length_bytes (suc n) v = rw (length_bytes n (v / 256))

low : (b m : ℕ) → b < 256 → (b + 256 * m) % 256 ≡ b
low b m h = omega arith

rest : (b m : ℕ) → b < 256 → (b + 256 * m) / 256 ≡ m
rest b m h = omega arith

pub bytes_of_number : (bs : List ℕ) → Bytes bs → bytes_of (length bs) (number_of bs) ≡ bs
unfolding bytes_of number_of
bytes_of_number [] h = refl
bytes_of_number (b ∷ bs) h =
    let hb : b < 256 = h 0 (omega arith) in
    rw (low b (number_of bs) hb, rest b (number_of bs) hb, bytes_of_number bs (λ i l. h (suc i) (omega arith)))

one_more : (n : ℕ) → 256 ^ suc n ≡ 256 * 256 ^ n
one_more n = ap (λ (m : ℕ). 256 ^ m) (sym (next n)) ∙ pow-add 256 1 n
  where
    next : (n : ℕ) → 1 + n ≡ suc n
    next n = omega arith

pub number_below : (bs : List ℕ) → Bytes bs → number_of bs < 256 ^ length bs
unfolding number_of
number_below [] h = omega arith
number_below (b ∷ bs) h =
    let hb : b < 256 = h 0 (omega arith) in
    omega (arith, one_more (length bs), number_below bs (λ i l. h (suc i) (omega arith)))
