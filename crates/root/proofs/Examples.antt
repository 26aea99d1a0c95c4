-- Worked examples of the root, by computation: its pattern for the
-- patterns of some values, as a hardware root gives them. Assumes nothing.
use mathlib.Core.Path.{◌≡◌, refl}
use mathlib.Core.List.{[], ◌∷◌, map}
use Prim.Native.Nat.{ℕ}
use lib.Ieee.{binary64, nan, of_bits, to_bits}
use Rattle.root.specs.Sqrt.{sqrt_of}

-- 25, 2, 3, 0.1, 1e300, the neighbours of 1, the smallest and the largest subnormal
-- value, the smallest normal and the largest finite one, both zeros, infinity
examples : map (λ (b : ℕ). to_bits binary64 (sqrt_of binary64 (of_bits binary64 b)))
    (0x4039000000000000 ∷ 0x4000000000000000 ∷ 0x4008000000000000 ∷ 0x3fb999999999999a ∷ 0x7e37e43c8800759c
    ∷ 0x3fefffffffffffff ∷ 0x3ff0000000000001 ∷ 0x0000000000000001 ∷ 0x000fffffffffffff ∷ 0x0010000000000000 ∷ 0x7fefffffffffffff
    ∷ 0x0000000000000000 ∷ 0x8000000000000000 ∷ 0x7ff0000000000000 ∷ [])
    ≡ (0x4014000000000000 ∷ 0x3ff6a09e667f3bcd ∷ 0x3ffbb67ae8584caa ∷ 0x3fd43d136248490f ∷ 0x5f138d352e5096af
    ∷ 0x3fefffffffffffff ∷ 0x3ff0000000000000 ∷ 0x1e60000000000000 ∷ 0x1fffffffffffffff ∷ 0x2000000000000000 ∷ 0x5fefffffffffffff
    ∷ 0x0000000000000000 ∷ 0x8000000000000000 ∷ 0x7ff0000000000000 ∷ [])
unfolding sqrt_of of_bits to_bits
examples = refl

-- below zero there is no root: -1, the least subnormal value, and the infinity
below_zero : map (λ (b : ℕ). sqrt_of binary64 (of_bits binary64 b)) (0xbff0000000000000 ∷ 0x8000000000000001 ∷ 0xfff0000000000000 ∷ []) ≡ (nan ∷ nan ∷ nan ∷ [])
unfolding sqrt_of of_bits
below_zero = refl
