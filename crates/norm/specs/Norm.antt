-- The norm of a code: rounded once from binary64 to binary16, as document 02's K3 has it, and read as document 01 has it,
-- or, for K9's older frames, as the Rust reads its format F32Reference.
-- Refusal 10 comes where a norm is not codable, or the bytes of one are not valid. Definitions only.
use Rattle.std.specs.Prelude.{ℕ, Bool, not, ◌&&◌, cond, List, [], eqb, length, Float}
use Rattle.std.specs.Float.Ieee.{lt}
use Rattle.std.specs.Float.Ieee.Scale.{finite}
use Rattle.error.specs.Numbers.{Outcome, completed, refused}
use Rattle.ieee.specs.Sum.{plus_zero}
use Rattle.slices.specs.Bytes.{number_of}
use Rattle.narrow.specs.Format.{unpacked}
use Rattle.narrow.specs.Pack.{packed}

-- finite and above zero
abbrev pub above_zero : Float → Bool
above_zero x = finite x && lt plus_zero x

-- the norm x written as this pattern: x, and the value that the pattern stands for, must be finite and above zero
abbrev pub written_as : Float → ℕ → Outcome ℕ
written_as x bits =
    cond (not (above_zero x)) (refused 10 [])
    (cond (not (above_zero (unpacked 11 15 bits))) (refused 10 [])
    (completed bits))

-- what is written of the norm x, or 10: the pattern of x at binary16, rounded once
unfoldable pub norm_bits : Float → Outcome ℕ
norm_bits x = written_as x (packed 11 15 x)

-- what is read from n bytes at a format, or 10: the value of their pattern, low byte first, finite and above zero
unfoldable pub value_of : ℕ → ℕ → ℕ → List ℕ → Outcome Float
value_of n p emax bytes =
    let norm = unpacked p emax (number_of bytes) in
    cond (not (eqb (length bytes) n)) (refused 10 [])
    (cond (not (above_zero norm)) (refused 10 [])
    (completed norm))

-- the norm of a frame: two bytes of binary16
abbrev pub norm_value : List ℕ → Outcome Float
norm_value = value_of 2 11 15

-- and of one of K9's older frames: four bytes of binary32
abbrev pub norm_value_f32 : List ℕ → Outcome Float
norm_value_f32 = value_of 4 24 127
