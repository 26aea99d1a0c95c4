-- The packed layout, on bits: bit p of a byte string is bit p % 8 of byte p / 8, and index i of width w is the w bits
-- from i * w on, low bit first. Definitions only.
use Rattle.std.specs.Prelude.{ℕ, zero, suc, ◌+◌, ◌*◌, ◌-◌, ◌/◌, ◌%◌, ◌^◌, cond, List, length, get_or, ltb}
use Rattle.slices.specs.Lists.{tabulate}

-- bit j of n
abbrev pub bit_of : ℕ → ℕ → ℕ
bit_of n j = n / 2 ^ j % 2

-- the value of n bits, whose bit j is f j
unfoldable pub bits : (ℕ → ℕ) → ℕ → ℕ
bits f zero = 0
bits f (suc n) = bits f n + f n * 2 ^ n

-- the value of the n bits of the stream f from bit p on
unfoldable pub field : (ℕ → ℕ) → ℕ → ℕ → ℕ
field f p n = bits (λ j. f (p + j)) n

-- the bytes that n bits take
abbrev pub bytes_for : ℕ → ℕ
bytes_for n = (n + 7) / 8

-- bit p of a byte string
unfoldable pub stream_bit : List ℕ → ℕ → ℕ
stream_bit bytes p = bit_of (get_or bytes (p / 8) 0) (p % 8)

-- byte b of a stream of bits
abbrev pub byte_of : (ℕ → ℕ) → ℕ → ℕ
byte_of f b = field f (8 * b) 8

-- index i of width w in a byte string
abbrev pub index_at : List ℕ → ℕ → ℕ → ℕ
index_at bytes w i = field (stream_bit bytes) (i * w) w

-- the first count indices of width w in a byte string
abbrev pub unpacked_indices : List ℕ → ℕ → ℕ → List ℕ
unpacked_indices bytes count w = tabulate count (index_at bytes w)

-- the value of the bits of a byte string from bit n on: 0 if none of them is set
abbrev pub padding_from : List ℕ → ℕ → ℕ
padding_from bytes n = field (stream_bit bytes) n (8 * length bytes - n)

-- bit p of the packing: a bit of index p / w, and 0 after the last index
unfoldable pub packed_bit : List ℕ → ℕ → ℕ → ℕ
packed_bit indices w p = cond (ltb p (length indices * w)) (bit_of (get_or indices (p / w) 0) (p % w)) 0

-- the bytes of the packing
abbrev pub packed_bytes : List ℕ → ℕ → List ℕ
packed_bytes indices w = tabulate (bytes_for (length indices * w)) (byte_of (packed_bit indices w))
