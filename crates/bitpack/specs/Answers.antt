-- What packing and unpacking answer, by the table's numbers and in document 01's order of checks. Definitions only.
use Rattle.std.specs.Prelude.{ℕ, ◌+◌, ◌*◌, ◌-◌, ◌^◌, cond, not, ◌&&◌, List, [], ◌∷◌, length, ltb, leb, eqb}
use Rattle.error.specs.Names.{output_slice, packed_length_site, packed_width_site, padding_bit_site}
use Rattle.error.specs.Numbers.{Outcome, completed, refused, whole, and_then}
use Rattle.bitpack.specs.Layout.{bytes_for, padding_from}

-- the bytes that count indices of width w take: 9 at site 1 for a width that is not 1 to 32, 5 for a number of bits that
-- passes 2^64 - 1 when 7 is added, and so for one that passes it already
unfoldable pub packed_size : ℕ → ℕ → Outcome ℕ
packed_size count w =
    cond (not (leb 1 w && leb w 32)) (refused 9 (whole packed_width_site ∷ []))
    (cond (ltb (2 ^ 64 - 1) (count * w + 7)) (refused 5 [])
    (completed (bytes_for (count * w))))

-- the first index above the bound is refused by 11
unfoldable pub in_range : List ℕ → ℕ → Outcome Unit
in_range [] bound = completed tt
in_range (x ∷ xs) bound = cond (ltb bound x) (refused 11 (whole x ∷ whole bound ∷ [])) (in_range xs bound)

-- the answer of packing into `room` bytes
abbrev pub packable : List ℕ → ℕ → ℕ → Outcome Unit
packable indices w room =
    and_then (packed_size (length indices) w)
    (λ size. cond (not (eqb room size)) (refused 7 (whole output_slice ∷ []))
    (in_range indices (2 ^ w - 1)))

-- the answer of unpacking into `room` indices
abbrev pub unpackable : List ℕ → ℕ → ℕ → ℕ → Outcome Unit
unpackable bytes count w room =
    and_then (packed_size count w)
    (λ size. cond (not (eqb (length bytes) size)) (refused 9 (whole packed_length_site ∷ []))
    (cond (not (eqb (padding_from bytes (count * w)) 0)) (refused 9 (whole padding_bit_site ∷ []))
    (cond (not (eqb room count)) (refused 7 (whole output_slice ∷ []))
    (completed tt))))
