-- The compact frame, from its layout: 0x46 0x42 0x31 0x01, width (1 byte), block count
-- (4), norm length (2), all little-endian, then the norm and the packed indices. Bytes
-- are numbers below 256. Definitions only; their laws are in proofs/FrameLaws.antt.
use Rattle.std.specs.Prelude.{ℕ, ◌+◌, ◌*◌, ◌-◌, ◌≤◌, ◌≡◌, Bool, true, cond, not, ◌&&◌, List, [], ◌∷◌, ◌++◌, ltb, eqb, length, get_or, take, drop, Result, Ok, Err}
use Rattle.error.specs.Names.{frame_magic_site, frame_version_site, index_length_site, norm_cut_off_site, norm_slice, output_slice, short_frame_site}
use Rattle.error.specs.declared.Refusal.{Refusal}
use Rattle.error.specs.Numbers.{Outcome, completed, refused, whole, refusal}
use Rattle.slices.specs.Bytes.{bytes_of, number_of}
use Rattle.bitpack.specs.Layout.{bytes_for, packed_bytes}
use Rattle.compact.specs.declared.CompactFrame.{CompactFrame}

-- the first 11 bytes
unfoldable pub header : ℕ → ℕ → ℕ → List ℕ
header width count normLength = (0x46 ∷ 0x42 ∷ 0x31 ∷ 0x01 ∷ width ∷ []) ++ bytes_of 4 count ++ bytes_of 2 normLength

-- the whole frame
unfoldable pub frame_of : ℕ → ℕ → List ℕ → List ℕ → List ℕ
frame_of width count norm indices = header width count (length norm) ++ norm ++ indices

-- the frame of a code: of the pattern of its norm, in so many bytes, and of its index list
abbrev pub code_frame : ℕ → ℕ → ℕ → ℕ → List ℕ → List ℕ
code_frame width count normLength bits indices =
    frame_of width count (bytes_of normLength bits) (packed_bytes indices width)

-- what a frame holds
pub record Parts : Type 0 where
  pub width : ℕ
  pub count : ℕ
  pub norm : List ℕ
  pub indices : List ℕ

-- the fields of a header, at their places
abbrev pub magic_in : List ℕ → Bool
magic_in bs = eqb (get_or bs 0 0) 0x46 && (eqb (get_or bs 1 0) 0x42 && eqb (get_or bs 2 0) 0x31)

abbrev pub count_in : List ℕ → ℕ
count_in bs = number_of (take 4 (drop 5 bs))

abbrev pub norm_length_in : List ℕ → ℕ
norm_length_in bs = number_of (take 2 (drop 9 bs))

-- the parts of bytes that have the given numbers in their header
abbrev pub parts_with : List ℕ → ℕ → ℕ → ℕ → Parts
parts_with bs width count normLength =
    record { width = width; count = count; norm = take normLength (drop 11 bs); indices = drop (11 + normLength) bs }

-- the parts of bytes, by the numbers that stand in their header
abbrev pub parts_in : List ℕ → Parts
parts_in bs = parts_with bs (get_or bs 4 0) (count_in bs) (norm_length_in bs)

-- parsing: the site of the first test that fails, or the parts
unfoldable pub parsed : List ℕ → Outcome Parts
parsed bs =
    cond (ltb (length bs) 11) (refused 8 (whole short_frame_site ∷ []))
    (cond (not (magic_in bs)) (refused 8 (whole frame_magic_site ∷ []))
    (cond (not (eqb (get_or bs 3 0) 1)) (refused 8 (whole frame_version_site ∷ []))
    (cond (ltb (length bs) (11 + norm_length_in bs)) (refused 8 (whole norm_cut_off_site ∷ []))
    (cond (not (eqb (length bs - (11 + norm_length_in bs)) (bytes_for (count_in bs * get_or bs 4 0))))
    (refused 8 (whole index_length_site ∷ []))
    (completed (parts_in bs))))))

-- what these tests ask: such bytes parse, and no others
pub record WellFormed (bs : List ℕ) : Type 0 where
  pub long : 11 ≤ length bs
  pub magic : magic_in bs ≡ true
  pub version : get_or bs 3 0 ≡ 1
  pub norm_within : 11 + norm_length_in bs ≤ length bs
  pub sized : length bs - (11 + norm_length_in bs) ≡ bytes_for (count_in bs * get_or bs 4 0)

-- writing: a norm whose length does not fit two bytes, an output that is not as long as the frame
unfoldable pub writing : List ℕ → List ℕ → List ℕ → Outcome Unit
writing norm indices output =
    cond (ltb 65535 (length norm)) (refused 7 (whole norm_slice ∷ []))
    (cond (not (eqb (length output) (11 + length norm + length indices))) (refused 7 (whole output_slice ∷ []))
    (completed tt))

-- a parsed frame's parts in the caller's bytes
abbrev pub parts_of : List ℕ → CompactFrame → Parts
parts_of bs f = parts_with bs f.width f.block_count f.norm_len

-- the answer of parsing, as an outcome
abbrev pub outcome_of : List ℕ → Result CompactFrame Refusal → Outcome Parts
outcome_of bs (Ok f) = completed (parts_of bs f)
outcome_of bs (Err r) = refusal r

-- the norm of a parsed frame lies within the caller's bytes (where
-- no index follows, the parts alone would not fix its length)
abbrev pub Within : List ℕ → Result CompactFrame Refusal → Type 0
Within bs (Ok f) = 11 + f.norm_len ≤ length bs
Within bs (Err r) = Unit
