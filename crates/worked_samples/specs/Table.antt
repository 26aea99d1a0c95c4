-- Document 01's starred samples, and document 02's examples of norms and older frames: what the definitions give, beside
-- what the paper says; and two witnesses, of a norm just above 2 ^ -25 and of a default profile.
-- What is stated is written out as values, so that no definition of the library
-- stands on both sides (`numbers` only lists whole numbers). Definitions only.
use Rattle.std.specs.Prelude.{◌≡◌, ℕ, true, false, List, [], ◌∷◌, ◌++◌, map, pos, negsuc, Float}
use Rattle.std.specs.Float.{fin, binary32, binary64}
use Rattle.std.specs.Float.Ieee.{of_int}
use Rattle.error.specs.Numbers.{Outcome, completed, refused, and_then, Value, whole, real}
use Rattle.profile.specs.declared.EmptyCellPolicy.TheVariants.{SplitHighestDistortion}
use Rattle.profile.specs.declared.FibQuantProfile.{FibQuantProfile}
use Rattle.profile.specs.Fields.{profile_schema, rotation_algorithm}
use Rattle.profile.specs.Paper.{wire_bits_of, paper_of}
use Rattle.bitpack.specs.Layout.{packed_bytes}
use Rattle.bitpack.specs.Answers.{unpackable}
use Rattle.slices.specs.Bytes.{bytes_of}
use Rattle.compact.specs.Frame.{frame_of}
use Rattle.narrow.specs.Pack.{narrow_to}
use Rattle.norm.specs.Norm.{norm_bits, norm_value_f32}
use Rattle.lloyd_search.specs.declared.Found.{Found}
use Rattle.lloyd_search.specs.Distance.{row_of, vector_of}
use Rattle.lloyd_search.specs.Nearest.{nearest, mean_error}
use Rattle.lloyd_events.specs.declared.LloydRepairEvent.{LloydRepairEvent}
use Rattle.lloyd_cells.specs.Repair.{Repaired}
use Rattle.lloyd_cells.specs.Update.{updated}
use Rattle.encode.specs.Encode.{norm_of}
use Rattle.convert.specs.Convert.{ConvertCall, convert_call, f16_bytes, to_f16, to_f32}

-- a row: what a definition gives, and what the paper says
pub record Row : Type 0 where
  pub given : List Value
  pub stated : List Value

-- an outcome as values: 0 and what it holds, or its number and values
abbrev shown : {A : Type 0} → (A → List Value) → Outcome A → List Value
shown f (completed x) = whole 0 ∷ f x
shown f (refused n values) = whole n ∷ values

abbrev one : ℕ → List Value
one n = whole n ∷ []

abbrev numbers : List ℕ → List Value
numbers ns = map whole ns

-- whole numbers as floats, and their list as vectors of one coordinate
unfoldable pub float : ℕ → Float
unfolding of_int
float n = of_int binary64 (pos n)

unfoldable pub floats : List ℕ → List Float
unfolding float
floats ns = map float ns

-- an update of the codewords 0 and 10 with every sample in cell 0, and what it
-- comes to: each repair's donor, tally, distortion and norm, then the codewords
abbrev repairs_of : List LloydRepairEvent → List Value
repairs_of [] = []
repairs_of (e ∷ es) =
    whole e.donor_cell ∷ whole e.donor_count_before ∷ real e.donor_distortion ∷ real e.residual_norm
    ∷ repairs_of es

abbrev repaired_of : Repaired → List Value
repaired_of r = repairs_of r.events ++ (real (r.cells.word 0 0) ∷ real (r.cells.word 1 0) ∷ [])

unfoldable pub update : ℕ → List ℕ → List Value
unfolding floats updated
update S samples =
    shown repaired_of
    (updated (record { dim = 1; cells = 2; restart = 0; iteration = 0; free = 1; shown = 1 }) SplitHighestDistortion S
    (row_of 1 (floats samples)) (λ s. 0) (row_of 1 (floats (0 ∷ 10 ∷ []))))

abbrev found_of : Found → List Value
found_of f = whole f.index ∷ real f.distance ∷ []

-- 10 and 1; then 2 - 1e-6 and 2 + 1e-6, each rounded once
unfoldable pub split_row : Row
unfolding update floats float
split_row = record {
  given = update 2 (1 ∷ 3 ∷ []);
  stated =
      whole 0 ∷ whole 0 ∷ whole 2 ∷ real (fin false 5 (pos 1)) ∷ real (fin false 1 (pos 0))
      ∷ real (fin false 9007194751141365 (negsuc 51)) ∷ real (fin false 2251800939585155 (negsuc 49)) ∷ [];
}

unfoldable pub no_direction_row : Row
unfolding update floats float
no_direction_row = record { given = update 2 (2 ∷ 2 ∷ []); stated = whole 16 ∷ whole 0 ∷ [] }

unfoldable pub no_donor_row : Row
unfolding update floats float
no_donor_row = record { given = update 1 (5 ∷ []); stated = whole 15 ∷ whole 1 ∷ [] }

unfoldable pub nearest_row : Row
unfolding update floats float
nearest_row = record {
  given = found_of (nearest 1 2 (row_of 1 (float 1 ∷ fin true 1 (pos 0) ∷ [])) (vector_of (floats (0 ∷ []))));
  stated = whole 0 ∷ real (fin false 1 (pos 0)) ∷ [];
}

unfoldable pub mean_row : Row
unfolding update floats float
mean_row = record {
  given = real (mean_error 1 2 (row_of 1 (floats (1 ∷ 3 ∷ []))) (row_of 1 (floats (0 ∷ 3 ∷ 4 ∷ 5 ∷ []))) 4) ∷ [];
  stated = real (fin false 3 (negsuc 0)) ∷ [];
}

unfoldable pub width_row : Row
unfolding update floats float
width_row = record {
  given = shown one (wire_bits_of 2) ++ shown one (wire_bits_of 3) ++ shown one (wire_bits_of 4) ++ shown one (wire_bits_of 5);
  stated = numbers (0 ∷ 1 ∷ 0 ∷ 2 ∷ 0 ∷ 2 ∷ 0 ∷ 3 ∷ []);
}

unfoldable pub one_codeword_row : Row
unfolding update floats float
one_codeword_row = record { given = shown one (wire_bits_of 1); stated = numbers (4 ∷ 1 ∷ []) }

unfoldable pub packing_row : Row
unfolding update floats float
packing_row = record { given = numbers (packed_bytes (5 ∷ 3 ∷ 7 ∷ []) 3); stated = numbers (0xDD ∷ 0x01 ∷ []) }

unfoldable pub padding_row : Row
unfolding update floats float
padding_row = record { given = shown (λ u. []) (unpackable (0xDD ∷ 0x03 ∷ []) 3 3 3); stated = numbers (9 ∷ 3 ∷ []) }

unfoldable pub frame_row : Row
unfolding update floats float
frame_row = record {
  given =
      shown numbers (and_then (norm_bits (float 1))
      (λ bits. completed (frame_of 3 3 (bytes_of 2 bits) (packed_bytes (5 ∷ 3 ∷ 7 ∷ []) 3))));
  stated =
      numbers (0 ∷ 0x46 ∷ 0x42 ∷ 0x31 ∷ 0x01 ∷ 0x03 ∷ 0x03 ∷ 0x00 ∷ 0x00 ∷ 0x00 ∷ 0x02 ∷ 0x00 ∷ 0x00 ∷ 0x3C ∷ 0xDD ∷ 0x01
      ∷ []);
}

unfoldable pub norm_row : Row
unfolding update floats float
norm_row = record {
  given = shown one (norm_bits (float 1)) ++ shown one (norm_bits (float 65520)) ++ shown one (norm_bits (float 65504));
  stated = numbers (0 ∷ 0x3C00 ∷ 10 ∷ 0 ∷ 0x7BFF ∷ []);
}

unfoldable pub small_norm_row : Row
unfolding update floats float
small_norm_row = record {
  given = shown one (norm_bits (fin false 1 (negsuc 24))) ++ shown one (norm_bits (fin false 1 (negsuc 23)));
  stated = numbers (10 ∷ 0 ∷ 0x0001 ∷ []);
}

-- document 02, K3: 1 + 2 ^ -11 + 2 ^ -40, and the binary64 value just under 65,520; and the one just above 2 ^ -25, which is
-- nearer to 2 ^ -24 than to 0
unfoldable pub once_row : Row
unfolding update floats float
once_row = record {
  given =
      shown one (norm_bits (fin false 1100048498689 (negsuc 39)))
      ++ shown one (norm_bits (fin false 9005000231485439 (negsuc 36)))
      ++ shown one (norm_bits (fin false 4503599627370497 (negsuc 76)));
  stated = numbers (0 ∷ 0x3C01 ∷ 0 ∷ 0x7BFF ∷ 0 ∷ 0x0001 ∷ []);
}

unfoldable pub narrowing_row : Row
unfolding update floats float
narrowing_row = record {
  given = real (narrow_to binary32 (float 16777217)) ∷ [];
  stated = real (fin false 1 (pos 24)) ∷ [];
}

unfoldable pub root_row : Row
unfolding update floats float
root_row = record { given = real (norm_of (floats (3 ∷ 4 ∷ []))) ∷ []; stated = real (fin false 5 (pos 0)) ∷ [] }

-- No starred sample but a witness: a default profile is built, here
-- of 8 values in blocks of 2 and 4 codewords, log2 of which is 2.
-- Its width of an index, its restarts and its training samples.
abbrev profile_shown : FibQuantProfile → List Value
profile_shown p = numbers (p.wire_index_bits ∷ p.lloyd_restarts ∷ p.training_samples ∷ [])

unfoldable pub profile_row : Row
profile_row = record {
  given = shown profile_shown (paper_of 8 2 4 7 (fin false 1 (pos 1)));
  stated = numbers (0 ∷ 2 ∷ 4 ∷ 256 ∷ []);
}

-- document 02, K9: a frame whose norm is 1 in four bytes, and back from two; one whose norm, 1 + 2 ^ -11, binary16 does not
-- hold; and one with a padding bit. The profile has 6 values in blocks of 2 and 5 codewords, so that two of the indices, 5,
-- 3 and 7, are no codeword's: they are carried over.
abbrev frame_with : List ℕ → List ℕ → List ℕ
frame_with norm indices = (0x46 ∷ 0x42 ∷ 0x31 ∷ 0x01 ∷ 0x03 ∷ 0x03 ∷ 0x00 ∷ 0x00 ∷ 0x00 ∷ []) ++ norm ++ indices

-- log2 of 5
abbrev log2_of_5 : Float
log2_of_5 = fin false 5228517251457905 (negsuc 50)

abbrev converted : (ConvertCall → ℕ → Outcome (List ℕ)) → ℕ → List ℕ → List Value
converted way output bytes =
    shown numbers (and_then (paper_of 6 2 5 7 log2_of_5)
    (λ p. way (convert_call p profile_schema rotation_algorithm log2_of_5 bytes) output))

unfoldable pub converted_row : Row
converted_row = record {
  given =
      converted to_f16 15 (frame_with (0x04 ∷ 0x00 ∷ 0x00 ∷ 0x00 ∷ 0x80 ∷ 0x3F ∷ []) (0xDD ∷ 0x01 ∷ []))
      ++ converted to_f32 17 (frame_with (0x02 ∷ 0x00 ∷ 0x00 ∷ 0x3C ∷ []) (0xDD ∷ 0x01 ∷ []))
      ++ converted to_f16 15 (frame_with (0x04 ∷ 0x00 ∷ 0x00 ∷ 0x10 ∷ 0x80 ∷ 0x3F ∷ []) (0xDD ∷ 0x01 ∷ []))
      ++ converted to_f16 15 (frame_with (0x04 ∷ 0x00 ∷ 0x00 ∷ 0x00 ∷ 0x80 ∷ 0x3F ∷ []) (0xDD ∷ 0x03 ∷ []));
  stated =
      numbers
      ((0 ∷ 0x46 ∷ 0x42 ∷ 0x31 ∷ 0x01 ∷ 0x03 ∷ 0x03 ∷ 0x00 ∷ 0x00 ∷ 0x00 ∷ 0x02 ∷ 0x00 ∷ 0x00 ∷ 0x3C ∷ 0xDD ∷ 0x01 ∷ [])
      ++ (0 ∷ 0x46 ∷ 0x42 ∷ 0x31 ∷ 0x01 ∷ 0x03 ∷ 0x03 ∷ 0x00 ∷ 0x00 ∷ 0x00 ∷ 0x04 ∷ 0x00 ∷ 0x00 ∷ 0x00 ∷ 0x80 ∷ 0x3F ∷ 0xDD ∷ 0x01 ∷ [])
      ++ (27 ∷ 9 ∷ 3 ∷ []));
}

-- and norms alone, from four bytes to two: 2 ^ -24, 65,504, 2 ^ -25, 65,505, the smallest that binary32 has, 0, and infinity
abbrev in_two : List ℕ → List Value
in_two norm = shown numbers (and_then (norm_value_f32 norm) f16_bytes)

unfoldable pub exact_row : Row
exact_row = record {
  given =
      in_two (0x00 ∷ 0x00 ∷ 0x80 ∷ 0x33 ∷ []) ++ in_two (0x00 ∷ 0xE0 ∷ 0x7F ∷ 0x47 ∷ [])
      ++ in_two (0x00 ∷ 0x00 ∷ 0x00 ∷ 0x33 ∷ []) ++ in_two (0x00 ∷ 0xE1 ∷ 0x7F ∷ 0x47 ∷ [])
      ++ in_two (0x01 ∷ 0x00 ∷ 0x00 ∷ 0x00 ∷ []) ++ in_two (0x00 ∷ 0x00 ∷ 0x00 ∷ 0x00 ∷ []) ++ in_two (0x00 ∷ 0x00 ∷ 0x80 ∷ 0x7F ∷ []);
  stated = numbers (0 ∷ 0x01 ∷ 0x00 ∷ 0 ∷ 0xFF ∷ 0x7B ∷ 27 ∷ 27 ∷ 27 ∷ 10 ∷ 10 ∷ []);
}

unfoldable pub table : List Row
unfolding split_row no_direction_row no_donor_row nearest_row mean_row width_row one_codeword_row packing_row padding_row frame_row
    norm_row small_norm_row once_row converted_row exact_row narrowing_row root_row profile_row
table = split_row ∷ no_direction_row ∷ no_donor_row ∷ nearest_row ∷ mean_row ∷ width_row ∷ one_codeword_row ∷ packing_row ∷
    padding_row ∷ frame_row ∷ norm_row ∷ small_norm_row ∷ once_row ∷ converted_row ∷ exact_row ∷ narrowing_row ∷ root_row ∷ profile_row ∷ []

-- every row of a table comes out as stated
abbrev pub Hold : List Row → Type 0
Hold [] = Unit
Hold (r ∷ rs) = (r.given ≡ r.stated) × Hold rs
