-- THE FACT: every starred sample of document 01, and document 02's examples of norms and older frames, come out as the
-- papers say, a norm just above 2 ^ -25 is coded, and a default profile is built. It is computed from the definitions that the contracts cite.
-- Assumes nothing.
use mathlib.Core.Path.{◌≡◌, refl}
use lib.Ieee.{of_int, round, size, span, climb, units, odd, sum, add, sub, neg, mul, div, lt, eq, le, ne}
use lib.Count.{count_trailing_zeros}
use Rattle.ieee.specs.Sum.{sum_to}
use Rattle.profile.specs.Fields.{ascii, profile_schema, rotation_algorithm, same_bytes}
use Rattle.profile.specs.Checks.{shape_of, validity, numbers_of, rates_of, settings_of}
use Rattle.profile.specs.Paper.{profile_of, paper_of}
use Rattle.narrow.specs.Format.{unpacked, units_of}
use Rattle.narrow.specs.Pack.{mag_of, packed, narrow_to}
use Rattle.root.specs.Sqrt.{isqrt_by, isqrt, root_of, sqrt_of}
use Rattle.norm.specs.Norm.{norm_bits, value_of}
use Rattle.slices.specs.Lists.{tabulate}
use Rattle.bitpack.specs.Layout.{bits, field, stream_bit, packed_bit}
use Rattle.bitpack.specs.Answers.{packed_size}
use Rattle.slices.specs.Bytes.{bytes_of, number_of}
use Rattle.compact.specs.Frame.{header, frame_of, parsed}
use Rattle.compact.specs.Expected.{expected}
use Rattle.lloyd_search.specs.Nearest.{first_least}
use Rattle.lloyd_cells.specs.Cells.{count_to, cell_sum, farthest}
use Rattle.lloyd_cells.specs.Repair.{donor_to, repair_to}
use Rattle.lloyd_cells.specs.Update.{updated}
use Rattle.encode.specs.Encode.{norm_of}
use Rattle.convert.specs.Convert.{checked, norm_by, f16_bytes, f32_bytes}
use Rattle.worked_samples.specs.Table.{Hold, table, update, float, floats, split_row, no_direction_row, no_donor_row, nearest_row, mean_row, width_row, one_codeword_row, packing_row, padding_row, frame_row, norm_row, small_norm_row, once_row, converted_row, exact_row, narrowing_row, root_row, profile_row}

split_row_holds : split_row.given ≡ split_row.stated
unfolding split_row update float floats of_int round size span climb units odd sum add sub neg mul div lt eq le count_trailing_zeros sum_to isqrt_by isqrt root_of sqrt_of count_to cell_sum farthest donor_to repair_to updated
split_row_holds = refl

no_direction_row_holds : no_direction_row.given ≡ no_direction_row.stated
unfolding no_direction_row update float floats of_int round size span climb units odd sum add sub neg mul div lt eq le count_trailing_zeros sum_to isqrt_by isqrt root_of sqrt_of count_to cell_sum farthest donor_to repair_to updated
no_direction_row_holds = refl

no_donor_row_holds : no_donor_row.given ≡ no_donor_row.stated
unfolding no_donor_row update float floats of_int round size span climb units odd sum add sub neg mul div lt eq le count_trailing_zeros sum_to isqrt_by isqrt root_of sqrt_of count_to cell_sum farthest donor_to repair_to updated
no_donor_row_holds = refl

nearest_row_holds : nearest_row.given ≡ nearest_row.stated
unfolding nearest_row float floats of_int round size span climb units odd sum add sub neg mul div lt eq le count_trailing_zeros sum_to first_least
nearest_row_holds = refl

mean_row_holds : mean_row.given ≡ mean_row.stated
unfolding mean_row float floats of_int round size span climb units odd sum add sub neg mul div lt eq le count_trailing_zeros sum_to first_least
mean_row_holds = refl

width_row_holds : width_row.given ≡ width_row.stated
unfolding width_row size span climb
width_row_holds = refl

one_codeword_row_holds : one_codeword_row.given ≡ one_codeword_row.stated
unfolding one_codeword_row size span climb
one_codeword_row_holds = refl

packing_row_holds : packing_row.given ≡ packing_row.stated
unfolding packing_row bits field tabulate packed_bit
packing_row_holds = refl

padding_row_holds : padding_row.given ≡ padding_row.stated
unfolding padding_row bits field stream_bit packed_size
padding_row_holds = refl

frame_row_holds : frame_row.given ≡ frame_row.stated
unfolding frame_row bits field tabulate packed_bit bytes_of header frame_of norm_bits lt unpacked packed
frame_row_holds = refl

norm_row_holds : norm_row.given ≡ norm_row.stated
unfolding norm_row float floats of_int round size span climb units odd sum add sub neg mul div lt eq le count_trailing_zeros unpacked units_of mag_of packed norm_bits
norm_row_holds = refl

small_norm_row_holds : small_norm_row.given ≡ small_norm_row.stated
unfolding small_norm_row float floats of_int round size span climb units odd sum add sub neg mul div lt eq le count_trailing_zeros unpacked units_of mag_of packed norm_bits
small_norm_row_holds = refl

once_row_holds : once_row.given ≡ once_row.stated
unfolding once_row float floats of_int round size span climb units odd sum add sub neg mul div lt eq le count_trailing_zeros unpacked units_of mag_of packed norm_bits
once_row_holds = refl

converted_row_holds : converted_row.given ≡ converted_row.stated
unfolding converted_row paper_of profile_of shape_of validity numbers_of rates_of settings_of same_bytes profile_schema rotation_algorithm ascii of_int round size span climb units odd sum add sub neg div lt eq le ne count_trailing_zeros bits field stream_bit bytes_of number_of header frame_of parsed expected checked norm_by value_of f16_bytes f32_bytes unpacked units_of mag_of packed
converted_row_holds = refl

exact_row_holds : exact_row.given ≡ exact_row.stated
unfolding exact_row size span climb units odd lt eq le ne count_trailing_zeros bytes_of number_of value_of f16_bytes unpacked units_of mag_of packed
exact_row_holds = refl

narrowing_row_holds : narrowing_row.given ≡ narrowing_row.stated
unfolding narrowing_row float floats of_int round size span climb units odd count_trailing_zeros narrow_to mag_of packed
narrowing_row_holds = refl

root_row_holds : root_row.given ≡ root_row.stated
unfolding root_row norm_of float floats of_int round size span climb units odd sum add sub neg mul div lt eq le count_trailing_zeros sum_to isqrt_by isqrt root_of sqrt_of
root_row_holds = refl

profile_row_holds : profile_row.given ≡ profile_row.stated
unfolding profile_row paper_of profile_of shape_of validity numbers_of rates_of settings_of same_bytes profile_schema rotation_algorithm ascii of_int round size span climb units odd sum add sub neg div lt eq le count_trailing_zeros
profile_row_holds = refl

pub samples_hold : Hold table
unfolding table
samples_hold = (split_row_holds, (no_direction_row_holds, (no_donor_row_holds, (nearest_row_holds, (mean_row_holds, (width_row_holds, (one_codeword_row_holds, (packing_row_holds, (padding_row_holds, (frame_row_holds, (norm_row_holds, (small_norm_row_holds, (once_row_holds, (converted_row_holds, (exact_row_holds, (narrowing_row_holds, (root_row_holds, (profile_row_holds, tt))))))))))))))))))
