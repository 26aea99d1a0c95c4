-- The numbers that come back with 6, 7, 8, 9, 18 and 20, by name: profile fields,
-- lent slices, and the sites of frame, packing and report. Definitions only.
use Rattle.std.specs.Prelude.{ℕ}
use Rattle.error.specs.declared.names.Slice.{Slice}
use Rattle.error.specs.declared.names.Slice.TheVariants as slice
use Rattle.error.specs.declared.names.Field.{Field}
use Rattle.error.specs.declared.names.Field.TheVariants as field
use Rattle.error.specs.declared.names.FrameSite.{FrameSite}
use Rattle.error.specs.declared.names.FrameSite.TheVariants as frame
use Rattle.error.specs.declared.names.PackingSite.{PackingSite}
use Rattle.error.specs.declared.names.PackingSite.TheVariants as packing
use Rattle.error.specs.declared.names.ReportSite.{ReportSite}
use Rattle.error.specs.declared.names.ReportSite.TheVariants as report

-- ---- slices. The codebook of update called alone is the initial one.
abbrev pub initial_slice : ℕ
initial_slice = 1

abbrev pub samples_slice : ℕ
samples_slice = 2

abbrev pub matrix_slice : ℕ
matrix_slice = 3

abbrev pub codewords_slice : ℕ
codewords_slice = 4

abbrev pub input_slice : ℕ
input_slice = 5

abbrev pub output_slice : ℕ
output_slice = 6

abbrev pub float_work_slice : ℕ
float_work_slice = 7

abbrev pub integer_work_slice : ℕ
integer_work_slice = 8

abbrev pub event_slice : ℕ
event_slice = 9

abbrev pub assignment_slice : ℕ
assignment_slice = 10

abbrev pub norm_slice : ℕ
norm_slice = 11

abbrev pub right_slice : ℕ
right_slice = 12

-- ---- profile fields
abbrev pub schema_field : ℕ
schema_field = 1

abbrev pub norm_format_field : ℕ
norm_format_field = 2

abbrev pub source_mode_field : ℕ
source_mode_field = 3

abbrev pub rotation_algorithm_field : ℕ
rotation_algorithm_field = 4

abbrev pub wire_bits_field : ℕ
wire_bits_field = 5

abbrev pub paper_rate_field : ℕ
paper_rate_field = 6

abbrev pub wire_rate_field : ℕ
wire_rate_field = 7

abbrev pub method_pair_field : ℕ
method_pair_field = 8

abbrev pub restarts_field : ℕ
restarts_field = 9

abbrev pub iterations_field : ℕ
iterations_field = 10

abbrev pub samples_field : ℕ
samples_field = 11

-- ---- sites of a compact frame
abbrev pub short_frame_site : ℕ
short_frame_site = 1

abbrev pub frame_magic_site : ℕ
frame_magic_site = 2

abbrev pub frame_version_site : ℕ
frame_version_site = 3

abbrev pub norm_cut_off_site : ℕ
norm_cut_off_site = 4

abbrev pub index_length_site : ℕ
index_length_site = 5

-- ---- sites of packed indices
abbrev pub packed_width_site : ℕ
packed_width_site = 1

abbrev pub packed_length_site : ℕ
packed_length_site = 2

abbrev pub padding_bit_site : ℕ
padding_bit_site = 3

-- ---- sites of a report
abbrev pub settings_site : ℕ
settings_site = 1

abbrev pub mse_site : ℕ
mse_site = 2

abbrev pub repair_count_site : ℕ
repair_count_site = 3

-- ---- the numbers of the program's own names
abbrev pub slice_number : Slice → ℕ
slice_number slice.Initial = initial_slice
slice_number slice.Samples = samples_slice
slice_number slice.Matrix = matrix_slice
slice_number slice.Codewords = codewords_slice
slice_number slice.Input = input_slice
slice_number slice.Output = output_slice
slice_number slice.FloatWork = float_work_slice
slice_number slice.IntegerWork = integer_work_slice
slice_number slice.Events = event_slice
slice_number slice.Assignments = assignment_slice
slice_number slice.Norm = norm_slice
slice_number slice.Right = right_slice

abbrev pub field_number : Field → ℕ
field_number field.Schema = schema_field
field_number field.NormFormat = norm_format_field
field_number field.SourceMode = source_mode_field
field_number field.RotationAlgorithm = rotation_algorithm_field
field_number field.WireBits = wire_bits_field
field_number field.PaperRate = paper_rate_field
field_number field.WireRate = wire_rate_field
field_number field.MethodPair = method_pair_field
field_number field.Restarts = restarts_field
field_number field.Iterations = iterations_field
field_number field.Samples = samples_field

abbrev pub frame_site_number : FrameSite → ℕ
frame_site_number frame.Short = short_frame_site
frame_site_number frame.Magic = frame_magic_site
frame_site_number frame.Version = frame_version_site
frame_site_number frame.NormCutOff = norm_cut_off_site
frame_site_number frame.IndexLength = index_length_site

abbrev pub packing_site_number : PackingSite → ℕ
packing_site_number packing.Width = packed_width_site
packing_site_number packing.Length = packed_length_site
packing_site_number packing.PaddingBit = padding_bit_site

abbrev pub report_site_number : ReportSite → ℕ
report_site_number report.Settings = settings_site
report_site_number report.Mse = mse_site
report_site_number report.RepairCount = repair_count_site
