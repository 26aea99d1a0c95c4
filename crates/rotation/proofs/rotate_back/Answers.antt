-- `rotation::rotate_back` meets its contract: at first no row is added. Assumes nothing.
use Rattle.std.proofs.Common.{length, ◌∙◌}
use lib.Ieee.{of_bits}
use Rattle.rotation.proofs.RowLaw.{no_rows}
use Rattle.rotation.proofs.rotate_back.Goals as goal

pub rotate_back_rows-passed-requires-clause-output_value : goal.rotate_back_rows-passed-requires-clause-output_value
unfolding of_bits
rotate_back_rows-passed-requires-clause-output_value c =
    c.fill.ensures.after (λ y h. h) ∙ no_rows (length c.args.input.now) c.args.matrix.now c.args.input.now c.args.output.now c.requires.output_len
