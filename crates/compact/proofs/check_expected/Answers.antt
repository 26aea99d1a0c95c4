-- `compact::check_expected` meets its contract: the indices are as many bytes as their count and width ask. Assumes nothing.
use mathlib.Core.Path.{ap, ◌∙◌}
use lib.ListN.{length}
use Rattle.compact.specs.Frame.{parts_of}
use Rattle.compact.proofs.FrameLaws.{length_indices}
use Rattle.compact.proofs.check_expected.Goals as goal

pub padding-requires : goal.padding-requires
padding-requires c = ap length c.index_part.ensures ∙ length_indices c.args.bytes.now (parts_of c.args.bytes.now c.args.frame) c.requires
