-- `pack_indices` meets its contract: what the scan passes fits its width. Assumes nothing.
use Rattle.bitpack.proofs.Checks.{all_fit}
use Rattle.bitpack.proofs.pack_indices.Goals as goal

pub write_indices-requires-clause-fits : goal.write_indices-requires-clause-fits
write_indices-requires-clause-fits c = all_fit c.args.indices.now c.args.width _ _ c.in_ok-len.ensures c.if-output-len.false c.in_default.ensures
