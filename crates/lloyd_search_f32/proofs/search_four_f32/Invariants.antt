use Rattle.std.proofs.Common.{◌≡◌}
use Rattle.lloyd_search.specs.Distance.{row_of}
use Rattle.lloyd_search_f32.specs.Four.{four_chosen}
use Rattle.lloyd_search_f32.proofs.search_four_f32.Given as goal

abbrev pub invariant-loop-i : goal.invariant-loop-i
invariant-loop-i l =
    let k = l.codewords.dim in l.best ≡ four_chosen k l.i (row_of k l.codewords.values.now) (row_of k l.blocks)
