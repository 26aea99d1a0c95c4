use Rattle.around.specs.Around.{query, within_square}
use Rattle.around.proofs.ListedLaw.{Taking}
use Rattle.around.proofs.gather.Given as goal

abbrev pub invariant-loop-i : goal.invariant-loop-i
invariant-loop-i l = Taking (within_square (query l.codewords.count l.codewords.dim l.codewords.values.now l.block) l.square) l.i l.count l.initial.numbers l.numbers
