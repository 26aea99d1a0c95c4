use Rattle.std.proofs.Common.{◌≡◌}
use Rattle.lloyd_search.specs.Distance.{vector_of}
use Rattle.lloyd_search.specs.Choice.{passing_all}
use Rattle.lloyd_search.proofs.nearer_four.Given as goal

abbrev pub invariant-loop-m : goal.invariant-loop-m
invariant-loop-m l = l.best ≡ passing_all l.fn.best l.index (vector_of l.fn.four) l.m
