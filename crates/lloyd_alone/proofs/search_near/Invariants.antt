use Rattle.lloyd_search.specs.Distance.{vector_of, row_of}
use Rattle.lloyd_alone.specs.Watch.{Sees}
use Rattle.lloyd_alone.proofs.search_near.Given as goal

abbrev pub invariant-loop-i : goal.invariant-loop-i
invariant-loop-i l =
    let k = l.codewords.dim in Sees k l.i (row_of k l.codewords.values.now) (vector_of l.block) (record { best = l.best; near = l.near })
