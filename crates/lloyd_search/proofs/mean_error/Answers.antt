-- `lloyd_search::mean_error` meets its contract: the sum is that of the samples passed. Assumes nothing.
use Rattle.std.proofs.Common.{length, add-one, length-append, sym, ◌∙◌}
use Rattle.ieee.specs.Sum.{sum_to}
use Rattle.lloyd_search.specs.Distance.{row_of}
use Rattle.lloyd_search.proofs.Chunks.{rest_is, chunk_chosen}
use Rattle.lloyd_search.proofs.mean_error.Goals as goal

pub loop-sample-preserved : goal.loop-sample-preserved
unfolding sum_to
loop-sample-preserved c =
    let book = c.args.codewords in
    let xs = c.args.samples.now in
    let l = c.loop-sample in
    let s = length l.yielded in
    let step = c.in-Some.ensures.steps in
    let long = step.1.1 ∙ l.invariant.size in
    let now = sym l.invariant.rest ∙ step.1.0 in
    let found = c.search-sum.ensures ∙ chunk_chosen xs c.in-Some.sample.now _ s book.dim now long (row_of book.dim book.values.now) book.count in
    record {
      size = step.0 ∙ l.invariant.size;
      rest = rw length-append (rest_is xs c.in-Some.sample.now _ s book.dim now long);
      sum = rw (length-append, add-one, l.invariant.sum, found);
    }
