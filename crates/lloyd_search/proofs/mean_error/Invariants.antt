use Rattle.std.proofs.Common.{◌≡◌, ◌*◌, length, drop}
use Rattle.ieee.specs.Sum.{sum_to}
use Rattle.lloyd_search.specs.Distance.{row_of}
use Rattle.lloyd_search.specs.Nearest.{nearest}
use Rattle.lloyd_search.proofs.mean_error.Given as goal

abbrev pub invariant-loop-sample : goal.invariant-loop-sample
invariant-loop-sample l =
    let k = l.codewords.dim in
    record {
      size : l.sample-iterator.size ≡ k;
      rest : l.sample-iterator.rest.now ≡ drop (length l.yielded * k) l.samples;
      sum : l.sum ≡ sum_to (λ i. (nearest k l.codewords.count (row_of k l.codewords.values.now) (row_of k l.samples i)).distance) (length l.yielded);
    }
