use Rattle.std.proofs.Common.{ℕ, ◌<◌, ◌≤◌, get_or}
use Rattle.lloyd_update.proofs.AddLaw.{AddedTo}
use Rattle.lloyd_update.proofs.add_samples.Given as goal

-- of every call that was told this the first s samples are added up
abbrev pub invariant-loop-s : goal.invariant-loop-s
invariant-loop-s l =
    ((i : ℕ) → i < l.t.codebook_size → get_or l.counts i 0 ≤ l.s) × AddedTo l.t l.codebook l.fn.work l.fn.counts l.s l.work l.counts
