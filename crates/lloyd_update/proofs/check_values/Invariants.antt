use Rattle.std.proofs.Common.{◌≡◌, ℕ, ◌<◌, false, leb, get_or}
use Rattle.lloyd_update.proofs.check_values.Given as goal

abbrev pub invariant-loop-cell : goal.invariant-loop-cell
invariant-loop-cell l = (j : ℕ) → j < l.cell-index → leb l.n (get_or l.t.assignments.now j 0) ≡ false
