use Rattle.std.proofs.Common.{◌≡◌, ℕ, ◌<◌, ◌≤◌, get_or}
use Rattle.lloyd_repair.proofs.next_empty.Given as goal

-- no cell passed is empty
abbrev pub invariant-loop-c : goal.invariant-loop-c
invariant-loop-c l = (i : ℕ) → l.from ≤ i → i < l.c → get_or l.counts i 0 ≡ 0 → ⊥
