use Rattle.std.proofs.Common.{ℕ, ◌*◌, Float}
use Rattle.lloyd_alone.specs.Watch.{Measures, Watches}
use Rattle.lloyd_alone.proofs.watch_all.Given as goal

abbrev pub invariant-loop-turn : goal.invariant-loop-turn
invariant-loop-turn g l = record {
  passed : (k : ℕ) → (book : ℕ → ℕ → Float) → (x : ℕ → Float) → Measures (goal.F-post g l.four) k l.count book x → Watches k l.turn book x l.before;
  given : goal.F-post g l.four (l.turn * 4) l.at_hand;
}
