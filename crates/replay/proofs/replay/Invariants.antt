-- No tally counts more records than were read.
use Rattle.std.proofs.Common.{◌≤◌, All}
use Rattle.replay.specs.declared.Tally.{Tally}
use Rattle.replay.proofs.replay.Given as goal

abbrev pub invariant-loop : goal.invariant-loop
invariant-loop l = All (λ (t : Tally). (t.equal ≤ l.index) × (t.different ≤ l.index)) l.tallies
