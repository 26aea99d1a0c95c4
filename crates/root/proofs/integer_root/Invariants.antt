-- `root::integer_root`: the root and the rest of the digits passed, and that the root's digits are few.
use Rattle.std.proofs.Common.{◌<◌}
use Rattle.root.proofs.Steps.{State}
use Rattle.root.proofs.integer_root.Given as goal

abbrev pub invariant-loop : goal.invariant-loop
invariant-loop l = record { state : State l.sig l.digits l.root l.rest l.counter; few : l.root < 0x40000000000000 }
