use mathlib.Core.Path.{◌≡◌}
use mathlib.Core.Bool.{not}
use lib.Ieee.Scale.{finite}
use Rattle.slices.specs.First.{first_where}
use Rattle.slices.specs.Lists.{patched}
use Rattle.decode.proofs.ValueLaw.{scaled}
use Rattle.decode.proofs.scale.Given as goal

abbrev pub invariant-loop-i : goal.invariant-loop-i
invariant-loop-i l = record {
  found : l.bad ≡ first_where (λ i. not (finite (scaled l.norm l.initial.values i))) l.i;
  written : l.values ≡ patched l.initial.values 0 l.i (scaled l.norm l.initial.values);
}
