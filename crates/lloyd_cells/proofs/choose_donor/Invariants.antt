use Rattle.std.proofs.Common.{◌≡◌, ℕ, ◌+◌, get_or, Option, Some, None}
use Rattle.std.specs.Prelude.{Float}
use Rattle.std.specs.Float.{nan}
use Rattle.lloyd_cells.specs.Repair.{donor_to}
use Rattle.lloyd_cells.proofs.choose_donor.Given as goal

-- the donor so far, with its distortion
abbrev pub with_distortion : (ℕ → Float) → Option ℕ → Option (ℕ × Float)
with_distortion d None = None
with_distortion d (Some b) = Some (b, d b)

abbrev pub invariant-loop-c : goal.invariant-loop-c
invariant-loop-c l =
    let d : ℕ → Float = λ i. get_or l.work (l.distortions + i) nan in
    l.best ≡ with_distortion d (donor_to (λ i. get_or l.counts i 0) d l.c)
