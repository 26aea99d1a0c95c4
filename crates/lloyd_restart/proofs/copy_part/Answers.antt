-- `lloyd_restart::copy_part` meets its contract: what is read lies apart from what is written. Assumes nothing.
use mathlib.Core.Path.{refl}
use mathlib.Core.Logic.{◌⊎◌, inl, inr, ⊎_elim}
use Prim.Native.Nat.{ℕ, ◌≤◌, ◌<◌, ◌+◌}
use native.Mathlib.Omega.{arith}
use lib.ListN.{get_or}
use lib.Ieee.{Float, nan}
use Rattle.slices.proofs.ListLaw.{patched_more, patched-apart}
use Rattle.lloyd_restart.proofs.copy_part.Goals as goal

-- of two parts that lie apart, a place of the one is outside of the other
outside : (from to k j : ℕ) → j < k → (to + k ≤ from) ⊎ (from + k ≤ to) → (from + j < to) ⊎ (to + j ≤ from + j)
outside from to k j h o = ⊎_elim (λ w. inr (omega arith)) (λ w. inl (omega arith)) o

pub loop-i-preserved : goal.loop-i-preserved
loop-i-preserved c =
    let a = c.args in
    let l = c.loop-i in
    let f : ℕ → Float = λ j. get_or a.work.now (a.from + j) nan in
    let same = patched-apart a.work.now l.work a.to l.i (a.from + l.i) f nan l.invariant (outside a.from a.to a.count l.i c.loop-i-test.true c.requires.2) in
    patched_more a.work.now l.work a.to l.i (a.to + l.i) f (get_or l.work (a.from + l.i) nan) l.invariant refl same
