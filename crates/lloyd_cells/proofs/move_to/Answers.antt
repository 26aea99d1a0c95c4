-- `lloyd_cells::move_to` meets its contract: the donor's codeword is apart from the places written. Assumes nothing.
use Rattle.std.proofs.Common.{◌⊎◌, inl, inr, ℕ, ◌+◌, ◌<◌, ◌≤◌, length, arith}
use mathlib.Core.Logic.{⊎_elim}
use Rattle.std.specs.Float.{nan}
use Rattle.slices.proofs.ListLaw.{patched_more, patched-apart}
use Rattle.lloyd_cells.proofs.move_to.Invariants.{moved_at}
use Rattle.lloyd_cells.proofs.move_to.Goals as goal

-- of two parts that lie apart, a place of the one is outside of the other
outside : (from to k j : ℕ) → j < k → (to + k ≤ from) ⊎ (from + k ≤ to) → (from + j < to) ⊎ (to + j ≤ from + j)
outside from to k j h o = ⊎_elim (λ w. inr (omega arith)) (λ w. inl (omega arith)) o

pub loop-j-preserved : goal.loop-j-preserved
loop-j-preserved c =
    let a = c.args in
    let j = c.loop-j.j in
    let same = patched-apart a.work.now c.loop-j.work a.empty j (a.donor + j) (moved_at a.work.now a.donor a.far.now a.norm) nan c.loop-j.invariant (outside a.donor a.empty (length a.far.now) j c.loop-j-test.true c.requires.2) in
    grind (arith, patched_more, same)
