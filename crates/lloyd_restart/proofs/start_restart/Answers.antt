-- `lloyd_restart::start_restart` meets its contract: the matrix of the restart is a part of those lent. Assumes nothing.
use mathlib.Core.Path.{◌≡◌, ap, ◌∙◌}
use Prim.Native.Nat.{ℕ, ◌-◌, ◌+◌, ◌*◌}
use native.Mathlib.Omega.{arith}
use lib.ListN.{take, drop}
use Rattle.slices.specs.Lists.{patched}
use Rattle.lloyd_restart.proofs.PartLaw.{word_at}
use Rattle.lloyd_restart.proofs.start_restart.Goals as goal

pub returns : goal.returns
returns c =
    let a = c.args in
    let m = a.k * a.k in
    let from = (a.restart - 1) * m in
    let e : from + m - from ≡ m = omega arith in
    c.rotate_words.ensures ∙ ap (λ (z : ℕ). patched a.work.now 0 (a.n * a.k) (word_at a.k (take z (drop from a.matrices.now)) a.initial.now)) e
