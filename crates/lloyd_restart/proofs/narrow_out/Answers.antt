-- `lloyd_restart::narrow_out` meets its contract. Assumes nothing.
use Rattle.std.proofs.Common.{◌≡◌, ℕ, length, ◌∙◌, ap, arith}
use Rattle.std.specs.Float.{nan}
use Rattle.slices.specs.Lists.{patched}
use Rattle.slices.proofs.ListLaw.{patched_all}
use Rattle.lloyd_restart.proofs.narrow_out.Invariants.{narrow_at}
use Rattle.lloyd_restart.proofs.narrow_out.Goals as goal

pub returns : goal.returns
returns c =
    let a = c.args in
    let e : c.loop-i.i ≡ length a.codewords.now = omega arith in
    c.loop-i.invariant ∙ ap (λ (n : ℕ). patched a.codewords.now 0 n (narrow_at a.work.now a.from)) e ∙ patched_all a.codewords.now (narrow_at a.work.now a.from) nan
