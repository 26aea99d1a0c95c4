-- `lloyd_update::copy_words` meets its contract: the places passed hold the work's values. Assumes nothing.
use Rattle.std.proofs.Common.{◌≡◌, ℕ, ◌≤◌, List, length, take, sym, ap, ◌∙◌, arith, length-take-le, get_or-take}
use lib.Ieee.{Float, nan}
use Rattle.slices.specs.Lists.{tabulate, patched}
use Rattle.slices.proofs.ListLaw.{patched_all}
use Rattle.slices.proofs.TabulateLaw.{tabulate_is}
use Rattle.lloyd_update.proofs.copy_words.Invariants.{value_at}
use Rattle.lloyd_update.proofs.copy_words.Goals as goal

copied : (codebook work : List Float) → length codebook ≤ length work → patched codebook 0 (length codebook) (value_at work) ≡ take (length codebook) work
copied codebook work h =
    let n = length codebook in
    let e = length-take-le n work h in
    patched_all codebook (value_at work) nan
    ∙ ap (λ (m : ℕ). tabulate m (value_at work)) (sym e)
    ∙ sym (tabulate_is nan (take n work) (value_at work) (λ i l. get_or-take n work i nan (omega (arith, e, l))))

pub returns : goal.returns
returns c =
    let xs = c.args.codebook.now in
    let ys = c.args.work.now in
    let e : c.loop-i.i ≡ length xs = omega arith in
    c.loop-i.invariant ∙ ap (λ (n : ℕ). patched xs 0 n (value_at ys)) e ∙ copied xs ys c.requires
