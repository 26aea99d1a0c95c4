-- `lloyd_cells::clear` meets its contract: two parts, each with one value at every place. Assumes nothing.
use Rattle.std.proofs.Common.{◌≡◌, ◌∙◌, ap, arith, refl, ◌+◌, ◌-◌, length, List, true, pos}
use lib.Ieee.{Float, fin, of_bits, neg}
use borrow.Rule.Slice.PartMut.{put_mid}
use Rattle.ieee.specs.Sum.{plus_zero}
use Rattle.slices.specs.Lists.{patched}
use Rattle.slices.proofs.ListLaw.{length-patched}
use Rattle.slices.proofs.PartLaw.{part_filled}
use Rattle.lloyd_cells.proofs.clear.Goals as goal

pub returns-clause-work : goal.returns-clause-work
unfolding of_bits neg
returns-clause-work c =
    let a = c.args in
    let p = a.p in
    let zeros : put_mid p.words (p.farthest - p.words) a.work.now c.fill.new.self ≡ patched a.work.now p.words (p.farthest - p.words) (λ i. plus_zero) =
    part_filled a.work.now c.fill.new.self p.words (p.farthest - p.words) (p.farthest - p.words) plus_zero refl (omega arith) (c.fill.ensures.after (λ y h. h)) in
    let size : length (put_mid p.words (p.farthest - p.words) a.work.now c.fill.new.self) ≡ length a.work.now = ap length zeros ∙ length-patched a.work.now p.words (p.farthest - p.words) (λ i. plus_zero) in
    part_filled (put_mid p.words (p.farthest - p.words) a.work.now c.fill.new.self) c.fill-2.new.self p.farthest (p.farthest + length a.counts.now - p.farthest) (length a.counts.now) (fin true 1 (pos 0)) (omega arith) (omega (arith, size)) (c.fill-2.ensures.after (λ y h. h))
    ∙ ap (λ (z : List Float). patched z p.farthest (length a.counts.now) (λ i. fin true 1 (pos 0))) zeros
