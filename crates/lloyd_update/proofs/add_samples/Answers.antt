-- `lloyd_update::add_samples` meets its contract: of every call that
-- was told this, the samples passed are added up. Assumes nothing.
use Rattle.std.proofs.Common.{◌≡◌, length, sym, ◌∙◌, subst, arith}
use Rattle.lloyd_update.proofs.AddLaw.{AddedTo, counts_upto, added_nearer, added_farther}
use Rattle.lloyd_update.proofs.add_samples.Goals as goal
use Rattle.lloyd_update.proofs.add_samples.Goals.{else-gather, then-gather}

pub loop-s-preserved : goal.loop-s-preserved
loop-s-preserved c =
    let t = c.args.t in
    let l = c.loop-s in
    let p = c.places-p in
    let d = c.squared_distance-d in
    let g = c.gather in (
      λ j m. rw g.ensures.counts (counts_upto t c.requires l.s l.work l.counts c.loop-s-test.true l.auto.work l.auto.counts l.invariant.0 j m),
      elim c.if-gather.branch [
        | then-gather r ↦
            rw r.work-is
            (added_farther t c.requires l.s l.work l.counts c.loop-s-test.true l.auto.work l.auto.counts l.invariant.1 p.result p.ensures d.result d.ensures _ _ g.ensures.work g.ensures.counts
            r.nearest_u64_to_f64.result r.nearest_u64_to_f64.ensures (sym g.ensures.far ∙ r.if-gather.true))
        | else-gather r ↦
            rw r.work-is
            (added_nearer t c.requires l.s l.work l.counts c.loop-s-test.true l.auto.work l.auto.counts l.invariant.1 p.result p.ensures d.result d.ensures _ _ g.ensures.work g.ensures.counts
            (sym g.ensures.far ∙ r.if-gather.false))
      ],
    )

pub returns : goal.returns
returns c =
    let a = c.args in
    let l = c.loop-s in
    let all : l.s ≡ length a.t.assignments.now = omega arith in
    subst (λ z. AddedTo a.t a.codebook.now a.work.now a.counts.now z l.work l.counts) all l.invariant.1
