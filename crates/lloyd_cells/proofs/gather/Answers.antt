-- `lloyd_cells::gather` meets its contract: the farthest distances stand
-- apart from the sums, so that the test is of the first one. Assumes nothing.
use Rattle.std.proofs.Common.{◌≡◌, ℕ, ◌+◌, ◌*◌, ◌<◌, List, length, get_or, set, sym, ap, ◌∙◌, arith, get_or-set_other}
use lib.Ieee.{Float, nan, binary64, add, lt}
use Rattle.slices.specs.Lists.{patched}
use Rattle.slices.proofs.ListLaw.{patched_above}
use Rattle.lloyd_search.specs.Distance.{vector_of}
use Rattle.lloyd_cells.specs.declared.Places.{Places}
use Rattle.lloyd_cells.specs.Work.{Fit}
use Rattle.lloyd_cells.proofs.FitLaw.{word_fits}
use Rattle.lloyd_cells.proofs.gather.Goals as goal

module _ (p : Places) (n cell : ℕ) (sample : List Float) (d : Float) (w v : List Float) (f : Fit p n (length sample) (length w)) (h : cell < n)
    (e : v ≡ patched w (p.words + cell * length sample) (length sample) (λ j. add binary64 (get_or w (p.words + cell * length sample + j) nan) (vector_of sample j))) where
  kept : get_or (set v (p.distortions + cell) (add binary64 (get_or v (p.distortions + cell) nan) d)) (p.farthest + cell) nan ≡ get_or w (p.farthest + cell) nan
  kept =
      let b = word_fits p n (length sample) (length w) cell f h in
      get_or-set_other v (p.distortions + cell) (p.farthest + cell) (add binary64 (get_or v (p.distortions + cell) nan) d) nan (λ q. omega arith)
      ∙ ap (λ (z : List Float). get_or z (p.farthest + cell) nan) e
      ∙ patched_above w (p.words + cell * length sample) (length sample) _ (p.farthest + cell) nan (omega arith)

pub returns-then-work-best-clause-far : goal.returns-then-work-best-clause-far
returns-then-work-best-clause-far c =
    let a = c.args in
    sym c.if-work-best.true ∙ ap (λ (x : Float). lt x a.d) (kept a.p (length a.counts.now) a.cell a.sample.now a.d a.work.now c.add_to.new.work c.requires.2 c.requires.0 c.add_to.ensures)

pub returns-else-work-best-clause-far : goal.returns-else-work-best-clause-far
returns-else-work-best-clause-far c =
    let a = c.args in
    sym c.if-work-best.false ∙ ap (λ (x : Float). lt x a.d) (kept a.p (length a.counts.now) a.cell a.sample.now a.d a.work.now c.add_to.new.work c.requires.2 c.requires.0 c.add_to.ensures)
