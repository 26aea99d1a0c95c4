-- `lloyd_cells::choose_donor` meets its contract: the best so far is the donor among the cells passed. Assumes nothing.
use Rattle.std.proofs.Common.{◌≡◌, refl, sym, ◌∙◌, ℕ, ◌+◌, Bool, true, false, get_or, Option, Some, None, add-one}
use Rattle.std.specs.Prelude.{Float, MatchOption, not}
use Rattle.std.specs.Float.{nan}
use Rattle.std.specs.Float.Ieee.{lt}
use borrow.Author.Tests.{lt-ltb, le-ltb, not-true, not-false}
use Rattle.lloyd_cells.specs.Repair.{donor_to, or_larger}
use Rattle.lloyd_cells.proofs.choose_donor.Invariants.{with_distortion}
use Rattle.lloyd_cells.proofs.choose_donor.Goals as goal
use Rattle.lloyd_cells.proofs.choose_donor.Goals.{then-count-gt1+then-takes_over, else-count-gt1, else-count-gt1-via-then-count-gt1+else-takes_over, else-count-gt1-via-else-count-gt1}

-- whether the distortion x takes the place of the best one
abbrev Takes : Bool → Float → Option (ℕ × Float) → Type 0
Takes b x best = MatchOption best (b ≡ true) (λ y. b ≡ not (lt x y.1))

module _ (d : ℕ → Float) (i : ℕ) where
  taken : (f : Option ℕ) (b : Bool) → Takes b (d i) (with_distortion d f) → b ≡ true → Some (i, d i) ≡ with_distortion d (or_larger d i f)
  taken None b h t = refl
  taken (Some c) b h t = let n : lt (d i) (d c) ≡ false = not-true _ (sym h ∙ t) in rw n refl

  left : (f : Option ℕ) (b : Bool) → Takes b (d i) (with_distortion d f) → b ≡ false → with_distortion d f ≡ with_distortion d (or_larger d i f)
  left None b h t = cc
  left (Some c) b h t = let n : lt (d i) (d c) ≡ true = not-false _ (sym h ∙ t) in rw n refl

pub loop-c-preserved : goal.loop-c-preserved
unfolding donor_to
loop-c-preserved c =
    let a = c.args in
    let t : ℕ → ℕ = λ i. get_or a.counts.now i 0 in
    let d : ℕ → Float = λ i. get_or a.work.now (a.distortions + i) nan in
    let i = c.loop-c.c in
    let f = donor_to t d i in
    elim c.if-count-gt1.branch [
      | then-count-gt1+then-takes_over w ↦
          let h : Takes w.takes_over.result (d i) c.loop-c.best = w.takes_over.ensures in
          w.best-is ∙ rw (add-one i, lt-ltb 1 (t i) w.if-count-gt1.true) (taken d i f w.takes_over.result (rw c.loop-c.invariant at h) w.if-takes_over.true)
      | else-count-gt1 w ↦ elim w.else-count-gt1.branch [
        | else-count-gt1-via-then-count-gt1+else-takes_over v ↦
            let h : Takes v.takes_over.result (d i) c.loop-c.best = v.takes_over.ensures in
            w.best-is ∙ c.loop-c.invariant ∙ rw (add-one i, lt-ltb 1 (t i) v.if-count-gt1.true) (left d i f v.takes_over.result (rw c.loop-c.invariant at h) v.if-takes_over.false)
        | else-count-gt1-via-else-count-gt1 v ↦ w.best-is ∙ c.loop-c.invariant ∙ rw (add-one i, le-ltb 1 (t i) v.if-count-gt1.false) refl
      ]
    ]
