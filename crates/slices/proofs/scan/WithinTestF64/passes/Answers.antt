-- The size that is compared is the larger of x and -x. Assumes nothing.
use mathlib.Core.Path.{sym, ap, ◌∙◌}
use mathlib.Core.Bool.{Bool, cond}
use lib.Ieee.{le, neg}
use Rattle.slices.proofs.SizeLaw.{size_within}
use Rattle.slices.proofs.scan.WithinTestF64.passes.Goals as goal
use Rattle.slices.proofs.scan.WithinTestF64.passes.Goals.{then-x, else-x}

pub returns : goal.returns
returns c =
    let a = c.args in
    let chosen : Bool → Bool = λ b. le (cond b a.x (neg a.x)) a.self.limit in
    elim c.if-x.branch [
      | then-x w ↦ rw w.size-is (ap chosen (sym w.if-x.true) ∙ size_within a.self.limit a.x)
      | else-x w ↦ rw w.size-is (ap chosen (sym w.if-x.false) ∙ size_within a.self.limit a.x)
    ]
