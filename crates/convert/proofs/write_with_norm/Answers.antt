-- `convert::write_with_norm` meets its contract. Assumes nothing.
use mathlib.Core.Path.{ap, ◌∙◌}
use mathlib.Core.List.{List}
use Prim.Native.Nat.{ℕ}
use Rattle.error.specs.Numbers.{if_completed}
use Rattle.compact.specs.Frame.{frame_of, writing, parts_of}
use Rattle.convert.proofs.WriteLaw.{written, output_after}
use Rattle.convert.proofs.write_with_norm.Goals as goal

pub returns : goal.returns
returns c =
    let a = c.args in
    let f = a.frame in
    let parts = parts_of a.bytes.now f in
    let i = c.index_part-indices.ensures in (
      c.write_compact.ensures.0 ∙ ap (λ (l : List ℕ). writing a.norm.now l a.output.now) i ∙ written parts a.norm.now a.output.now c.requires,
      c.write_compact.ensures.1
          ∙ ap (λ (l : List ℕ). if_completed (writing a.norm.now l a.output.now) (frame_of f.width f.block_count a.norm.now l) a.output.now) i
          ∙ output_after parts a.norm.now a.output.now c.requires,
    )
