-- `compact::write_compact` meets its contract: the three writes leave the frame. Assumes nothing.
use mathlib.Core.Path.{◌≡◌, sym, ap, ◌∙◌}
use mathlib.Core.List.{List, ◌++◌, append-nil}
use Prim.Native.Nat.{ℕ, ◌+◌, ◌≤◌}
use native.Mathlib.Omega.{arith}
use lib.ListN.{length, take, drop, length-append, length-drop, drop_of_length-le}
use lib.Seq.{take_at}
use borrow.Author.Tests.{le-ltb, eq-eqb}
use Rattle.error.specs.Numbers.{completed}
use Rattle.compact.specs.Frame.{header, frame_of, writing}
use Rattle.compact.proofs.FrameLaws.{length-header}
use Rattle.compact.proofs.write_compact.Goals as goal

output_right : (norm indices output : List ℕ) → length norm ≤ 65535 → length output ≡ 11 + length norm + length indices
    → writing norm indices output ≡ completed tt
unfolding writing
output_right norm indices output h l = rw (le-ltb 65535 (length norm) h, eq-eqb (length output) (11 + length norm + length indices) l)

-- the three writes, one after the other, leave the frame
assembled : (width count : ℕ) (norm indices output o₁ o₂ o₃ : List ℕ) → length output ≡ 11 + length norm + length indices
    → o₁ ≡ header width count (length norm) ++ drop 11 output
    → o₂ ≡ take 11 o₁ ++ norm ++ drop (11 + length norm) o₁
    → o₃ ≡ take (11 + length norm) o₂ ++ indices ++ drop (11 + length norm + length indices) o₂
    → o₃ ≡ frame_of width count norm indices
unfolding frame_of
assembled width count norm indices output o₁ o₂ o₃ l e₁ e₂ e₃ =
    let head : List ℕ = header width count (length norm) in
    let l₁ : length o₁ ≡ length output = rw (e₁, length-append, length-header, length-drop) (omega arith) in
    let f₂ : o₂ ≡ head ++ norm ++ drop (11 + length norm) o₁ =
    e₂ ∙ ap (λ (t : List ℕ). t ++ norm ++ drop (11 + length norm) o₁) (ap (λ (t : List ℕ). take 11 t) e₁ ∙ take_at head (drop 11 output) 11 (length-header width count (length norm))) in
    let lh : length (head ++ norm) ≡ 11 + length norm = rw (length-append, length-header) in
    let l₂ : length o₂ ≡ length output = rw (f₂, length-append, lh, length-drop) (omega arith) in
    e₃
    ∙ ap (λ (t : List ℕ). t ++ indices ++ drop (11 + length norm + length indices) o₂) (ap (λ (t : List ℕ). take (11 + length norm) t) f₂ ∙ take_at (head ++ norm) (drop (11 + length norm) o₁) (11 + length norm) lh)
    ∙ ap (λ (t : List ℕ). head ++ norm ++ indices ++ t) (drop_of_length-le o₂ {i = 11 + length norm + length indices} (omega arith))
    ∙ append-nil (head ++ norm ++ indices)

pub returns : goal.returns
returns c =
    let norm = c.args.norm.now in
    let indices = c.args.indices.now in
    let output = c.args.output.now in
    let short : c.in-Ok.norm_len ≡ length norm = omega (arith, c.in-Ok.ensures) in
    let e = output_right norm indices output (omega arith) c.if-output-start.false in (
      sym e,
      rw e
          (assembled c.args.width c.args.count norm indices output c.write_header.new.output c.write_part.new.output c.write_part-2.new.output
          c.if-output-start.false (rw short at c.write_header.ensures) c.write_part.ensures c.write_part-2.ensures),
    )
