-- Work that was cleared holds the cells of no samples. Assumes nothing.
use mathlib.Core.Path.{◌≡◌, ap, ◌∙◌}
use Prim.Native.Nat.{ℕ, ◌+◌, ◌-◌, ◌*◌, ◌≤◌, ◌<◌}
use native.Mathlib.Omega.{arith}
use mathlib.Core.Bool.{true}
use mathlib.Core.List.{List}
use lib.Arith.{digits_lt}
use lib.IntN.{pos}
use lib.ListN.{length, get_or}
use lib.Ieee.{Float, nan, fin}
use Rattle.ieee.specs.Sum.{plus_zero}
use Rattle.slices.specs.Lists.{patched}
use Rattle.slices.proofs.ListLaw.{patched_below, patched_inside, length-patched}
use Rattle.lloyd_cells.specs.declared.Places.{Places}
use Rattle.lloyd_cells.specs.Work.{cleared, Fit, Gathered}
use Rattle.lloyd_cells.proofs.WorkLaw.{gathered_start}

module _ (p : Places) (n k : ℕ) (w v : List Float) (fit : Fit p n k (length w)) (is : v ≡ cleared p n w) where
  abbrev zeroed : List Float
  zeroed = patched w p.words (p.farthest - p.words) (λ i. plus_zero)

  zeroed_size : length zeroed ≡ length w
  zeroed_size = length-patched w p.words (p.farthest - p.words) (λ i. plus_zero)

  pub cleared_size : length v ≡ length w
  cleared_size = ap length is ∙ length-patched zeroed p.farthest n (λ i. fin true 1 (pos 0)) ∙ zeroed_size

  before : (i : ℕ) → i < p.farthest → get_or v i nan ≡ get_or zeroed i nan
  before i l = ap (λ (z : List Float). get_or z i nan) is ∙ patched_below zeroed p.farthest n (λ j. fin true 1 (pos 0)) i nan l

  pub cleared_below : (i : ℕ) → i < p.words → get_or v i nan ≡ get_or w i nan
  cleared_below i l = before i (omega arith) ∙ patched_below w p.words (p.farthest - p.words) (λ j. plus_zero) i nan l

  pub cleared_zero : (i : ℕ) → p.words ≤ i → i < p.farthest → get_or v i nan ≡ plus_zero
  cleared_zero i l m =
      let e : i ≡ p.words + (i - p.words) = omega arith in
      before i m ∙ ap (λ (z : ℕ). get_or zeroed z nan) e ∙ patched_inside w p.words (p.farthest - p.words) (λ j. plus_zero) (i - p.words) nan (omega arith) (omega arith)

  least : (i : ℕ) → i < n → get_or v (p.farthest + i) nan ≡ fin true 1 (pos 0)
  least i l =
      let s = zeroed_size in
      ap (λ (z : List Float). get_or z (p.farthest + i) nan) is ∙ patched_inside zeroed p.farthest n (λ j. fin true 1 (pos 0)) i nan (omega arith) l

  pub cleared_gathered : (a : ℕ → ℕ) (x : ℕ → ℕ → Float) (d : ℕ → Float) (counts : List ℕ) → ((c : ℕ) → c < n → get_or counts c 0 ≡ 0) → Gathered p n k a x d 0 v counts
  cleared_gathered a x d counts none =
      gathered_start p n k a x d v counts
      (λ i j l m. let r = digits_lt l m in cleared_zero (p.words + (i * k + j)) (omega arith) (omega arith))
      (λ i l. cleared_zero (p.distortions + i) (omega arith) (omega arith))
      least
      none
