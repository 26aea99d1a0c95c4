-- A codebook in the work, written codeword after codeword by a rotation. Assumes nothing.
use mathlib.Core.Path.{◌≡◌, sym, ap, ◌∙◌}
use Prim.Native.Nat.{ℕ, suc, ◌≤◌, ◌<◌, ◌-◌, ◌+◌, ◌*◌, ◌/◌, ◌%◌}
use native.Mathlib.Nat.{suc-mul, zero-add, mul-le-mul_right}
use native.Mathlib.Numerals.{add-one}
use native.Mathlib.Omega.{arith}
use mathlib.Core.List.{List}
use lib.Arith.{digits_div, digits_mod}
use lib.ListN.{length, get_or, take, drop}
use lib.Ieee.{Float, nan}
use borrow.Rule.Slice.PartMut.{put_mid, mid_len}
use Rattle.slices.specs.Lists.{patched}
use Rattle.slices.proofs.ListLaw.{length-patched}
use Rattle.slices.proofs.PartLaw.{part_patched, patched_then}
use Rattle.slices.proofs.TabulateLaw.{length-tabulate, get_d_tabulate}
use Rattle.rotation.specs.Apply.{applied_at, applied}

-- the value at place i of the rotated codebook
abbrev pub word_at : ℕ → List Float → List Float → ℕ → Float
word_at k matrix initial i = applied_at k matrix (take k (drop (i / k * k) initial)) (i % k)

pub word_length : (k at : ℕ) (xs : List Float) → at + k ≤ length xs → length (take (at + k - at) (drop at xs)) ≡ k
word_length k at xs h = let e : at + k - at ≡ k = omega arith in mid_len at (at + k) xs h ∙ e

-- a codeword lies within its codebook
pub word_inside : (c n k : ℕ) → c < n → c * k + k ≤ n * k
word_inside c n k h = let m : suc c * k ≤ n * k = mul-le-mul_right k h in omega (arith, m, suc-mul c k)

module _ (k c : ℕ) (matrix initial old work new : List Float) (has : c * k + k ≤ length initial) (fits : c * k + k ≤ length old)
    (first : work ≡ patched old 0 (c * k) (word_at k matrix initial))
    (is : new ≡ applied (length (take (c * k + k - c * k) (drop (c * k) initial))) matrix (take (c * k + k - c * k) (drop (c * k) initial))) where
  width : c * k + k - c * k ≡ k
  width = omega arith

  is_word : new ≡ applied k matrix (take k (drop (c * k) initial))
  is_word =
      is ∙ ap (λ (z : ℕ). applied z matrix (take (c * k + k - c * k) (drop (c * k) initial))) (word_length k (c * k) initial has) ∙ ap (λ (z : ℕ). applied k matrix (take z (drop (c * k) initial))) width

  value : (j : ℕ) → j < k → get_or new j nan ≡ word_at k matrix initial (c * k + j)
  value j l =
      ap (λ (z : List Float). get_or z j nan) is_word
      ∙ get_d_tabulate k (applied_at k matrix (take k (drop (c * k) initial))) j nan l
      ∙ ap (λ (z : ℕ). applied_at k matrix (take k (drop (z * k) initial)) j) (sym (digits_div c l))
      ∙ ap (applied_at k matrix (take k (drop ((c * k + j) / k * k) initial))) (sym (digits_mod c l))

  size : length work ≡ length old
  size = ap length first ∙ length-patched old 0 (c * k) (word_at k matrix initial)

  -- the next codeword, rotated
  pub one_rotated : put_mid (c * k) (c * k + k - c * k) work new ≡ patched old 0 ((c + 1) * k) (word_at k matrix initial)
  one_rotated =
      part_patched work new (c * k) _ k (λ j. word_at k matrix initial (c * k + j)) nan (sym width) (ap length is_word ∙ length-tabulate k (applied_at k matrix (take k (drop (c * k) initial))))
      (omega (arith, size)) value
      ∙ ap (λ (z : List Float). patched z (c * k) k (λ j. word_at k matrix initial (c * k + j))) first
      ∙ ap (λ (z : ℕ). patched (patched old 0 (c * k) (word_at k matrix initial)) z k (λ j. word_at k matrix initial (c * k + j))) (sym (zero-add (c * k)))
      ∙ patched_then old 0 (c * k) k (word_at k matrix initial)
      ∙ ap (λ (z : ℕ). patched old 0 z (word_at k matrix initial)) (sym (suc-mul c k) ∙ ap (λ (z : ℕ). z * k) (sym (add-one c)))
