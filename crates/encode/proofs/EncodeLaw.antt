-- The encoder's work step by step, and the indices of its blocks. Assumes nothing.
use mathlib.Core.Path.{◌≡◌, ap, ◌∙◌}
use Prim.Native.Nat.{ℕ, ◌^◌, ◌≤◌, ◌<◌}
use native.Mathlib.Nat.{lt_of_lt_of_le}
use mathlib.Core.Bool.{Bool, cond}
use mathlib.Core.List.{List}
use lib.ListN.{length, get_or}
use lib.Ieee.{Float, nan, binary32}
use Rattle.slices.specs.Lists.{tabulate}
use Rattle.slices.proofs.TabulateLaw.{length-tabulate, get_d_tabulate}
use Rattle.narrow.specs.Pack.{narrow_to}
use Rattle.rotation.specs.Apply.{applied}
use Rattle.lloyd_search.specs.declared.Choice.{Choice}
use Rattle.lloyd_search.specs.Distance.{row_of, distance}
use Rattle.lloyd_search.specs.Choice.{chosen, mark_of}
use Rattle.lloyd_search.proofs.NearestLaw.{index_below}
use Rattle.lloyd_search.proofs.TieLaw.{mark_means}
use Rattle.encode.specs.Encode.{normalized_at, searched_at, searched, index_for, indices_for, tied_for}

module _ (count k n : ℕ) (codewords xs : List Float) where
  pub length_indices : length (indices_for count k n codewords xs) ≡ count
  length_indices = length-tabulate count (index_for k n codewords xs)

  pub get_d_indices : (i : ℕ) → i < count → get_or (indices_for count k n codewords xs) i 0 ≡ index_for k n codewords xs i
  get_d_indices i l = get_d_tabulate count (index_for k n codewords xs) i 0 l

  pub index_fits : (w : ℕ) → 1 ≤ n → n ≤ 2 ^ w → (i : ℕ) → i < count → get_or (indices_for count k n codewords xs) i 0 < 2 ^ w
  index_fits w some fits i l = rw (get_d_indices i l) (lt_of_lt_of_le (index_below (λ m. distance k (row_of k xs i) (row_of k codewords m)) n some) fits)

-- the input over its norm in x, rotated to y, rounded to z
pub seen : (d : ℕ) (matrix input : List Float) (norm : Float) (n m l : ℕ) (x y z : List Float) → n ≡ d → m ≡ d → l ≡ d
    → x ≡ tabulate n (normalized_at input norm) → y ≡ applied m matrix x → z ≡ tabulate l (λ i. narrow_to binary32 (get_or y i nan)) → z ≡ searched d matrix input norm
unfolding searched_at
seen d matrix input norm n m l x y z a b e f r s = rw (s, r, f, a, b, e)

-- what the choice for block i adds to the number of tied blocks
pub mark_counted : (k n i : ℕ) (codewords xs : List Float) (r : Choice) → r ≡ chosen k n (row_of k codewords) (row_of k xs i) → ◌≡◌ {A = ℕ} (cond (mark_of r) 1 0) (cond (tied_for k n codewords xs i) 1 0)
mark_counted k n i codewords xs r e =
    let one : Bool → ℕ = λ b. cond b 1 0 in
    ap (λ (c : Choice). one (mark_of c)) e ∙ ap one (mark_means (λ m. distance k (row_of k xs i) (row_of k codewords m)) n)
