-- Several rows at a time: their sums, and the outputs of the rows passed. Assumes nothing.
use mathlib.Core.Path.{◌≡◌, refl, sym, ap, ◌∙◌}
use Prim.Native.Nat.{ℕ, zero, suc, ◌+◌, ◌*◌, ◌<◌, ◌-◌}
use native.Mathlib.Nat.{zero-add, suc-add}
use native.Mathlib.Numerals.{add-one}
use native.Mathlib.Omega.{arith}
use mathlib.Core.List.{List, ◌∷◌, ◌++◌, append_assoc}
use lib.ListN.{length, get_or, set, take, drop, replicate}
use Rattle.std.proofs.lemmas.List.{take_at, drop_at, drop-drop}
use lib.Ieee.{Float, nan, binary64, add, mul}
use borrow.Rule.Slice.PartMut.{put_mid, Post-is}
use Rattle.ieee.specs.Sum.{sum_to, plus_zero}
use Rattle.slices.specs.Lists.{tabulate, filled}
use Rattle.slices.proofs.TabulateLaw.{length-tabulate, get_d_tabulate, tabulate_same, tabulate_ext, filled_with, get_d_filled}
use Rattle.rotation.specs.declared.product.Product.{Product}
use Rattle.rotation.specs.Apply.{column_sum}
use Rattle.rotation.specs.Rows.{dim, row_part, row_sums}

module _ {A : Type 0} where
  tabulate_append : (n m : ℕ) (f : ℕ → A) → tabulate n f ++ tabulate m (λ i. f (n + i)) ≡ tabulate (n + m) f
  unfolding tabulate
  tabulate_append zero m f = rw (zero-add m) (tabulate_ext m _ _ (λ i h. ap f (zero-add i)))
  tabulate_append (suc n) m f =
      rw (suc-add n m)
      (ap (λ (l : List A). f 0 ∷ l)
      (ap (λ (l : List A). tabulate n (λ i. f (suc i)) ++ l) (tabulate_ext m _ _ (λ i h. ap f (suc-add n i))) ∙ tabulate_append n m (λ i. f (suc i))))

  -- m more elements of a list that is filled to n, put in at once
  pub filled_more : (n m : ℕ) (f : ℕ → A) (l w k : List A) → w ≡ filled n f l → k ≡ tabulate m (λ i. f (n + i)) → put_mid n (n + m - n) w k ≡ filled (n + m) f l
  filled_more n m f l w k e v =
      let front : take n w ≡ tabulate n f = rw e (take_at (tabulate n f) (drop n l) n (length-tabulate n f)) in
      let back : drop n w ≡ drop n l = rw e (drop_at (tabulate n f) (drop n l) n (length-tabulate n f)) in
      let after : drop (n + m) w ≡ drop (n + m) l = sym (drop-drop m n w) ∙ ap (drop m) back ∙ drop-drop m n l in
      rw (Post-is n (n + m) w (omega arith), front, after, v, ← append_assoc (tabulate n f) (tabulate m (λ i. f (n + i))) (drop (n + m) l), tabulate_append n m f)

module _ (p : Product) where
  -- one more product of the i-th row, where the rows before it have theirs
  pub one_product : (count row n i : ℕ) (l sums : List Float) → i < count → l ≡ row_sums count p row n → sums ≡ filled i (row_part p row (n + 1)) l
      → set sums i (add binary64 (get_or sums i nan) (mul binary64 (get_or p.matrix.now ((row + i) * dim p + n) nan) (get_or p.input.now n nan)))
      ≡ filled (i + 1) (row_part p row (n + 1)) l
  unfolding sum_to
  one_product count row n i l sums h e s =
      let b : i < length l = rw (e, length-tabulate count (row_part p row n)) h in
      let q : get_or sums i nan ≡ row_part p row n i
      = rw (s, get_d_filled i (row_part p row (n + 1)) l nan b, e) (get_d_tabulate count (row_part p row n) i nan h) in
      rw (q, s) (filled_with i (i + 1) (row_part p row (n + 1)) l _ b refl (rw add-one refl))

  -- the first sum of each row
  pub no_products : (count row : ℕ) → replicate count plus_zero ≡ row_sums count p row 0
  unfolding sum_to
  no_products count row = sym (tabulate_same count plus_zero)

-- and of each column
pub no_rows : (d : ℕ) (matrix input l : List Float) → length l ≡ d → replicate (length l) plus_zero ≡ tabulate d (λ (c : ℕ). column_sum d matrix input c 0)
unfolding sum_to
no_rows d matrix input l e = rw e (sym (tabulate_same d plus_zero))
