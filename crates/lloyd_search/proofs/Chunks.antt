-- A chunk of k values off what is left of a list: where it stands, and what is left after it. Assumes nothing.
use Rattle.std.proofs.Common.{◌≡◌, ℕ, ◌+◌, ◌-◌, ◌*◌, List, ◌++◌, length, take, drop, Float, refl, sym, ap, ◌∙◌, arith}
use Rattle.std.proofs.lemmas.List.{take_at, drop_at, drop-drop}
use Rattle.lloyd_search.specs.Distance.{vector_of, row_of}
use Rattle.lloyd_search.specs.Choice.{chosen}
use Rattle.lloyd_search.proofs.Parts.{next_row, part_chosen}

module _ (xs chunk rest : List Float) (s k : ℕ) (now : drop (s * k) xs ≡ chunk ++ rest) (long : length chunk ≡ k) where
  chunk_is : take (s * k + k - s * k) (drop (s * k) xs) ≡ chunk
  chunk_is = let e : s * k + k - s * k ≡ k = omega arith in rw (e, now) (take_at chunk rest k long)

  pub rest_is : rest ≡ drop ((s + 1) * k) xs
  rest_is = sym (ap (λ (l : List Float). drop k l) now ∙ drop_at chunk rest k long) ∙ drop-drop k (s * k) xs ∙ ap (λ (n : ℕ). drop n xs) (next_row s k (s * k) (s * k + k) refl refl)

  -- the choice for the chunk is that for the row
  pub chunk_chosen : (book : ℕ → ℕ → Float) (n : ℕ) → chosen k n book (vector_of chunk) ≡ chosen k n book (row_of k xs s)
  chunk_chosen book n = let e = part_chosen book xs n s k (s * k) refl in rw chunk_is at e
