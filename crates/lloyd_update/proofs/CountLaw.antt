-- A count of the list's items is the count by their places. Assumes nothing.
use Rattle.std.proofs.Common.{◌≡◌, ℕ, zero, suc, ◌+◌, List, ◌∷◌, length, get_or, Bool, true, false, cond, eqb, arith, ◌∙◌, sym, refl, zero-add}
use Rattle.std.proofs.lemmas.List.Recursion.{is_count_by}
use Rattle.std.specs.Prelude.{count_by, ◌==◌}
use Rattle.lloyd_cells.specs.Cells.{count_to}

-- the first place counts for itself
count_front : (f : ℕ → ℕ) (c n : ℕ) → count_to f c (suc n) ≡ cond (eqb (f 0) c) 1 0 + count_to (λ i. f (suc i)) c n
unfolding count_to
count_front f c zero = omega arith
count_front f c (suc n) = let e = count_front f c n in omega arith

one_or_none : (b : Bool) (n : ℕ) → cond b 1 0 + n ≡ cond b (1 + n) n
one_or_none true n = refl
one_or_none false n = zero-add n

pub counted_items : (xs : List ℕ) → count_by (λ x. x == 0) xs ≡ count_to (λ i. get_or xs i 0) 0 (length xs)
unfolding count_to
counted_items xs =
    let count : List ℕ → ℕ = λ ys. count_to (λ i. get_or ys i 0) 0 (length ys) in
    sym (is_count_by count (λ x. x == 0) refl (λ y ys. count_front (λ i. get_or (y ∷ ys) i 0) 0 (length ys) ∙ one_or_none (eqb y 0) (count ys)) xs)
