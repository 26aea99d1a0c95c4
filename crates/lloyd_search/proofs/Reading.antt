-- What is read from a list of values that widen, and one more coordinate of a sum. Assumes nothing.
use Rattle.std.proofs.Common.{◌≡◌, refl, sym, ℕ, ◌+◌, ◌*◌, ◌<◌, Bool, T, List, [], ◌∷◌, length, get_or, Float, subst, ap, ◌∙◌, add-one}
use Rattle.std.specs.Float.{nan, binary64}
use Rattle.std.specs.Float.Ieee.{add, sub, mul}
use Rattle.std.proofs.lemmas.List.{get_or_read}
use Rattle.ieee.specs.Sum.{sum_to}
use Rattle.ieee.proofs.Square.{square_turned}
use Rattle.lloyd_search.specs.Distance.{distance, vector_as, row_as, Widens}
use Rattle.lloyd_search.specs.Four.{four_from}

module _ {A : Type 0} (xs : List A) (p : ℕ) (x : A) (inside : p < length xs) (is : x ≡ get_or xs p x) where
  -- a value that is read widens
  pub read_widens : (widens : A → Bool) (missing : A) → Widens widens missing xs → T (widens x)
  read_widens widens missing h = subst (λ (y : A). T (widens y)) (sym (get_or_read xs p x inside is missing)) (h p inside)

  -- and it is a coordinate of the list
  pub read_vector : (value : A → Float) (missing : A) → value x ≡ vector_as value missing xs p
  read_vector value missing = ap value (get_or_read xs p x inside is missing)

  -- and of its row
  pub read_row : (value : A → Float) (missing : A) (k i j : ℕ) → p ≡ i * k + j → value x ≡ row_as value missing k xs i j
  read_row value missing k i j e = ap value (get_or_read xs p x inside is missing) ∙ ap (λ (n : ℕ). value (get_or xs n missing)) e

-- a sum with the square of a difference more
abbrev pub more : Float → Float → Float → Float
more s v u = add binary64 s (mul binary64 (sub binary64 v u) (sub binary64 v u))

-- one more coordinate: the square is the same whichever value is taken from the other
pub turned : (x y : ℕ → Float) (j : ℕ) (s u v : Float) → s ≡ distance j x y → u ≡ x j → v ≡ y j → more s v u ≡ distance (j + 1) x y
unfolding sum_to
turned x y j s u v e a b = rw (add-one, e, a, b, square_turned binary64 (y j) (x j)) refl

-- and of four sums
pub four_turned : (x : ℕ → Float) (y : ℕ → ℕ → Float) (i j : ℕ) (sums : List Float) (u a b c d : Float) → sums ≡ four_from j x y i → u ≡ x j → a ≡ y i j → b ≡ y (i + 1) j → c ≡ y (i + 2) j → d ≡ y (i + 3) j
    → more (get_or sums 0 nan) a u ∷ more (get_or sums 1 nan) b u ∷ more (get_or sums 2 nan) c u ∷ more (get_or sums 3 nan) d u ∷ [] ≡ four_from (j + 1) x y i
four_turned x y i j sums u a b c d h e ea eb ec ed =
    rw (
      turned x (y i) j (get_or sums 0 nan) u a (ap (λ (l : List Float). get_or l 0 nan) h) e ea,
      turned x (y (i + 1)) j (get_or sums 1 nan) u b (ap (λ (l : List Float). get_or l 1 nan) h) e eb,
      turned x (y (i + 2)) j (get_or sums 2 nan) u c (ap (λ (l : List Float). get_or l 2 nan) h) e ec,
      turned x (y (i + 3)) j (get_or sums 3 nan) u d (ap (λ (l : List Float). get_or l 3 nan) h) e ed,
    )
