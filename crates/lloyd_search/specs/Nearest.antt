-- The nearest codeword: the first of the least distances; and whether another is as near. The mean error of a codebook.
-- Definitions only.
use Rattle.std.specs.Prelude.{◌≡◌, ℕ, zero, suc, ◌<◌, Bool, true, false, not, ◌&&◌, T, eqb, pos, Float}
use Rattle.std.specs.Float.{inf, binary64}
use Rattle.std.specs.Float.Ieee.{lt, eq, div, of_int}
use Rattle.ieee.specs.Sum.{sum_to}
use Rattle.slices.specs.First.{some_where}
use Rattle.lloyd_search.specs.declared.Found.{Found}
use Rattle.lloyd_search.specs.Distance.{distance}

abbrev pub pick : Bool → Found → Found → Found
pick true a b = a
pick false a b = b

-- among n distances the least by `<`, the earliest of equals; from index 0 at +infinity
unfoldable pub first_least : (ℕ → Float) → ℕ → Found
first_least d zero = record { index = 0; distance = inf false }
first_least d (suc n) = pick (lt (d n) (first_least d n).distance) (record { index = n; distance = d n }) (first_least d n)

-- what it means: an index below n, its distance, none strictly nearer, and each earlier one strictly farther
pub record Least (d : ℕ → Float) (n : ℕ) (r : Found) : Type 0 where
  pub within : r.index < n
  pub is : r.distance ≡ d r.index
  pub none_nearer : (i : ℕ) → i < n → T (not (lt (d i) r.distance))
  pub first : (i : ℕ) → i < r.index → T (lt r.distance (d i))

-- the codeword, of n with k coordinates each, that is nearest to x
abbrev pub nearest : ℕ → ℕ → (ℕ → ℕ → Float) → (ℕ → Float) → Found
nearest k n book x = first_least (λ i. distance k x (book i)) n

-- whether one of n distances, that of another index than r's, is equal to the distance that r shows (for a search that
-- is +infinity where none is below it, which no checked call has)
abbrev pub another : (ℕ → Float) → ℕ → Found → Bool
another d n r = some_where (λ m. not (eqb m r.index) && eq (d m) r.distance) n

-- the same of index i, at its own distance
abbrev pub tied_at : (ℕ → Float) → ℕ → ℕ → Bool
tied_at d n i = another d n (record { index = i; distance = d i })

-- the mark of a search: a codeword other than the one chosen for x is as near
abbrev pub tied : ℕ → ℕ → (ℕ → ℕ → Float) → (ℕ → Float) → Bool
tied k n book x = another (λ i. distance k x (book i)) n (nearest k n book x)

-- the distances of S samples to their nearest codewords, added in order, divided by their number
abbrev pub mean_error : ℕ → ℕ → (ℕ → ℕ → Float) → (ℕ → ℕ → Float) → ℕ → Float
mean_error k n book samples S =
    div binary64 (sum_to (λ s. (nearest k n book (samples s)).distance) S) (of_int binary64 (pos S))
