-- The search called alone: what it keeps of the codewords that it has passed, two of which it compares with each other
-- first, and what it reads off its distances: whether they are at most 2 ^ 250. Definitions only.
use Rattle.std.specs.Prelude.{◌≡◌, ℕ, ◌+◌, ◌*◌, ◌^◌, ◌<◌, ◌≤◌, true, false, not, List, [], ◌∷◌, pos, T, Float, None}
use Rattle.std.specs.Float.{fin, binary64}
use Rattle.std.specs.Float.Ieee.{add, is_nan}
use Rattle.ieee.specs.Bounds.{Upto}
use Rattle.slices.specs.Limit.{first_outside}
use Rattle.lloyd_search.specs.declared.Choice.{Choice}
use Rattle.lloyd_alone.specs.declared.Watched.{Watched}
use Rattle.lloyd_alone.specs.declared.Seen.{Seen}
use Rattle.lloyd_search.specs.Distance.{distance, vector_of}
use Rattle.lloyd_search.specs.Choice.{chosen, joined, passing}
use Rattle.lloyd_search.specs.Four.{four_from}
use Rattle.lloyd_alone.specs.Totals.{every_fourth}

-- 2 ^ 127
abbrev pub small_limit : Float
small_limit = fin false 1 (pos 127)

-- x is near to each of n codewords with k coordinates each
abbrev pub AllNear : ℕ → ℕ → (ℕ → ℕ → Float) → (ℕ → Float) → Type 0
AllNear k n book x = (i : ℕ) → i < n → Upto (distance k x (book i)) (2 ^ 250)

-- no distance of x to n codewords is a NaN
abbrev pub NoNan : ℕ → ℕ → (ℕ → ℕ → Float) → (ℕ → Float) → Type 0
NoNan k n book x = (i : ℕ) → i < n → T (not (is_nan (distance k x (book i))))

-- the choice after two codewords more, which are compared with each other first
abbrev pub passing_two : Choice → ℕ → Float → Float → Choice
passing_two c i x y = joined c (passing (record { found = record { index = i; distance = x }; last = i }) (i + 1) y)

-- four sums with a term more each
abbrev pub four_added : List Float → (ℕ → Float) → List Float
four_added sums far =
    let sum : ℕ → Float = λ r. add binary64 (vector_of sums r) (far r) in
    sum 0 ∷ sum 1 ∷ sum 2 ∷ sum 3 ∷ []

-- what is kept after four codewords more
abbrev pub watching : Watched → ℕ → (ℕ → Float) → Watched
watching w i far = record {
  best = passing_two (passing_two w.best i (far 0) (far 1)) (i + 2) (far 2) (far 3);
  sums = four_added w.sums far;
}

-- the sums of every fourth of so many fours of distances
abbrev pub four_sums : ℕ → ℕ → (ℕ → ℕ → Float) → (ℕ → Float) → List Float
four_sums k m book x =
    let sum : ℕ → Float = λ r. every_fourth (λ i. distance k x (book i)) r m in
    sum 0 ∷ sum 1 ∷ sum 2 ∷ sum 3 ∷ []

-- what a measure gives for each four among n codewords, by the number of its first, are their distances to x
abbrev pub Measures : (ℕ → List Float → Type 0) → ℕ → ℕ → (ℕ → ℕ → Float) → (ℕ → Float) → Type 0
Measures gives k n book x = (i : ℕ) (far : List Float) → i + 4 ≤ n → gives i far → far ≡ four_from k x book i

-- what is kept of so many fours of codewords
pub record Watches (k m : ℕ) (book : ℕ → ℕ → Float) (x : ℕ → Float) (r : Watched) : Type 0 where
  pub best_is : NoNan k (m * 4) book x → r.best ≡ chosen k (m * 4) book x
  pub sums_are : r.sums ≡ four_sums k m book x

-- the choice among n codewords, and whether they are known to be near
pub record Sees (k n : ℕ) (book : ℕ → ℕ → Float) (x : ℕ → Float) (r : Seen) : Type 0 where
  pub best_is : NoNan k n book x → r.best ≡ chosen k n book x
  pub where_near : r.near ≡ true → AllNear k n book x

-- near distances to a block of small values
pub record Small (r : Seen) (block : List Float) : Type 0 where
  pub all_near : r.near ≡ true
  pub block_small : first_outside small_limit block ≡ None
