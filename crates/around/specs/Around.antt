-- The codewords that lie within a distance of a block: the checks in their order, how many there are, and what the lent
-- list holds afterwards. Definitions only.
use Rattle.std.specs.Prelude.{◌≡◌, ℕ, ◌≤◌, ◌<◌, Bool, not, ◌&&◌, cond, List, [], ◌∷◌, T, eqb, length, get_or, Float}
use Rattle.std.specs.Float.{binary64}
use Rattle.std.specs.Float.Ieee.{le, mul}
use Rattle.std.specs.Float.Ieee.Scale.{finite}
use Rattle.error.specs.Names.{codewords_slice, input_slice, output_slice}
use Rattle.error.specs.Numbers.{Outcome, completed, refused, whole, also, of_length}
use Rattle.ieee.specs.Sum.{plus_zero}
use Rattle.slices.specs.First.{count_where}
use Rattle.slices.specs.Limit.{first_not_finite, bounded}
use Rattle.lloyd_search.specs.Distance.{distance, vector_of, row_of}
use Rattle.lloyd_search.specs.Shape.{codebook_shaped}

-- what is asked: the codewords around a block, of so many of so many values each
pub record Query : Type 0 where
  pub size : ℕ
  pub dim : ℕ
  pub codewords : List Float
  pub block : List Float

abbrev pub query : ℕ → ℕ → List Float → List Float → Query
query n k codewords block = record { size = n; dim = k; codewords = codewords; block = block }

-- the squared distance of the block to codeword m, worked out as in the nearest search
abbrev pub distance_to : Query → ℕ → Float
distance_to q m = distance q.dim (vector_of q.block) (row_of q.dim q.codewords m)

-- whether it is at most so much
abbrev pub within_square : Query → Float → ℕ → Bool
within_square q square m = le (distance_to q m) square

-- the radius times itself, rounded once: it may become 0, or the infinity
abbrev pub square_of : Float → Float
square_of radius = mul binary64 radius radius

-- whether codeword m lies within the radius
abbrev pub within_radius : Query → Float → ℕ → Bool
within_radius q radius = within_square q (square_of radius)

-- how many do
abbrev pub count_within : Query → Float → ℕ
count_within q radius = count_where (within_radius q radius) q.size

-- ---- the answer
-- 7 of the codewords, the block, and the list, whose length fits or not; 18 of the block and the codewords
unfoldable pub sound : Query → Bool → Outcome Unit
sound q list_fits =
    cond (not (codebook_shaped q.size q.dim (length q.codewords))) (refused 7 (whole codewords_slice ∷ []))
    (of_length input_slice q.dim (length q.block)
    (cond (not list_fits) (refused 7 (whole output_slice ∷ []))
    (bounded input_slice (first_not_finite q.block)
    (bounded codewords_slice (first_not_finite q.codewords)
    (completed tt)))))

-- a radius is at least zero, as minus zero is, and finite
abbrev pub radius_fits : Float → Bool
radius_fits radius = le plus_zero radius && finite radius

-- for a list of so many places: these, then 21 of the radius; else the number of codewords within
abbrev pub around : Query → Float → ℕ → Outcome ℕ
around q radius places = also (sound q (eqb places q.size)) (cond (radius_fits radius) (completed (count_within q radius)) (refused 21 []))

-- ---- the list
-- The first `count` places of a list take the numbers below n that pass a test, each once; the rest is as it was. In which
-- order they stand is left free.
pub record Listed (test : ℕ → Bool) (n count : ℕ) (old new : List ℕ) : Type 0 where
  pub long_as_before : length new ≡ length old
  -- what stands there passes
  pub passing : (p : ℕ) → p < count → (get_or new p 0 < n) × T (test (get_or new p 0))
  -- what passes stands there
  pub all : (m : ℕ) → m < n → T (test m) → (p : ℕ) × (p < count) × (get_or new p 0 ≡ m)
  -- at one place
  pub once : (p q : ℕ) → p < q → q < count → get_or new p 0 ≡ get_or new q 0 → ⊥
  pub rest : (p : ℕ) → count ≤ p → get_or new p 0 ≡ get_or old p 0

-- the lent list after a call with this outcome: a refusal leaves it as it was
abbrev pub ListAfter : Query → Float → Outcome ℕ → List ℕ → List ℕ → Type 0
ListAfter q radius (completed count) old new = Listed (within_radius q radius) q.size count old new
ListAfter q radius (refused number values) old new = new ≡ old
