-- What a search keeps of the codewords that it has passed: the first of the nearest and the last of them, which are two
-- where the choice was a toss: `mark_means` (proofs/TieLaw.antt) equates `mark_of` and `tied`. Definitions only.
use Rattle.std.specs.Prelude.{ℕ, zero, suc, ◌+◌, Bool, not, cond, eqb, Float}
use Rattle.std.specs.Float.Ieee.{lt, le}
use Rattle.lloyd_search.specs.declared.Choice.{Choice}
use Rattle.lloyd_search.specs.Distance.{distance}
use Rattle.lloyd_search.specs.Nearest.{pick, first_least}

-- among n distances the last that is at most the least before it, which is +infinity before all; 0 if there is none
unfoldable pub last_least : (ℕ → Float) → ℕ → ℕ
last_least d zero = 0
last_least d (suc n) = cond (le (d n) (first_least d n).distance) n (last_least d n)

abbrev pub choice : (ℕ → Float) → ℕ → Choice
choice d n = record { found = first_least d n; last = last_least d n }

-- the choice, among n codewords with k coordinates each, for x
abbrev pub chosen : ℕ → ℕ → (ℕ → ℕ → Float) → (ℕ → Float) → Choice
chosen k n book x = choice (λ i. distance k x (book i)) n

-- the choice of two, the second of which was made among later codewords
abbrev pub joined : Choice → Choice → Choice
joined c d = record {
  found = pick (lt d.found.distance c.found.distance) d.found c.found;
  last = cond (le d.found.distance c.found.distance) d.last c.last;
}

-- the choice after one codeword more
abbrev pub passing : Choice → ℕ → Float → Choice
passing c i x = joined c (record { found = record { index = i; distance = x }; last = i })

-- and after m more, the first of which has this number, at these distances
abbrev pub passing_all : Choice → ℕ → (ℕ → Float) → ℕ → Choice
passing_all c i far zero = c
passing_all c i far (suc m) = passing (passing_all c i far m) (i + m) (far m)

-- the mark, as it is read off a choice
abbrev pub mark_of : Choice → Bool
mark_of c = not (eqb c.last c.found.index)
