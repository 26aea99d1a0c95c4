-- What `codeword` and the check of a codebook's codewords come to: document 01's checks in their order. Definitions only.
use Rattle.std.specs.Prelude.{ℕ, not, cond, List, [], ◌∷◌, ltb, eqb, length, Float}
use Rattle.error.specs.Names.{codewords_slice, output_slice}
use Rattle.error.specs.Numbers.{Outcome, completed, refused, whole}
use Rattle.lloyd_search.specs.Shape.{codebook_shaped}
use Rattle.slices.specs.Limit.{bounded, first_not_finite}

-- codeword `index` of n with k coordinates, for an output of this many values
unfoldable pub codeword_alone : ℕ → ℕ → List Float → ℕ → ℕ → Outcome Unit
codeword_alone n k codewords index values =
    cond (not (codebook_shaped n k (length codewords))) (refused 7 (whole codewords_slice ∷ []))
    (cond (not (eqb values k)) (refused 7 (whole output_slice ∷ []))
    (cond (not (ltb index n)) (refused 11 (whole index ∷ whole n ∷ []))
    (completed tt)))

-- n codewords of k coordinates, all of them finite
unfoldable pub codewords_alone : ℕ → ℕ → List Float → Outcome Unit
codewords_alone n k codewords =
    cond (not (codebook_shaped n k (length codewords))) (refused 7 (whole codewords_slice ∷ []))
    (bounded codewords_slice (first_not_finite codewords)
    (completed tt))
