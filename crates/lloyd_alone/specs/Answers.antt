-- What nearest and mean error, called alone, come to: document 01's checks in their order. Definitions only.
use Rattle.std.specs.Prelude.{ℕ, ◌/◌, false, not, cond, List, [], ◌∷◌, eqb, pos, length, Float}
use Rattle.std.specs.Float.{fin}
use Rattle.error.specs.Names.{codewords_slice, input_slice, samples_slice}
use Rattle.error.specs.Numbers.{Outcome, completed, refused, whole}
use Rattle.slices.specs.Limit.{first_outside, bounded}
use Rattle.lloyd_alone.specs.declared.Marked.{Marked}
use Rattle.lloyd_search.specs.Distance.{vector_of, row_of}
use Rattle.lloyd_search.specs.Nearest.{nearest, tied, mean_error}
use Rattle.lloyd_search.specs.Shape.{codebook_shaped, samples_shaped}

-- 2 ^ 128
abbrev pub search_limit : Float
search_limit = fin false 1 (pos 128)

-- the codeword nearest to x, and whether another is as near
abbrev pub marked : ℕ → ℕ → (ℕ → ℕ → Float) → (ℕ → Float) → Marked
marked k n book x = record { found = nearest k n book x; tied = tied k n book x }

unfoldable pub nearest_alone : ℕ → ℕ → List Float → List Float → Outcome Marked
nearest_alone n k codewords block =
    cond (not (codebook_shaped n k (length codewords))) (refused 7 (whole codewords_slice ∷ []))
    (cond (not (eqb (length block) k)) (refused 7 (whole input_slice ∷ []))
    (bounded input_slice (first_outside search_limit block)
    (bounded codewords_slice (first_outside search_limit codewords)
    (completed (marked k n (row_of k codewords) (vector_of block))))))

unfoldable pub mean_error_alone : ℕ → ℕ → List Float → List Float → Outcome Float
mean_error_alone n k codewords samples =
    cond (not (codebook_shaped n k (length codewords))) (refused 7 (whole codewords_slice ∷ []))
    (cond (not (samples_shaped k (length samples))) (refused 7 (whole samples_slice ∷ []))
    (cond (eqb (length samples) 0) (refused 1 [])
    (bounded samples_slice (first_outside search_limit samples)
    (bounded codewords_slice (first_outside search_limit codewords)
    (completed (mean_error k n (row_of k codewords) (row_of k samples) (length samples / k)))))))
