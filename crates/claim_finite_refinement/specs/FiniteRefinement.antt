-- Every arithmetic result of a refinement is finite: each one on the way, not
-- only those that come back, and those of a refinement that is refused later too.
-- `FiniteRefinement j` says it; proofs/FiniteRefinementLaw.antt proves it of every job that passes its checks. What
-- follows of errors and of the report stands last; proofs/ReportLaw.antt proves it.
-- (A comparison has no float for a result; a change of sign and a copy round nothing.) Definitions only.
use Rattle.std.specs.Prelude.{◌≡◌, ℕ, ◌+◌, ◌*◌, ◌≤◌, ◌<◌, List, T, pos, length, get_or, Float}
use Rattle.std.specs.Float.{nan, binary64}
use Rattle.std.specs.Float.Ieee.{sub, mul, of_int}
use Rattle.std.specs.Float.Ieee.Scale.{finite}
use Rattle.error.specs.Numbers.{completed}
use Rattle.profile.specs.Checks.{per_coord}
use Rattle.rotation.specs.Apply.{row_sum}
use Rattle.lloyd_search.specs.Distance.{row_of}
use Rattle.lloyd_search.specs.Finite.{FiniteNearest, FiniteMean}
use Rattle.lloyd_round.specs.Round.{cell_of}
use Rattle.lloyd_refine.specs.Refine.{Job, size_of, dim_of, count_of, restarts_of, iterations_of, round_terms, Trained, matrix_of, initial_word, error_of, Best, refinement, narrowed}
use Rattle.lloyd_refine.specs.Report.{report_of, report_schema, report_test}
use Rattle.claim_finite.specs.Finite.{FiniteStep}
use Rattle.claim_refinement.specs.Refinement.{Reached}

-- ---- its parts
-- a rate that the profile's check expects beside the one given: k as a float, the quotient by it, and the difference
pub record FiniteRate (given bits : Float) (k : ℕ) : Type 0 where
  pub divisor : T (finite (of_int binary64 (pos k)))
  pub quotient : T (finite (per_coord bits k))
  pub difference : T (finite (sub binary64 given (per_coord bits k)))

-- a k × k matrix times a codeword: each product, and in each row the sum
-- of the first m of them, the element of the result among these (m = k)
pub record FiniteRotation (k : ℕ) (matrix word : List Float) : Type 0 where
  pub products : (row c : ℕ) → row < k → c < k
      → T (finite (mul binary64 (get_or matrix (row * k + c) nan) (get_or word c nan)))
  pub partial_sums : (row m : ℕ) → row < k → m ≤ k → T (finite (row_sum matrix word (row * k) m))

-- round i of restart r where t stands: every sample's search for its nearest codeword, then the update
pub record FiniteRound (j : Job) (r i : ℕ) (t : Trained) : Type 0 where
  pub searches : (s : ℕ) → s < count_of j
      → FiniteNearest (dim_of j) (size_of j) (row_of (dim_of j) t.codebook) (row_of (dim_of j) j.samples s)
  pub update : FiniteStep (round_terms j r i (length t.events)) (count_of j) (row_of (dim_of j) j.samples)
      (cell_of (dim_of j) (size_of j) (count_of j) j.samples t.codebook) (row_of (dim_of j) t.codebook)

-- the mean error of a codebook over the samples, with all that it is made of
abbrev pub FiniteError : Job → List Float → Type 0
FiniteError j codebook =
    FiniteMean (dim_of j) (size_of j) (row_of (dim_of j) codebook) (row_of (dim_of j) j.samples) (count_of j)

-- every value of a codebook, narrowed to binary32
abbrev pub FiniteNarrowed : Job → List Float → Type 0
FiniteNarrowed j codebook = (i : ℕ) → i < size_of j * dim_of j → T (finite (get_or (narrowed codebook) i nan))

-- ---- the whole
pub record FiniteRefinement (j : Job) : Type 0 where
  -- the profile's two rates, and the width of an index as a float
  pub paper_rate : FiniteRate j.profile.paper_rate_bits_per_coord j.log2 (dim_of j)
  pub wire_bits_lem : T (finite (of_int binary64 (pos j.profile.wire_index_bits)))
  pub wire_rate : FiniteRate j.profile.wire_bits_per_coord (of_int binary64 (pos j.profile.wire_index_bits))
      (dim_of j)
  -- codeword c of the initial codebook, rotated for restart r: restart 0 starts without a rotation
  pub rotations : (r c : ℕ) → 0 < r → r < restarts_of j → c < size_of j
      → FiniteRotation (dim_of j) (matrix_of j r) (initial_word j c)
  -- the error of the initial codebook
  pub init : FiniteError j j.initial
  -- every round that is begun, of every restart
  pub rounds : (r i : ℕ) (t : Trained) → r < restarts_of j → i < iterations_of j → Reached j r i t → FiniteRound j r i t
  -- the error of the codebook at the end of a restart
  pub ends : (r : ℕ) (t : Trained) → r < restarts_of j → Reached j r (iterations_of j) t → FiniteError j t.codebook
  -- the codebook that is returned
  pub narrowings : (b : Best) → refinement j ≡ completed b → FiniteNarrowed j b.codebook

-- ---- what follows
-- an error is never infinite or NaN, so that no refinement could be refused for one
pub record FiniteErrors (j : Job) : Type 0 where
  pub init : T (finite (error_of j j.initial))
  pub ends : (r : ℕ) (t : Trained) → r < restarts_of j → Reached j r (iterations_of j) t
      → T (finite (error_of j t.codebook))

-- the report of a refinement that came to b: its errors are finite, and it passes its own test
pub record FiniteReport (j : Job) (b : Best) : Type 0 where
  pub init_mse : T (finite (report_of j b).init_mse)
  pub best_mse : T (finite (report_of j b).best_mse)
  pub test : report_test (report_of j b) report_schema j.profile ≡ completed tt
