-- What a completed call of nearest or of mean error, alone, has shown: the shapes and the bounds that the checks ask.
-- So every arithmetic result of such a call is finite, the codeword found is the first of the nearest, and the mark says
-- whether another has its distance. In particular the mean is finite: the Rust's refusal of a mean error that is not
-- (NumericalFailure) can't come from it.
-- Assumes nothing.
use Rattle.std.specs.Prelude.{None}
use mathlib.Core.Path.{◌≡◌, refl, ap, ◌∙◌, subst}
use Prim.Native.Nat.{ℕ, ◌+◌, ◌*◌, ◌/◌, ◌^◌, ◌≤◌, ◌<◌}
use native.Mathlib.Nat.{le_refl}
use native.Mathlib.Omega.{arith}
use mathlib.Core.Bool.{true, not}
use mathlib.Core.List.{List, [], ◌∷◌}
use lib.Dec.{T, lit≤, eqb}
use lib.ListN.{length, get_or}
use lib.Ieee.{Float, nan}
use lib.Ieee.Scale.{finite}
use borrow.Author.Tests.{eq-eqb, not-false, eqb-true, eqb-false}
use Rattle.ieee.specs.Bounds.{Upto}
use Rattle.error.specs.Numbers.{completed, whole}
use Rattle.error.proofs.Outcomes.{passed, completed_same}
use Rattle.ieee.proofs.Order.{finite_number}
use Rattle.slices.specs.Limit.{first_outside}
use Rattle.lloyd_search.specs.declared.Choice.{Choice}
use Rattle.lloyd_alone.specs.declared.Marked.{Marked}
use Rattle.lloyd_search.specs.Distance.{distance, vector_of, row_of}
use Rattle.lloyd_search.specs.Nearest.{another, tied_at, mean_error, Least}
use Rattle.lloyd_search.specs.Choice.{chosen, mark_of}
use Rattle.lloyd_search.specs.Shape.{codebook_shaped, samples_shaped}
use Rattle.lloyd_search.specs.Finite.{FiniteNearest, FiniteMean}
use Rattle.lloyd_alone.specs.Totals.{FiniteTotals}
use Rattle.lloyd_alone.specs.Watch.{NoNan}
use Rattle.lloyd_alone.specs.Answers.{search_limit, marked, nearest_alone, mean_error_alone}
use Rattle.lloyd_search.proofs.Parts.{row_place}
use Rattle.lloyd_search.proofs.ShapeLaw.{Codebook, Samples, codebook_shape, samples_shape, some_sample}
use Rattle.lloyd_search.proofs.LimitLaw.{all_within, passed_bounded}
use Rattle.lloyd_search.proofs.FiniteLaw.{Bounded, finite_distance, nearest_least, finite_nearest, finite_mean}
use Rattle.lloyd_search.proofs.TieLaw.{mark_means}
use Rattle.lloyd_alone.proofs.TotalsLaw.{finite_totals}

-- every row of a list that passes the check of magnitude is bounded
rows_bounded : (b n k : ℕ) (xs : List Float) → ((i : ℕ) → i < length xs → Upto (get_or xs i nan) (2 ^ b)) → length xs ≡ n * k → (i : ℕ) → i < n → Bounded b k (row_of k xs i)
rows_bounded b n k xs h e i l j m = h (i * k + j) (row_place i n k j (length xs) l m e)

-- so no distance of such a block to such codewords is a NaN
pub no_nan : (n k : ℕ) (codewords block : List Float) → k ≤ 256 → length codewords ≡ n * k → length block ≡ k → first_outside search_limit block ≡ None → first_outside search_limit codewords ≡ None
    → NoNan k n (row_of k codewords) (vector_of block)
no_nan n k codewords block few shape long b c i l =
    finite_number _
    ((finite_distance 128 (lit≤ tt) k few (vector_of block) (row_of k codewords i) (λ j h. all_within 128 block b j (omega arith)) (rows_bounded 128 n k codewords (all_within 128 codewords c) shape i l)).partial_sums k (le_refl k))

-- ---- nearest, called alone
-- what a search answers once its checks have passed
pub answered : (n k : ℕ) (codewords block : List Float) (best : Choice) → codebook_shaped n k (length codewords) ≡ true → length block ≡ k → first_outside search_limit block ≡ None → first_outside search_limit codewords ≡ None
    → (NoNan k n (row_of k codewords) (vector_of block) → best ≡ chosen k n (row_of k codewords) (vector_of block))
    → completed (record { found = best.found; tied = mark_of best }) ≡ nearest_alone n k codewords block
unfolding nearest_alone
answered n k codewords block best shaped long p q e =
    let s = codebook_shape n k (length codewords) shaped in
    let far : ℕ → Float = λ i. distance k (vector_of block) (row_of k codewords i) in
    let is = e (no_nan n k codewords block s.coordinates_upto s.length_is long p q) in
    rw (shaped, eq-eqb (length block) k long, p, q, is, mark_means far n)

pub record NearestAccepted (n k : ℕ) (codewords block : List Float) (f : Marked) : Type 0 where
  pub shape : Codebook n k (length codewords)
  pub block_bounded : Bounded 128 k (vector_of block)
  pub codewords_bounded : (i : ℕ) → i < n → Bounded 128 k (row_of k codewords i)
  pub answer : marked k n (row_of k codewords) (vector_of block) ≡ f

module _ (n k : ℕ) (codewords block : List Float) (f : Marked) (e : nearest_alone n k codewords block ≡ completed f) where
  pub nearest_accepted : NearestAccepted n k codewords block f
  unfolding nearest_alone
  nearest_accepted =
      let a = passed (not (codebook_shaped n k (length codewords))) 7 (whole 4 ∷ []) _ f e in
      let b = passed (not (eqb (length block) k)) 7 (whole 5 ∷ []) _ f a.1 in
      let c = passed_bounded 5 (first_outside search_limit block) _ f b.1 in
      let d = passed_bounded 4 (first_outside search_limit codewords) _ f c.1 in
      let s = codebook_shape n k (length codewords) (not-false _ a.0) in
      let l = eqb-true (length block) k (not-false _ b.0) in
      record {
        shape = s;
        block_bounded = λ j h. all_within 128 block c.0 j (omega arith);
        codewords_bounded = rows_bounded 128 n k codewords (all_within 128 codewords d.0) s.length_is;
        answer = completed_same _ f d.1;
      }

  pub nearest_alone_finite : FiniteNearest k n (row_of k codewords) (vector_of block)
  nearest_alone_finite =
      let a = nearest_accepted in
      finite_nearest 128 (lit≤ tt) k a.shape.coordinates_upto n a.shape.codewords (row_of k codewords) a.codewords_bounded (vector_of block) a.block_bounded

  pub nearest_alone_totals : FiniteTotals (λ i. distance k (vector_of block) (row_of k codewords i)) n
  nearest_alone_totals =
      let a = nearest_accepted in
      finite_totals 128 (lit≤ tt) k a.shape.coordinates_upto n a.shape.codewords_upto (row_of k codewords) a.codewords_bounded (vector_of block) a.block_bounded

  pub nearest_alone_least : Least (λ i. distance k (vector_of block) (row_of k codewords i)) n f.found
  nearest_alone_least =
      let a = nearest_accepted in
      subst (λ (m : Marked). Least (λ i. distance k (vector_of block) (row_of k codewords i)) n m.found) a.answer
      (nearest_least 128 (lit≤ tt) k a.shape.coordinates_upto n a.shape.codewords (row_of k codewords) a.codewords_bounded (vector_of block) a.block_bounded)

  -- the mark: another codeword has the same distance as the one found
  pub nearest_alone-tied : f.tied ≡ tied_at (λ i. distance k (vector_of block) (row_of k codewords i)) n f.found.index
  nearest_alone-tied =
      let far : ℕ → Float = λ i. distance k (vector_of block) (row_of k codewords i) in
      subst (λ (m : Marked). m.tied ≡ another far n m.found) nearest_accepted.answer refl
      ∙ ap (λ (x : Float). another far n (record { index = f.found.index; distance = x })) nearest_alone_least.is

-- ---- mean error, called alone
pub record MeanAccepted (n k : ℕ) (codewords samples : List Float) (x : Float) : Type 0 where
  pub shape : Codebook n k (length codewords)
  pub whole-samples : Samples k (length samples)
  pub some_samples : 1 ≤ length samples / k
  pub samples_bounded : (s : ℕ) → s < length samples / k → Bounded 128 k (row_of k samples s)
  pub codewords_bounded : (i : ℕ) → i < n → Bounded 128 k (row_of k codewords i)
  pub answer : mean_error k n (row_of k codewords) (row_of k samples) (length samples / k) ≡ x

module _ (n k : ℕ) (codewords samples : List Float) (x : Float) (e : mean_error_alone n k codewords samples ≡ completed x) where
  pub mean_accepted : MeanAccepted n k codewords samples x
  unfolding mean_error_alone
  mean_accepted =
      let a = passed (not (codebook_shaped n k (length codewords))) 7 (whole 4 ∷ []) _ x e in
      let b = passed (not (samples_shaped k (length samples))) 7 (whole 2 ∷ []) _ x a.1 in
      let g = passed (eqb (length samples) 0) 1 [] _ x b.1 in
      let c = passed_bounded 2 (first_outside search_limit samples) _ x g.1 in
      let d = passed_bounded 4 (first_outside search_limit codewords) _ x c.1 in
      let s = codebook_shape n k (length codewords) (not-false _ a.0) in
      let w = samples_shape k (length samples) (not-false _ b.0) in
      record {
        shape = s;
        whole-samples = w;
        some_samples = some_sample k (length samples) w.whole-samples (eqb-false (length samples) 0 g.0);
        samples_bounded = rows_bounded 128 (length samples / k) k samples (all_within 128 samples c.0) w.whole-samples;
        codewords_bounded = rows_bounded 128 n k codewords (all_within 128 codewords d.0) s.length_is;
        answer = completed_same _ x d.1;
      }

  pub mean_error_alone_finite : FiniteMean k n (row_of k codewords) (row_of k samples) (length samples / k)
  mean_error_alone_finite =
      let a = mean_accepted in
      finite_mean 128 (lit≤ tt) k a.shape.coordinates_upto n a.shape.codewords (row_of k codewords) a.codewords_bounded (row_of k samples) (length samples / k) a.samples_bounded
      a.whole-samples.count_upto a.some_samples

  -- what it answers
  pub mean_error_alone_answer : T (finite x)
  mean_error_alone_answer = subst (λ (y : Float). T (finite y)) mean_accepted.answer mean_error_alone_finite.quotient
