-- Every arithmetic result of a refinement that passes its checks
-- is finite: `refinement_finite`, at the end. Assumes nothing.
use mathlib.Core.Path.{◌≡◌, refl, sym}
use Prim.Native.Nat.{ℕ, ◌+◌, ◌*◌, ◌^◌, ◌≤◌, ◌<◌}
use native.Mathlib.Nat.{le_refl, le_trans, le_of_eq, lt_of_lt_of_le, lt_of_le_of_lt, one-mul, mul-one}
use native.Mathlib.Omega.{arith}
use mathlib.Core.List.{List}
use lib.Dec.{T, lit<, lit≤}
use lib.ListN.{length, get_or}
use lib.Ieee.{Float, nan, inf, fin, binary32, binary64, up, down, round, mul}
use lib.Ieee.Fits.{down_pos}
use lib.Ieee.Scale.{finite}
use Rattle.error.specs.Numbers.{completed}
use Rattle.error.proofs.Outcomes.{then_completed}
use Rattle.ieee.specs.Bounds.{Upto}
use Rattle.ieee.proofs.Bound.{mul_upto, round_upto, sum_to_upto, upto_finite}
use Rattle.slices.proofs.TabulateLaw.{get_d_tabulate}
use Rattle.narrow.specs.Pack.{narrow_to}
use Rattle.rotation.specs.Apply.{row_sum}
use Rattle.lloyd_search.specs.Distance.{row_of}
use Rattle.lloyd_search.proofs.FiniteLaw.{finite_nearest}
use Rattle.lloyd_search.proofs.LimitLaw.{all_within}
use Rattle.lloyd_round.specs.Round.{cell_of}
use Rattle.lloyd_refine.specs.Refine.{Job, size_of, dim_of, count_of, restarts_of, refine_checks, round_terms, Trained, matrix_of, initial_word, refine_of}
use Rattle.lloyd_refine.proofs.CheckLaw.{Passed, checks_passed}
use Rattle.claim_finite.proofs.StepLaw.{step_finite}
use Rattle.claim_refinement.proofs.DonorLaw.{cell_below}
use Rattle.claim_refinement.proofs.StandLaw.{rows_bounded, samples-within, matrix_upto, word_upto}
use Rattle.claim_refinement.proofs.WinsLaw.{error_finite}
use Rattle.claim_refinement.proofs.TameLaw.{Tame, reached_tame}
use Rattle.claim_finite_refinement.specs.FiniteRefinement.{FiniteRotation, FiniteRound, FiniteError, FiniteNarrowed, FiniteRefinement}
use Rattle.claim_finite_refinement.proofs.RatesLaw.{rates_finite}
use Rattle.claim_finite_refinement.proofs.BestLaw.{initial_tame, best_tame}

-- values of at most 2 ^ b: binary32 holds 2 ^ b, which rounding does not pass
narrowed_finite : (b : ℕ) → b ≤ 104 → (x : Float) → Upto x (2 ^ b) → T (finite (narrow_to binary32 x))
unfolding narrow_to
narrowed_finite b small nan h = h
narrowed_finite b small (inf s) h = h
narrowed_finite b small (fin s m e) h =
    let below_largest : b + 24 ≤ 128 = omega arith in
    upto_finite (round binary32 s (m * up e) (down e)) (2 ^ b)
    (round_upto binary32 s (m * up e) (down e) (2 ^ b) (down_pos e) (record { q = 1; j = b; small = lit< tt; reach = below_largest; is = sym (one-mul (2 ^ b)) }) (le_trans (le_of_eq (sym (mul-one (m * up e)))) h))

module _ (j : Job) (pass : Passed j) where
  abbrev n : ℕ
  n = size_of j

  abbrev k : ℕ
  k = dim_of j

  some_words : 1 ≤ n
  some_words = let l = pass.valid.shape.book_least in omega arith

  few_block : k ≤ 256
  few_block = pass.valid.shape.block_most

  -- ---- a rotation: products of at most 2 ^ 40
  module _ (r w : ℕ) (later : r ≡ 0 → ⊥) (l : r < restarts_of j) (o : w < n) where
    abbrev product : ℕ → ℕ → Float
    product row c = mul binary64 (get_or (matrix_of j r) (row * k + c) nan) (get_or (initial_word j w) c nan)

    product_upto : (row c : ℕ) → row < k → c < k → Upto (product row c) (2 ^ 40)
    product_upto row c p q =
        mul_upto binary64 (get_or (matrix_of j r) (row * k + c) nan) (get_or (initial_word j w) c nan) (2 ^ 20) (2 ^ 20) (record { q = 1; j = 40; small = lit< tt; reach = lit≤ tt; is = refl })
        (matrix_upto j pass r l later row c p q) (word_upto j pass r l later w c o q)

    rotation_finite : FiniteRotation k (matrix_of j r) (initial_word j w)
    rotation_finite = record {
      products = λ row c p q. upto_finite (product row c) (2 ^ 40) (product_upto row c p q);
      partial_sums = λ row m p q. upto_finite (row_sum (matrix_of j r) (initial_word j w) (row * k) m) (m * 2 ^ 40) (sum_to_upto (λ (c : ℕ). product row c) m 40 (λ c i. product_upto row c p (lt_of_lt_of_le i q)) (lt_of_le_of_lt (le_trans q few_block) (lit< tt)) (lit≤ tt));
    }

  -- ---- a round over a codebook of values of at most 2 ^ 48
  round_finite : (r i : ℕ) (t : Trained) → Tame j t.codebook → FiniteRound j r i t
  round_finite r i t (size, within) =
      let S = count_of j in
      let words = rows_bounded 48 n k t.codebook within size in
      record {
        searches = λ s l. finite_nearest 48 (lit≤ tt) k few_block n some_words (row_of k t.codebook) words (row_of k j.samples s) (rows_bounded 48 S k j.samples (samples-within j pass) pass.samples_length s l);
        update = step_finite (round_terms j r i (length t.events)) S (row_of k j.samples) (cell_of k n S j.samples t.codebook) (row_of k t.codebook) few_block pass.valid.settings.samples_most 20 (lit≤ tt)
            (rows_bounded 20 S k j.samples pass.samples-within pass.samples_length) words (cell_below k n S j.samples t.codebook some_words);
      }

  codebook_error : (codebook : List Float) → Tame j codebook → FiniteError j codebook
  codebook_error codebook (size, within) = error_finite j pass codebook size within

  narrowing_finite : (codebook : List Float) → Tame j codebook → FiniteNarrowed j codebook
  narrowing_finite codebook (size, within) i l =
      let m : i < length codebook = rw size l in
      rw (get_d_tabulate (length codebook) (λ q. narrow_to binary32 (get_or codebook q nan)) i nan m) (narrowed_finite 48 (lit≤ tt) (get_or codebook i nan) (all_within 48 codebook within i m))

pub refinement_finite : (j : Job) → refine_checks j ≡ completed tt → FiniteRefinement j
refinement_finite j h =
    let pass = checks_passed j h in
    let rates = rates_finite j h in
    record {
      paper_rate = rates.0;
      wire_bits_lem = rates.1;
      wire_rate = rates.2;
      rotations = λ r c some l m. rotation_finite j pass r c (λ e. omega arith) l m;
      init = codebook_error j pass j.initial (initial_tame j pass);
      rounds = λ r i t l m s. round_finite j pass r i t (reached_tame j pass r i t l s);
      ends = λ r t l s. codebook_error j pass t.codebook (reached_tame j pass r _ t l s);
      narrowings = λ b done. narrowing_finite j pass b.codebook (best_tame j pass (restarts_of j) b (le_refl (restarts_of j)) (then_completed (refine_checks j) (λ (u : Unit). refine_of j) b done).2).0;
    }
