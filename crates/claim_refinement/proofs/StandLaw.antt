-- Where a restart starts: the initial codebook and the rotated ones have n * k values of at most 2 ^ 48, and so have
-- codewords that are bounded so. Each passes the check of update alone. Assumes nothing.
use Rattle.std.specs.Prelude.{None}
use mathlib.Core.Path.{◌≡◌, refl}
use Prim.Native.Nat.{ℕ, ◌+◌, ◌-◌, ◌*◌, ◌/◌, ◌%◌, ◌^◌, ◌≤◌, ◌<◌}
use native.Mathlib.Nat.{lt_of_le_of_lt, mod-lt, div-lt_iff_lt-mul, mul-le-mul_right}
use native.Mathlib.Omega.{arith}
use native.Mathlib.Decide.{ℕ_discrete}
use mathlib.Core.Bool.{Bool, true, false, cond}
use mathlib.Core.List.{List}
use lib.Dec.{lit<, lit≤, eqb}
use lib.ListN.{length, get_or, drop}
use lib.Seq.{get_or-take, get_or-drop}
use lib.Ieee.{Float, nan, binary64, mul}
use borrow.Author.Tests.{eq-eqb, ne_eqb}
use Rattle.ieee.specs.Bounds.{Upto}
use Rattle.ieee.proofs.Bound.{mul_upto, sum_to_upto, upto_mono}
use Rattle.slices.specs.Limit.{first_outside}
use Rattle.slices.proofs.TabulateLaw.{length-tabulate, get_d_tabulate}
use Rattle.rotation.specs.Apply.{applied_at}
use Rattle.lloyd_search.specs.Distance.{row_of}
use Rattle.lloyd_search.proofs.Parts.{row_place}
use Rattle.lloyd_search.proofs.LimitLaw.{power, all_within}
use Rattle.lloyd_search.proofs.FiniteLaw.{Bounded}
use Rattle.lloyd_update.specs.Alone.{update_limit}
use Rattle.slices.specs.Lists.{words_of}
use Rattle.lloyd_refine.specs.Refine.{Job, size_of, dim_of, restarts_of, matrix_of, initial_word, rotated, start_of}
use Rattle.lloyd_refine.proofs.CheckLaw.{Passed}
use Rattle.lloyd_search.proofs.WithinLaw.{all_upto, wider}

pub rows_bounded : (b n k : ℕ) (xs : List Float) → first_outside (power b) xs ≡ None → length xs ≡ n * k → (i : ℕ) → i < n → Bounded b k (row_of k xs i)
rows_bounded b n k xs h e i l c m = all_within b xs h (i * k + c) (row_place i n k c (length xs) l m e)

-- n codewords of k coordinates, given by their coordinates
pub words_within : (n k : ℕ) (word : ℕ → ℕ → Float) → 1 ≤ k → ((c i : ℕ) → c < n → i < k → Upto (word c i) (2 ^ 48)) → first_outside update_limit (words_of n k word) ≡ None
words_within n k word some h = all_upto 48 (words_of n k word) (λ i l. at i (rw (length-tabulate (n * k) (λ m. word (m / k) (m % k))) at l))
  where
    at : (i : ℕ) → i < n * k → Upto (get_or (words_of n k word) i nan) (2 ^ 48)
    at i l = rw (get_d_tabulate (n * k) (λ m. word (m / k) (m % k)) i nan l) (h (i / k) (i % k) ((div-lt_iff_lt-mul {k = k} {x = i} {y = n} some).1 l) (mod-lt i some))

module _ (j : Job) (pass : Passed j) where
  abbrev n : ℕ
  n = size_of j

  abbrev k : ℕ
  k = dim_of j

  some_block : 1 ≤ k
  some_block = pass.valid.shape.some_block

  few_block : k ≤ 256
  few_block = pass.valid.shape.block_most

  pub samples-within : first_outside update_limit j.samples ≡ None
  samples-within = wider 20 48 j.samples (lit≤ tt) pass.samples-within

  pub initial-within : first_outside update_limit j.initial ≡ None
  initial-within = wider 20 48 j.initial (lit≤ tt) pass.initial-within

  -- ---- where a restart starts
  pub start_length : (r : ℕ) → length (start_of j r) ≡ n * k
  start_length r = go (eqb r 0)
    where
      go : (q : Bool) → length (cond q j.initial (rotated j r)) ≡ n * k
      go true = pass.initial_length
      go false = length-tabulate (n * k) _

  module _ (r : ℕ) (l : r < restarts_of j) (later : r ≡ 0 → ⊥) where
    -- matrix r has values of at most 2 ^ 20, and a codeword of the start too
    pub matrix_upto : (row c : ℕ) → row < k → c < k → Upto (get_or (matrix_of j r) (row * k + c) nan) (2 ^ 20)
    matrix_upto row c p q =
        let inside : row * k + c < k * k = row_place row k k c (k * k) p q refl in
        rw (get_or-take (k * k) (drop ((r - 1) * (k * k)) j.matrices) (row * k + c) nan inside, get_or-drop ((r - 1) * (k * k)) j.matrices (row * k + c) nan)
        (all_within 20 j.matrices pass.matrices_within ((r - 1) * (k * k) + (row * k + c)) (row_place (r - 1) (restarts_of j - 1) (k * k) (row * k + c) (length j.matrices) (omega arith) inside pass.matrices_length))

    pub word_upto : (w c : ℕ) → w < n → c < k → Upto (get_or (initial_word j w) c nan) (2 ^ 20)
    word_upto w c p q =
        rw (get_or-take k (drop (w * k) j.initial) c nan q, get_or-drop (w * k) j.initial c nan)
        (all_within 20 j.initial pass.initial-within (w * k + c) (row_place w n k c (length j.initial) p q pass.initial_length))

    applied_upto : (w row : ℕ) → w < n → row < k → Upto (applied_at k (matrix_of j r) (initial_word j w) row) (2 ^ 48)
    applied_upto w row p q =
        upto_mono (applied_at k (matrix_of j r) (initial_word j w) row) (k * 2 ^ 40) (2 ^ 48)
        (sum_to_upto (λ (c : ℕ). mul binary64 (get_or (matrix_of j r) (row * k + c) nan) (get_or (initial_word j w) c nan)) k 40
        (λ c m. mul_upto binary64 (get_or (matrix_of j r) (row * k + c) nan) (get_or (initial_word j w) c nan) (2 ^ 20) (2 ^ 20) (record { q = 1; j = 40; small = lit< tt; reach = lit≤ tt; is = refl }) (matrix_upto row c q m) (word_upto w c p m))
        (lt_of_le_of_lt few_block (lit< tt)) (lit≤ tt))
        (mul-le-mul_right (2 ^ 40) few_block)

    rotated_within : first_outside update_limit (rotated j r) ≡ None
    rotated_within = words_within n k (λ w row. applied_at k (matrix_of j r) (initial_word j w) row) some_block applied_upto

  pub start_within : (r : ℕ) → r < restarts_of j → first_outside update_limit (start_of j r) ≡ None
  start_within r l = elim (ℕ_discrete r 0) [ yes e ↦ rw (eq-eqb r 0 e) initial-within | no o ↦ rw (ne_eqb r 0 o) (rotated_within r l o) ]
