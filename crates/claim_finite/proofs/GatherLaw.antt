-- The sums of a cell's samples, and their means, are bounded as the samples are;
-- so every result of the gathering and of the means is finite. Assumes nothing.
use mathlib.Core.Path.{◌≡◌, sym}
use Prim.Native.Nat.{ℕ, zero, suc, ◌+◌, ◌*◌, ◌^◌, ◌≤◌, ◌<◌, zero-le}
use native.Mathlib.Nat.{le_refl, le_step, lt-suc_self, lt_of_lt_of_le, one-mul, suc-mul, mul-le-mul_right}
use native.Mathlib.Omega.{arith}
use native.Mathlib.Decide.{ℕ_discrete}
use mathlib.Core.Bool.{false}
use lib.Dec.{T, lit<, lit≤}
use lib.IntN.{pos}
use lib.Ieee.{Float, binary64, div, of_int}
use lib.Ieee.Scale.{finite}
use Rattle.ieee.specs.Bounds.{Upto, Holds}
use Rattle.ieee.proofs.Bound.{add_upto, mean_upto, upto_finite, upto_mono}
use Rattle.ieee.proofs.Whole.{whole_value, value_at_most}
use Rattle.lloyd_search.proofs.FiniteLaw.{Bounded, distance_upto, finite_distance}
use Rattle.lloyd_cells.specs.Cells.{count_to, cell_sum}
use Rattle.lloyd_cells.specs.Update.{old_distance}
use Rattle.lloyd_cells.proofs.CellsLaw.{count_to_in, count_to_out, count_to_upto, cell_sum_in, cell_sum_out}
use Rattle.claim_finite.specs.Finite.{FiniteGathering, FiniteMeans}

-- ---- the sum over a cell, by the count of the cell
module _ (a : ℕ → ℕ) (t : ℕ → Float) (c i : ℕ) (room : i + 53 ≤ 1024) where
  abbrev Within : ℕ → Type 0
  Within n = Upto (cell_sum a t c n) (count_to a c n * 2 ^ i)

  joined : (n : ℕ) → suc n < 2 ^ 53 → a n ≡ c → Upto (t n) (2 ^ i) → Within n → Within (suc n)
  joined n m e h before =
      let l = count_to_upto a c n in
      let one : count_to a c (suc n) ≡ suc (count_to a c n) = rw (count_to_in a c n e) (omega arith) in
      let is : count_to a c n * 2 ^ i + 2 ^ i ≡ suc (count_to a c n) * 2 ^ i = sym (suc-mul (count_to a c n) (2 ^ i)) in
      rw (cell_sum_in a c n t e, one, sym is)
      (add_upto binary64 (cell_sum a t c n) (t n) (count_to a c n * 2 ^ i) (2 ^ i)
      (record { q = suc (count_to a c n); j = i; small = omega arith; reach = room; is = is }) before h)

  passed_over : (n : ℕ) → (a n ≡ c → ⊥) → Within n → Within (suc n)
  passed_over n o before = rw (cell_sum_out a c n t o, count_to_out a c n o) before

  cell_sum_upto : (n : ℕ) → ((s : ℕ) → s < n → Upto (t s) (2 ^ i)) → n < 2 ^ 53 → Within n
  unfolding cell_sum
  cell_sum_upto zero h l = zero-le
  cell_sum_upto (suc n) h l =
      let before = cell_sum_upto n (λ s g. h s (le_step g)) (omega arith) in
      elim (ℕ_discrete (a n) c) [ yes e ↦ joined n l e (h n (lt-suc_self n)) before | no o ↦ passed_over n o before ]

-- ---- the mean of a cell whose samples are at most 2 ^ b at a coordinate
power_held : (b : ℕ) → b ≤ 900 → Holds binary64 (2 ^ b)
power_held b h = record { q = 1; j = b; small = lit< tt; reach = omega arith; is = sym (one-mul (2 ^ b)) }

pub cell_mean_upto : (a : ℕ → ℕ) (t : ℕ → Float) (c S b : ℕ) → b ≤ 900 → S ≤ 10000000 → ((s : ℕ) → s < S → Upto (t s) (2 ^ b)) → 0 < count_to a c S → Upto (div binary64 (cell_sum a t c S) (of_int binary64 (pos (count_to a c S)))) (2 ^ b)
cell_mean_upto a t c S b small many h some = go (count_to a c S) (count_to_upto a c S) some (cell_sum_upto a t c b (omega arith) S h (omega arith))
  where
    go : (n : ℕ) → n ≤ S → 0 < n → Upto (cell_sum a t c S) (n * 2 ^ b) → Upto (div binary64 (cell_sum a t c S) (of_int binary64 (pos n))) (2 ^ b)
    go zero l o g = absurd (omega arith)
    go (suc n) l o g = mean_upto binary64 (cell_sum a t c S) (2 ^ b) n (power_held b small) (omega arith) g

-- ---- whole numbers as floats
whole_finite : (n : ℕ) → n ≤ 2 ^ 53 → T (finite (of_int binary64 (pos n)))
whole_finite n l = upto_finite (of_int binary64 (pos n)) n (value_at_most (of_int binary64 (pos n)) false n n 1 (whole_value binary64 n l) (le_refl n))

-- ---- samples and old codewords of at most 2 ^ 48
module _ (k n S : ℕ) (x : ℕ → ℕ → Float) (a : ℕ → ℕ) (few : k ≤ 256) (many : S ≤ 10000000) (samples : (s : ℕ) → s < S → Bounded 48 k (x s)) where
  pub finite_means : FiniteMeans k n S x a
  finite_means = record {
    counts = λ c l o. let u = count_to_upto a c S in whole_finite (count_to a c S) (omega arith);
    quotients = λ c j l m o. upto_finite (div binary64 (cell_sum a (λ s. x s j) c S) (of_int binary64 (pos (count_to a c S)))) (2 ^ 48) (cell_mean_upto a (λ s. x s j) c S 48 (lit≤ tt) many (λ s g. samples s g j m) o);
  }

  module _ (old : ℕ → ℕ → Float) (words : (c : ℕ) → c < n → Bounded 48 k (old c)) (cells : (s : ℕ) → s < S → a s < n) where
    -- 256 squares of at most (2 ^ 49) ^ 2
    old_distance_upto : (s : ℕ) → s < S → Upto (old_distance k S x a old s) (2 ^ 106)
    old_distance_upto s l =
        upto_mono (old_distance k S x a old s) (k * 2 ^ 98) (2 ^ 106) (distance_upto 48 (lit≤ tt) k few (x s) (old (a s)) (samples s l) (words (a s) (cells s l)) k (le_refl k))
        (mul-le-mul_right (2 ^ 98) few)

    pub finite_gathering : FiniteGathering k n S x a old
    finite_gathering = record {
      distances = λ s l. finite_distance 48 (lit≤ tt) k few (x s) (old (a s)) (samples s l) (words (a s) (cells s l));
      sums = λ c j m l g h. upto_finite (cell_sum a (λ s. x s j) c m) (count_to a c m * 2 ^ 48) (cell_sum_upto a (λ s. x s j) c 48 (lit≤ tt) m (λ s i. samples s (lt_of_lt_of_le i h) j g) (omega arith));
      distortions = λ c m l h. upto_finite (cell_sum a (old_distance k S x a old) c m) (count_to a c m * 2 ^ 106) (cell_sum_upto a (old_distance k S x a old) c 106 (lit≤ tt) m (λ s i. old_distance_upto s (lt_of_lt_of_le i h)) (omega arith));
      numbers = λ s l. whole_finite s (omega arith);
    }
