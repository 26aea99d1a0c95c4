-- Under a bound of 2 ^ b on every coordinate, b at most 480, every arithmetic result of a distance, a search and a mean
-- error is finite; and how large distances can be.
-- Assumes nothing.
use mathlib.Core.Path.{◌≡◌, refl, sym, ap, ◌∙◌, subst}
use Prim.Native.Nat.{ℕ, zero, suc, ◌+◌, ◌*◌, ◌^◌, ◌≤◌, ◌<◌}
use native.Mathlib.Nat.{le_trans, le_of_eq, le_refl, lt_of_lt_of_le, lt_of_le_of_lt, one-mul, mul-le-mul_right}
use native.Mathlib.Omega.{arith}
use mathlib.Core.Bool.{true, false}
use lib.Dec.{lit<, lit≤}
use lib.IntN.{pos}
use lib.Pow.{pow-add}
use lib.Ieee.{Float, binary64, fits, sub, of_int}
use Rattle.ieee.specs.Bounds.{Upto, NotNegative, Holds}
use Rattle.ieee.specs.Sum.{sum_to, squared_difference}
use Rattle.ieee.proofs.Bound.{sub_upto, mul_upto, mean_upto, sum_to_upto, upto_finite, upto_mono}
use Rattle.ieee.proofs.Least.{sum_to_fits}
use Rattle.ieee.proofs.Whole.{whole_value, value_at_most}
use Rattle.lloyd_search.specs.Distance.{distance}
use Rattle.lloyd_search.specs.Nearest.{nearest, mean_error, Least}
use Rattle.lloyd_search.specs.Finite.{FiniteDistance, FiniteNearest, FiniteMean}
use Rattle.lloyd_search.proofs.NearestLaw.{first_least_lem}
use Rattle.lloyd_search.proofs.SizeLaw.{distance_not_negative}

-- ---- results are values of binary64
pub distance_fits : (k : ℕ) (x y : ℕ → Float) → fits binary64 (distance k x y) ≡ true
distance_fits k x y = sum_to_fits (λ j. squared_difference (x j) (y j)) k

-- ---- the bounds
-- a power of two that binary64 holds
held : (j : ℕ) → j + 53 ≤ 1024 → Holds binary64 (2 ^ j)
held j h = record { q = 1; j = j; small = lit< tt; reach = h; is = sym (one-mul (2 ^ j)) }

twice : (b : ℕ) → 2 ^ b + 2 ^ b ≡ 2 ^ (b + 1)
twice b = let p = pow-add 2 b 1 in omega arith

squared : (b : ℕ) → 2 ^ (b + 1) * 2 ^ (b + 1) ≡ 2 ^ (2 * b + 2)
squared b = sym (pow-add 2 (b + 1) (b + 1)) ∙ ap (λ (z : ℕ). 2 ^ z) (omega arith)

-- all k coordinates are at most 2 ^ b in size
abbrev pub Bounded : ℕ → ℕ → (ℕ → Float) → Type 0
Bounded b k x = (j : ℕ) → j < k → Upto (x j) (2 ^ b)

module _ (b : ℕ) (small : b ≤ 480) where
  pub difference_upto : (x y : Float) → Upto x (2 ^ b) → Upto y (2 ^ b) → Upto (sub binary64 x y) (2 ^ (b + 1))
  difference_upto x y h k = subst (Upto (sub binary64 x y)) (twice b) (sub_upto binary64 x y (2 ^ b) (2 ^ b) (subst (Holds binary64) (sym (twice b)) (held (b + 1) (omega arith))) h k)

  pub square_upto : (x y : Float) → Upto x (2 ^ b) → Upto y (2 ^ b) → Upto (squared_difference x y) (2 ^ (2 * b + 2))
  square_upto x y h k =
      let d = difference_upto x y h k in
      subst (Upto (squared_difference x y)) (squared b) (mul_upto binary64 (sub binary64 x y) (sub binary64 x y) (2 ^ (b + 1)) (2 ^ (b + 1)) (subst (Holds binary64) (sym (squared b)) (held (2 * b + 2) (omega arith))) d d)

  module _ (k : ℕ) (few : k ≤ 256) where
    -- what bounds a distance of at most 256 coordinates
    pub under : k * 2 ^ (2 * b + 2) ≤ 2 ^ (2 * b + 10)
    under = le_trans (mul-le-mul_right (2 ^ (2 * b + 2)) few) (le_of_eq (sym (pow-add 2 8 (2 * b + 2)) ∙ ap (λ (z : ℕ). 2 ^ z) eight))
      where
        eight : 8 + (2 * b + 2) ≡ 2 * b + 10
        eight = omega arith

    module _ (x y : ℕ → Float) (h : Bounded b k x) (g : Bounded b k y) where
      -- also the partial sums
      pub distance_upto : (m : ℕ) → m ≤ k → Upto (distance m x y) (m * 2 ^ (2 * b + 2))
      distance_upto m l =
          sum_to_upto (λ j. squared_difference (x j) (y j)) m (2 * b + 2) (λ j i. square_upto (x j) (y j) (h j (lt_of_lt_of_le i l)) (g j (lt_of_lt_of_le i l)))
          (lt_of_le_of_lt (le_trans l few) (lit< tt)) (omega arith)

      pub finite_distance : FiniteDistance k x y
      finite_distance = record {
        differences = λ j l. upto_finite (sub binary64 (x j) (y j)) (2 ^ (b + 1)) (difference_upto (x j) (y j) (h j l) (g j l));
        turned = λ j l. upto_finite (sub binary64 (y j) (x j)) (2 ^ (b + 1)) (difference_upto (y j) (x j) (g j l) (h j l));
        squares = λ j l. upto_finite (squared_difference (x j) (y j)) (2 ^ (2 * b + 2)) (square_upto (x j) (y j) (h j l) (g j l));
        partial_sums = λ m l. upto_finite (distance m x y) (m * 2 ^ (2 * b + 2)) (distance_upto m l);
      }

    module _ (n : ℕ) (some : 1 ≤ n) (book : ℕ → ℕ → Float) (g : (i : ℕ) → i < n → Bounded b k (book i)) where
      pub nearest_least : (x : ℕ → Float) → Bounded b k x → Least (λ i. distance k x (book i)) n (nearest k n book x)
      nearest_least x h = first_least_lem (λ i. distance k x (book i)) n some (λ i l. (finite_distance x (book i) h (g i l)).partial_sums k (le_refl k))

      -- what holds of every distance holds of the one found
      found : (P : Float → Type 0) (x : ℕ → Float) → Bounded b k x → ((y : ℕ → Float) → Bounded b k y → P (distance k x y)) → P (nearest k n book x).distance
      found P x h f = let r = nearest_least x h in subst P (sym r.is) (f (book (nearest k n book x).index) (g (nearest k n book x).index r.within))

      pub nearest_upto : (x : ℕ → Float) → Bounded b k x → Upto (nearest k n book x).distance (k * 2 ^ (2 * b + 2))
      nearest_upto x h = found (λ (d : Float). Upto d (k * 2 ^ (2 * b + 2))) x h (λ y f. distance_upto x y h f k (le_refl k))

      pub nearest_not_negative : (x : ℕ → Float) → Bounded b k x → NotNegative (nearest k n book x).distance
      nearest_not_negative x h = found NotNegative x h (λ y f. distance_not_negative k x y (finite_distance x y h f))

      pub finite_nearest : (x : ℕ → Float) → Bounded b k x → FiniteNearest k n book x
      finite_nearest x h = record { distances = λ i l. finite_distance x (book i) h (g i l); found = upto_finite (nearest k n book x).distance (k * 2 ^ (2 * b + 2)) (nearest_upto x h) }

      module _ (samples : ℕ → ℕ → Float) (S : ℕ) (h : (s : ℕ) → s < S → Bounded b k (samples s)) (many : S ≤ 10000000) where
        -- the sum of the distances of the first m samples
        pub error_sum_upto : (m : ℕ) → m ≤ S → Upto (sum_to (λ s. (nearest k n book (samples s)).distance) m) (m * 2 ^ (2 * b + 10))
        error_sum_upto m l =
            sum_to_upto (λ s. (nearest k n book (samples s)).distance) m (2 * b + 10) (λ s i. upto_mono (nearest k n book (samples s)).distance (k * 2 ^ (2 * b + 2)) (2 ^ (2 * b + 10)) (nearest_upto (samples s) (h s (lt_of_lt_of_le i l))) under)
            (lt_of_le_of_lt (le_trans l many) (lit< tt)) (omega arith)

        pub mean_error_upto : 1 ≤ S → Upto (mean_error k n book samples S) (2 ^ (2 * b + 10))
        mean_error_upto one = go S refl one
          where
            go : (m : ℕ) → m ≡ S → 1 ≤ m → Upto (mean_error k n book samples m) (2 ^ (2 * b + 10))
            go zero e o = absurd (omega arith)
            go (suc m) e o =
                mean_upto binary64 (sum_to (λ s. (nearest k n book (samples s)).distance) (suc m)) (2 ^ (2 * b + 10)) m (held (2 * b + 10) (omega arith)) (lt_of_le_of_lt (le_trans (le_of_eq e) many) (lit< tt))
                (error_sum_upto (suc m) (le_of_eq e))

        pub finite_mean : 1 ≤ S → FiniteMean k n book samples S
        finite_mean one = record {
          searches = λ s l. finite_nearest (samples s) (h s l);
          partial_sums = λ m l. upto_finite (sum_to (λ s. (nearest k n book (samples s)).distance) m) (m * 2 ^ (2 * b + 10)) (error_sum_upto m l);
          count = upto_finite (of_int binary64 (pos S)) S (value_at_most (of_int binary64 (pos S)) false S S 1 (whole_value binary64 S (le_trans many (lit≤ tt))) (le_refl S));
          quotient = upto_finite (mean_error k n book samples S) (2 ^ (2 * b + 10)) (mean_error_upto one);
        }
