-- Under a bound of 2 ^ b on every coordinate, b at most 480, the sums that
-- the search called alone keeps of its distances are finite. Assumes nothing.
use mathlib.Core.Path.{sym, subst}
use Prim.Native.Nat.{ℕ, ◌+◌, ◌*◌, ◌/◌, ◌^◌, ◌≤◌, ◌<◌}
use native.Mathlib.Nat.{le_trans, le_refl, lt_of_le_of_lt, add-mul, div-mul-le_self}
use native.Mathlib.Omega.{arith}
use lib.Dec.{lit<}
use lib.Ieee.{Float, binary64, add}
use Rattle.ieee.specs.Bounds.{Upto}
use Rattle.ieee.proofs.Bound.{add_upto, sum_to_upto, upto_finite, upto_mono}
use Rattle.lloyd_search.specs.Distance.{distance}
use Rattle.lloyd_search.proofs.FiniteLaw.{Bounded, distance_upto, under}
use Rattle.lloyd_alone.specs.Totals.{every_fourth, sum_of_distances, FiniteTotals}

-- a sum of at most p times 2 ^ j and one of at most q times
both_upto : (x y : Float) (p q j : ℕ) → p + q < 2 ^ 53 → j + 53 ≤ 1024 → Upto x (p * 2 ^ j) → Upto y (q * 2 ^ j) → Upto (add binary64 x y) ((p + q) * 2 ^ j)
both_upto x y p q j h r u v =
    subst (Upto (add binary64 x y)) (sym (add-mul p q (2 ^ j)))
    (add_upto binary64 x y (p * 2 ^ j) (q * 2 ^ j) (record { q = p + q; j = j; small = h; reach = r; is = sym (add-mul p q (2 ^ j)) }) u v)

module _ (b : ℕ) (small : b ≤ 480) (k : ℕ) (few : k ≤ 256) (n : ℕ) (small-book : n ≤ 1048576) (book : ℕ → ℕ → Float) (g : (i : ℕ) → i < n → Bounded b k (book i)) (x : ℕ → Float) (h : Bounded b k x) where
  abbrev far : ℕ → Float
  far i = distance k x (book i)

  fourth_upto : (r m : ℕ) → r < 4 → m ≤ n / 4 → Upto (every_fourth far r m) (m * 2 ^ (2 * b + 10))
  fourth_upto r m l u =
      let w = div-mul-le_self n 4 in
      let each : (t : ℕ) → t < m → Upto (far (t * 4 + r)) (2 ^ (2 * b + 10)) = λ t i. upto_mono (far (t * 4 + r)) (k * 2 ^ (2 * b + 2)) (2 ^ (2 * b + 10)) (distance_upto b small k few x (book (t * 4 + r)) h (g (t * 4 + r) (omega arith)) k (le_refl k)) (under b small k few) in
      sum_to_upto (λ t. far (t * 4 + r)) m (2 * b + 10) each (lt_of_le_of_lt (le_trans (omega arith) small-book) (lit< tt)) (omega arith)

  pair_upto : (r s : ℕ) → r < 4 → s < 4 → Upto (add binary64 (every_fourth far r (n / 4)) (every_fourth far s (n / 4))) ((n / 4 + n / 4) * 2 ^ (2 * b + 10))
  pair_upto r s l u =
      let w = div-mul-le_self n 4 in
      both_upto (every_fourth far r (n / 4)) (every_fourth far s (n / 4)) (n / 4) (n / 4) (2 * b + 10) (lt_of_le_of_lt (le_trans (omega arith) small-book) (lit< tt)) (omega arith)
      (fourth_upto r (n / 4) l (le_refl (n / 4))) (fourth_upto s (n / 4) u (le_refl (n / 4)))

  total_upto : Upto (sum_of_distances far (n / 4)) ((n / 4 + n / 4 + (n / 4 + n / 4)) * 2 ^ (2 * b + 10))
  total_upto =
      let w = div-mul-le_self n 4 in
      both_upto _ _ (n / 4 + n / 4) (n / 4 + n / 4) (2 * b + 10) (lt_of_le_of_lt (le_trans (omega arith) small-book) (lit< tt)) (omega arith) (pair_upto 0 1 (lit< tt) (lit< tt)) (pair_upto 2 3 (lit< tt) (lit< tt))

  pub finite_totals : FiniteTotals far n
  finite_totals = record {
    fourths = λ r m l u. upto_finite (every_fourth far r m) (m * 2 ^ (2 * b + 10)) (fourth_upto r m l u);
    first_pair = upto_finite (add binary64 (every_fourth far 0 (n / 4)) (every_fourth far 1 (n / 4))) ((n / 4 + n / 4) * 2 ^ (2 * b + 10)) (pair_upto 0 1 (lit< tt) (lit< tt));
    second_pair = upto_finite (add binary64 (every_fourth far 2 (n / 4)) (every_fourth far 3 (n / 4))) ((n / 4 + n / 4) * 2 ^ (2 * b + 10)) (pair_upto 2 3 (lit< tt) (lit< tt));
    whole = upto_finite (sum_of_distances far (n / 4)) ((n / 4 + n / 4 + (n / 4 + n / 4)) * 2 ^ (2 * b + 10)) total_upto;
  }
