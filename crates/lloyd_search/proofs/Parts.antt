-- A row of a list, handed over as a part of a slice; distance and nearest see coordinates only. Assumes nothing.
use mathlib.Core.Path.{◌≡◌, refl, ap, ◌∙◌}
use Prim.Native.Nat.{ℕ, zero, suc, ◌+◌, ◌-◌, ◌*◌, ◌≤◌, ◌<◌}
use native.Mathlib.Nat.{suc-mul, mul-le-mul_right, le_step, lt-suc_self}
use native.Mathlib.Omega.{arith}
use mathlib.Core.List.{List}
use lib.ListN.{length, get_or, take, drop, length-take, length-drop}
use lib.Seq.{get_or-take, get_or-drop}
use lib.Ieee.{Float, nan}
use Rattle.ieee.proofs.Bound.{sum_to_ext}
use Rattle.lloyd_search.specs.Distance.{distance, vector_of, row_of, vector_as, row_as}
use Rattle.ieee.specs.Sum.{squared_difference}
use Rattle.lloyd_search.specs.Nearest.{first_least, nearest}
use Rattle.lloyd_search.specs.Choice.{last_least, chosen}

-- row i of n lies within the list
pub row_fits : (i n k at L : ℕ) → i < n → at ≡ i * k → L ≡ n * k → at + k ≤ L
row_fits i n k at L h a l = omega (arith, mul-le-mul_right k h, suc-mul i k)

-- the place of a coordinate of row i lies within the list
pub row_place : (i n k j L : ℕ) → i < n → j < k → L ≡ n * k → i * k + j < L
row_place i n k j L h l e = omega (arith, mul-le-mul_right k h, suc-mul i k)

pub next_row : (i k at end : ℕ) → at ≡ i * k → end ≡ at + k → end ≡ (i + 1) * k
next_row i k at end a e = let s = suc-mul i k in let o : (i + 1) * k ≡ suc i * k = ap (λ (z : ℕ). z * k) one in omega arith
  where
    one : i + 1 ≡ suc i
    one = omega arith

cut : (at k : ℕ) → at + k - at ≡ k
cut at k = omega arith

module _ {A : Type 0} (xs : List A) (i k at : ℕ) (is : at ≡ i * k) where
  pub part_length : at + k ≤ length xs → length (take (at + k - at) (drop at xs)) ≡ k
  part_length h = simp (length-take, length-drop) (omega arith)

  -- the coordinates of the part are those of the row
  pub part_row_as : (value : A → Float) (missing : A) (j : ℕ) → j < k → vector_as value missing (take (at + k - at) (drop at xs)) j ≡ row_as value missing k xs i j
  part_row_as value missing j h = rw (cut at k) (ap value (get_or-take k (drop at xs) j missing h ∙ get_or-drop at xs j missing ∙ ap (λ (z : ℕ). get_or xs (z + j) missing) is))

-- the same of floats
pub part_row : (xs : List Float) (i k at : ℕ) → at ≡ i * k → (j : ℕ) → j < k → vector_of (take (at + k - at) (drop at xs)) j ≡ row_of k xs i j
part_row xs i k at is = part_row_as xs i k at is (λ (x : Float). x) nan

-- the distance sees coordinates only
pub distance_ext : (k : ℕ) (a b c d : ℕ → Float) → ((j : ℕ) → j < k → a j ≡ c j) → ((j : ℕ) → j < k → b j ≡ d j) → distance k a b ≡ distance k c d
distance_ext k a b c d h g = sum_to_ext (λ j. squared_difference (a j) (b j)) (λ j. squared_difference (c j) (d j)) k (λ j l. rw (h j l, g j l))

-- the distance to a part is that to the row
pub part_distance : (x : ℕ → Float) (xs : List Float) (i k at : ℕ) → at ≡ i * k → distance k x (vector_of (take (at + k - at) (drop at xs))) ≡ distance k x (row_of k xs i)
part_distance x xs i k at is = distance_ext k x _ x (row_of k xs i) (λ j h. refl) (part_row xs i k at is)

-- the same of a list of values that stand for floats
pub part_distance_as : {A : Type 0} (value : A → Float) (missing : A) (x : ℕ → Float) (xs : List A) (i k at : ℕ) → at ≡ i * k → distance k x (vector_as value missing (take (at + k - at) (drop at xs))) ≡ distance k x (row_as value missing k xs i)
part_distance_as value missing x xs i k at is = distance_ext k x _ x (row_as value missing k xs i) (λ j h. refl) (part_row_as xs i k at is value missing)

-- the search sees distances only
pub first_least_ext : (d e : ℕ → Float) (n : ℕ) → ((i : ℕ) → i < n → d i ≡ e i) → first_least d n ≡ first_least e n
unfolding first_least
first_least_ext d e zero h = refl
first_least_ext d e (suc n) h = rw (first_least_ext d e n (λ i l. h i (le_step l)), h n (lt-suc_self n))

pub nearest_ext : (k n : ℕ) (book : ℕ → ℕ → Float) (x y : ℕ → Float) → ((j : ℕ) → j < k → x j ≡ y j) → nearest k n book x ≡ nearest k n book y
nearest_ext k n book x y h = first_least_ext (λ i. distance k x (book i)) (λ i. distance k y (book i)) n (λ i l. distance_ext k x (book i) y (book i) h (λ j m. refl))

last_least_ext : (d e : ℕ → Float) (n : ℕ) → ((i : ℕ) → i < n → d i ≡ e i) → last_least d n ≡ last_least e n
unfolding last_least
last_least_ext d e zero h = refl
last_least_ext d e (suc n) h = rw (last_least_ext d e n (λ i l. h i (le_step l)), first_least_ext d e n (λ i l. h i (le_step l)), h n (lt-suc_self n))

pub chosen_ext : (k n : ℕ) (book : ℕ → ℕ → Float) (x y : ℕ → Float) → ((j : ℕ) → j < k → x j ≡ y j) → chosen k n book x ≡ chosen k n book y
chosen_ext k n book x y h =
    let far : (i : ℕ) → i < n → distance k x (book i) ≡ distance k y (book i) = λ i l. distance_ext k x (book i) y (book i) h (λ j m. refl) in
    rw (first_least_ext (λ i. distance k x (book i)) (λ i. distance k y (book i)) n far, last_least_ext (λ i. distance k x (book i)) (λ i. distance k y (book i)) n far)

-- the choice for a part is that for the row
pub part_chosen : (book : ℕ → ℕ → Float) (xs : List Float) (n i k at : ℕ) → at ≡ i * k → chosen k n book (vector_of (take (at + k - at) (drop at xs))) ≡ chosen k n book (row_of k xs i)
part_chosen book xs n i k at is = chosen_ext k n book _ (row_of k xs i) (part_row xs i k at is)
