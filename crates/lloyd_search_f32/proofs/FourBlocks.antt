-- Four blocks that stand one after another, and one codeword more. Assumes nothing.
use Rattle.std.proofs.Common.{◌≡◌, ℕ, ◌+◌, ◌-◌, ◌*◌, ◌<◌, ◌≤◌, List, [], ◌∷◌, length, get_or, take, drop, Float, refl, ap, ◌∙◌, arith, get_or-take, get_or-drop}
use native.Mathlib.Nat.{add-mul}
use Rattle.std.specs.Float.{nan, binary64}
use Rattle.ieee.specs.Sum.{squared_difference}
use Rattle.ieee.proofs.Bound.{sum_to_ext}
use Rattle.ieee.proofs.Square.{square_turned}
use Rattle.lloyd_search.specs.declared.Choice.{Choice}
use Rattle.lloyd_search.specs.Distance.{distance, vector_of, row_of}
use Rattle.lloyd_search.specs.Choice.{chosen, passing}
use Rattle.lloyd_search.specs.Four.{four_from}
use Rattle.lloyd_search_f32.specs.Four.{four_chosen}
use Rattle.lloyd_search.proofs.Parts.{row_place, part_length, part_distance, chosen_ext}
use Rattle.lloyd_search.proofs.NearestLaw.{one_more}
use Rattle.lloyd_search.proofs.Fours.{four_each}

-- the distance does not hang on which of the two is taken from the other
distance_turned : (k : ℕ) (x y : ℕ → Float) → distance k x y ≡ distance k y x
distance_turned k x y = sum_to_ext (λ j. squared_difference (x j) (y j)) (λ j. squared_difference (y j) (x j)) k (λ j l. square_turned binary64 (x j) (y j))

-- the part of k values from `at` on
abbrev pub part : List Float → ℕ → ℕ → List Float
part xs k at = take (at + k - at) (drop at xs)

module _ (xs ys : List Float) (i k : ℕ) (inside : i * k + k ≤ length xs) (far : List Float)
    (is : far ≡ four_from (length (part xs k (i * k))) (vector_of (part xs k (i * k))) (row_of (length (part xs k (i * k))) ys) 0) where
  -- the distances of a codeword to four blocks are the blocks' to the codeword
  far_block : (m : ℕ) → m < 4 → vector_of far m ≡ distance k (row_of k ys m) (row_of k xs i)
  far_block m l =
      let e = part_length xs i k (i * k) refl inside in
      let h = rw e at is in
      ap (λ (f : List Float). vector_of f m) h ∙ four_each k (vector_of (part xs k (i * k))) (row_of k ys) 0 m l ∙ ap (λ (n : ℕ). distance k (vector_of (part xs k (i * k))) (row_of k ys n)) (omega arith)
      ∙ distance_turned k (vector_of (part xs k (i * k))) (row_of k ys m) ∙ part_distance (row_of k ys m) xs i k (i * k) refl

  -- and so the choice for a block after one codeword more
  far_chosen : (m : ℕ) → m < 4 → (best : Choice) → best ≡ chosen k i (row_of k xs) (row_of k ys m) → passing best i (vector_of far m) ≡ chosen k (i + 1) (row_of k xs) (row_of k ys m)
  far_chosen m l best h = one_more (λ n. distance k (row_of k ys m) (row_of k xs n)) i (i + 1) best _ (vector_of far m) refl h (far_block m l) refl

  pub four_passed : (best : List Choice) (none a b c d : Choice) → best ≡ four_chosen k i (row_of k xs) (row_of k ys) → a ≡ passing (get_or best 0 none) i (vector_of far 0) → b ≡ passing (get_or best 1 none) i (vector_of far 1)
      → c ≡ passing (get_or best 2 none) i (vector_of far 2) → d ≡ passing (get_or best 3 none) i (vector_of far 3)
      → a ∷ b ∷ c ∷ d ∷ [] ≡ four_chosen k (i + 1) (row_of k xs) (row_of k ys)
  four_passed best none a b c d h ea eb ec ed =
      let was : (m : ℕ) → get_or best m none ≡ get_or (four_chosen k i (row_of k xs) (row_of k ys)) m none = λ m. ap (λ (l : List Choice). get_or l m none) h in
      rw (
        ea ∙ far_chosen 0 (omega arith) _ (was 0),
        eb ∙ far_chosen 1 (omega arith) _ (was 1),
        ec ∙ far_chosen 2 (omega arith) _ (was 2),
        ed ∙ far_chosen 3 (omega arith) _ (was 3),
      )

-- four rows from row i on, handed over as a part
rows_of_part : (xs : List Float) (i m k at : ℕ) → at ≡ i * k → m < 4 → (j : ℕ) → j < k → row_of k (take (at + 4 * k - at) (drop at xs)) m j ≡ row_of k xs (i + m) j
rows_of_part xs i m k at is h j l =
    let cut : at + 4 * k - at ≡ 4 * k = omega arith in
    let b : m * k + j < 4 * k = row_place m 4 k j (4 * k) h l refl in
    let e : at + (m * k + j) ≡ (i + m) * k + j = omega (arith, add-mul i m k) in
    rw cut (get_or-take (4 * k) (drop at xs) (m * k + j) nan b ∙ get_or-drop at xs (m * k + j) nan ∙ ap (λ (z : ℕ). get_or xs z nan) e)

-- the choice for a block of the part is that for the row
row_chosen : (book : ℕ → ℕ → Float) (xs : List Float) (n i m k at : ℕ) → at ≡ i * k → m < 4 → chosen k n book (row_of k (take (at + 4 * k - at) (drop at xs)) m) ≡ chosen k n book (row_of k xs (i + m))
row_chosen book xs n i m k at is h = chosen_ext k n book _ _ (rows_of_part xs i m k at is h)

pub part_four_chosen : (book : ℕ → ℕ → Float) (xs : List Float) (n i k at : ℕ) → at ≡ i * k → four_chosen k n book (row_of k (take (at + 4 * k - at) (drop at xs))) ≡ four_chosen k n book (λ m. row_of k xs (i + m))
part_four_chosen book xs n i k at is = rw (row_chosen book xs n i 0 k at is (omega arith), row_chosen book xs n i 1 k at is (omega arith), row_chosen book xs n i 2 k at is (omega arith), row_chosen book xs n i 3 k at is (omega arith))
