-- Laws of a list given by its elements, and of a list whose first elements
-- are so given, as a loop that writes one after another leaves it.
-- Assumes nothing.
use mathlib.Core.Path.{◌≡◌, refl, sym, ap, ◌∙◌}
use Prim.Native.Nat.{ℕ, zero, suc, ◌+◌, ◌≤◌, ◌<◌}
use native.Mathlib.Omega.{arith}
use native.Mathlib.Numerals.{add-one}
use mathlib.Core.List.{List, [], ◌∷◌, append-nil}
use lib.ListN.{length, get_or, set, replicate, drop_of_length-le}
use lib.Seq.{ext_get_or}
use Rattle.slices.specs.Lists.{tabulate, filled}

module _ {A : Type 0} where
  pub length-tabulate : (n : ℕ) (f : ℕ → A) → length (tabulate n f) ≡ n
  unfolding tabulate
  length-tabulate zero f = refl
  length-tabulate (suc n) f = ap suc (length-tabulate n (λ (i : ℕ). f (suc i)))

  pub get_d_tabulate : (n : ℕ) (f : ℕ → A) (i : ℕ) (d : A) → i < n → get_or (tabulate n f) i d ≡ f i
  unfolding tabulate
  get_d_tabulate zero f i d h = absurd (omega arith)
  get_d_tabulate (suc n) f zero d h = refl
  get_d_tabulate (suc n) f (suc i) d h = get_d_tabulate n (λ (j : ℕ). f (suc j)) i d (omega arith)

  -- the same element at every place
  pub tabulate_same : (n : ℕ) (a : A) → tabulate n (λ i. a) ≡ replicate n a
  unfolding tabulate
  tabulate_same zero a = refl
  tabulate_same (suc n) a = ap (λ (l : List A). a ∷ l) (tabulate_same n a)

  pub tabulate_ext : (n : ℕ) (f g : ℕ → A) → ((i : ℕ) → i < n → f i ≡ g i) → tabulate n f ≡ tabulate n g
  unfolding tabulate
  tabulate_ext zero f g h = refl
  tabulate_ext (suc n) f g h =
      rw (h 0 (omega arith)) (ap (λ (l : List A). g 0 ∷ l) (tabulate_ext n (λ (i : ℕ). f (suc i)) (λ (i : ℕ). g (suc i)) (λ i l. h (suc i) (omega arith))))

  -- one more element
  pub filled_next : (n : ℕ) (f : ℕ → A) (l : List A) → n < length l → set (filled n f l) n (f n) ≡ filled (suc n) f l
  unfolding tabulate
  filled_next n f [] h = absurd (omega arith)
  filled_next zero f (a ∷ l) h = refl
  filled_next (suc n) f (a ∷ l) h = ap (λ (k : List A). f 0 ∷ k) (filled_next n (λ (i : ℕ). f (suc i)) l (omega arith))

  -- the same, for the value and the count as a program has them
  pub filled_with : (n m : ℕ) (f : ℕ → A) (l : List A) (a : A) → n < length l → m ≡ n + 1 → a ≡ f n → set (filled n f l) n a ≡ filled m f l
  filled_with n m f l a h e v = rw (e, v, add-one) (filled_next n f l h)

  -- the elements that are still to come are as they were
  pub get_d_filled : (n : ℕ) (f : ℕ → A) (l : List A) (d : A) → n < length l → get_or (filled n f l) n d ≡ get_or l n d
  unfolding tabulate
  get_d_filled n f [] d h = absurd (omega arith)
  get_d_filled zero f (a ∷ l) d h = refl
  get_d_filled (suc n) f (a ∷ l) d h = get_d_filled n (λ (i : ℕ). f (suc i)) l d (omega arith)

  -- all of them
  pub filled_all : (n : ℕ) (f : ℕ → A) (l : List A) → length l ≤ n → filled n f l ≡ tabulate n f
  filled_all n f l h = rw (drop_of_length-le l h, append-nil (tabulate n f))

  -- a list is tabulated from what stands at each place
  pub tabulate_is : (d : A) (xs : List A) (f : ℕ → A) → ((i : ℕ) → i < length xs → get_or xs i d ≡ f i) → xs ≡ tabulate (length xs) f
  tabulate_is d xs f h = ext_get_or d xs (tabulate (length xs) f) (sym (length-tabulate (length xs) f)) (λ i l. h i l ∙ sym (get_d_tabulate (length xs) f i d l))
