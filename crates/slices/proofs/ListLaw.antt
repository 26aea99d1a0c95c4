-- What stands in a patched list. Assumes nothing.
use mathlib.Core.Path.{◌≡◌, refl, sym, ap, ◌∙◌}
use mathlib.Core.Logic.{◌⊎◌, inl, inr, ⊎_elim}
use Prim.Native.Nat.{ℕ, zero, suc, ◌+◌, ◌≤◌, ◌<◌}
use native.Mathlib.Nat.{eq-or-lt_of_le, le_of_suc-le-suc, le_trans, le-suc, zero-add}
use native.Mathlib.Omega.{arith}
use native.Mathlib.Numerals.{add-one}
use mathlib.Core.List.{List}
use lib.ListN.{length, get_or, set, length-set}
use lib.Seq.{get_or-set_same, get_or-set_other, ext_get_or}
use Rattle.slices.specs.Lists.{tabulate, patched}
use Rattle.slices.proofs.TabulateLaw.{length-tabulate, get_d_tabulate}

module _ {A : Type 0} where
  -- ---- patched
  module _ (xs : List A) (at : ℕ) where
    pub length-patched : (n : ℕ) (f : ℕ → A) → length (patched xs at n f) ≡ length xs
    unfolding patched
    length-patched zero f = refl
    length-patched (suc n) f = length-set (patched xs at n f) (at + n) (f n) ∙ length-patched n f

    -- outside of the n places nothing changes
    pub patched_below : (n : ℕ) (f : ℕ → A) (i : ℕ) (d : A) → i < at → get_or (patched xs at n f) i d ≡ get_or xs i d
    unfolding patched
    patched_below zero f i d h = refl
    patched_below (suc n) f i d h = get_or-set_other (patched xs at n f) (at + n) i (f n) d (λ e. omega arith) ∙ patched_below n f i d h

    pub patched_above : (n : ℕ) (f : ℕ → A) (i : ℕ) (d : A) → at + n ≤ i → get_or (patched xs at n f) i d ≡ get_or xs i d
    unfolding patched
    patched_above zero f i d h = refl
    patched_above (suc n) f i d h = get_or-set_other (patched xs at n f) (at + n) i (f n) d (λ e. omega arith) ∙ patched_above n f i d (omega arith)

    -- inside stands f
    pub patched_inside : (n : ℕ) (f : ℕ → A) (j : ℕ) (d : A) → at + n ≤ length xs → j < n → get_or (patched xs at n f) (at + j) d ≡ f j
    unfolding patched
    patched_inside zero f j d l h = absurd (omega arith)
    patched_inside (suc n) f j d l h = elim (eq-or-lt_of_le (le_of_suc-le-suc h)) [
      | inl e ↦ rw e (get_or-set_same (patched xs at n f) (at + n) (f n) d (let k = length-patched n f in omega arith))
      | inr m ↦ get_or-set_other (patched xs at n f) (at + n) (at + j) (f n) d (λ e. omega arith) ∙ patched_inside n f j d (omega arith) m
    ]

  pub patched_ext : (xs : List A) (at n : ℕ) (f g : ℕ → A) → ((i : ℕ) → i < n → f i ≡ g i) → patched xs at n f ≡ patched xs at n g
  unfolding patched
  patched_ext xs at zero f g h = refl
  patched_ext xs at (suc n) f g h = rw (patched_ext xs at n f g (λ i l. h i (le_trans l (le-suc n))), h n (omega arith))

  -- one more store of a loop that writes the places from `at` on
  pub patched_more : (xs s : List A) (at i j : ℕ) (f : ℕ → A) (v : A) → s ≡ patched xs at i f → j ≡ at + i → v ≡ f i → set s j v ≡ patched xs at (i + 1) f
  unfolding patched
  patched_more xs s at i j f v h e q = rw (add-one, h, e, q)

  -- and the value at the next place of such a loop is still the first one
  pub patched_next : (xs s : List A) (at i j : ℕ) (f : ℕ → A) (d : A) → s ≡ patched xs at i f → j ≡ at + i → get_or s j d ≡ get_or xs (at + i) d
  patched_next xs s at i j f d h e = rw (h, e) (patched_above xs at i f (at + i) d (omega arith))

  -- and what stands outside of the places written so far is
  pub patched-apart : (xs s : List A) (at i j : ℕ) (f : ℕ → A) (d : A) → s ≡ patched xs at i f → (j < at) ⊎ (at + i ≤ j) → get_or s j d ≡ get_or xs j d
  patched-apart xs s at i j f d h o = rw h (⊎_elim (λ l. patched_below xs at i f j d l) (λ l. patched_above xs at i f j d l) o)

  -- all of it
  pub patched_all : (xs : List A) (f : ℕ → A) (d : A) → patched xs 0 (length xs) f ≡ tabulate (length xs) f
  patched_all xs f d =
      let L = length-patched xs 0 (length xs) f in
      ext_get_or d (patched xs 0 (length xs) f) (tabulate (length xs) f) (L ∙ sym (length-tabulate (length xs) f))
      (λ i l. ap (λ (z : ℕ). get_or (patched xs 0 (length xs) f) z d) (sym (zero-add i)) ∙ patched_inside xs 0 (length xs) f i d (omega arith) (omega arith) ∙ sym (get_d_tabulate (length xs) f i d (omega arith)))
