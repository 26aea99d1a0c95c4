-- A buffer that is filled part after part, until it is filled; a search that sees its tests only. Assumes nothing.
use mathlib.Core.Path.{◌≡◌, refl, sym, ap, ◌∙◌}
use Prim.Native.Nat.{ℕ, zero, suc, ◌+◌, ◌<◌}
use native.Mathlib.Nat.{add-suc, zero-add, add-zero, le_trans, le-suc}
use native.Mathlib.Omega.{arith}
use mathlib.Core.Bool.{Bool}
use mathlib.Core.List.{List}
use lib.ListN.{length, get_or}
use lib.Ieee.{Float, nan}
use Rattle.slices.specs.First.{first_where}
use Rattle.slices.specs.Lists.{tabulate, patched}
use Rattle.slices.proofs.ListLaw.{patched_all}
use Rattle.slices.proofs.TabulateLaw.{tabulate_is}

pub first_where_ext : (t u : ℕ → Bool) (n : ℕ) → ((i : ℕ) → i < n → t i ≡ u i) → first_where t n ≡ first_where u n
unfolding first_where
first_where_ext t u zero h = refl
first_where_ext t u (suc n) h = rw (first_where_ext t u n (λ i l. h i (le_trans l (le-suc n))), h n (omega arith))

module _ {A : Type 0} where
  -- n places filled, and m after them
  pub patched_then : (xs : List A) (n m : ℕ) (f g : ℕ → A) → ((j : ℕ) → j < m → g j ≡ f (n + j)) → patched (patched xs 0 n f) n m g ≡ patched xs 0 (n + m) f
  unfolding patched
  patched_then xs n zero f g h = rw (add-zero n)
  patched_then xs n (suc m) f g h = rw (add-suc, patched_then xs n m f g (λ j l. h j (le_trans l (le-suc m))), h m (omega arith), zero-add)

-- every place written: the values that stand there
pub all_written : (xs s : List Float) (i : ℕ) (f : ℕ → Float) → s ≡ patched xs 0 i f → i ≡ length xs → s ≡ tabulate (length xs) f
all_written xs s i f h e = h ∙ ap (λ (n : ℕ). patched xs 0 n f) e ∙ patched_all xs f nan

-- and where these are another list's, that list
pub all_copied : (xs s l : List Float) (i : ℕ) → s ≡ patched xs 0 i (λ j. get_or l j nan) → i ≡ length xs → length l ≡ length xs → s ≡ l
all_copied xs s l i h e k =
    all_written xs s i (λ j. get_or l j nan) h e ∙ ap (λ (n : ℕ). tabulate n (λ j. get_or l j nan)) (sym k) ∙ sym (tabulate_is nan l (λ j. get_or l j nan) (λ j m. refl))
