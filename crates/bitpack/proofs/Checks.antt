-- Laws of the checks: the first index above a bound, what a size that is completed says, and the answers that follow.
-- Assumes nothing.
use Prim.Native.Nat.{ℕ, zero, suc, ◌+◌, ◌*◌, ◌-◌, ◌%◌, ◌^◌, ◌<◌, ◌≤◌}
use mathlib.Core.Path.{◌≡◌, refl, sym, ◌∙◌}
use mathlib.Core.Bool.{Bool, true, false, cond}
use mathlib.Core.List.{List, [], ◌∷◌}
use Rattle.std.specs.List.{find}
use Rattle.std.specs.Option.{option_map_or}
use Rattle.std.specs.Prelude.{None, Some}
use mathlib.Core.Logic.{inl, inr, ⊎_elim}
use native.Mathlib.Omega.{arith}
use native.Mathlib.Nat.{lt_of_lt_of_le}
use lib.Pow.{pow_pos, pow_mono, ones_lt, lt_of_le_ones}
use lib.ListN.{length, get_or}
use lib.Dec.{ltb, leb}
use borrow.Author.Tests.{ltb-true, ltb-false, leb-true, eq-eqb, not-false, le-leb, le-ltb}
use Rattle.error.specs.Numbers.{Outcome, completed, refused, whole}
use Rattle.error.proofs.Outcomes.{both, never, completed_same, passed}
use Rattle.bitpack.specs.Layout.{bytes_for}
use Rattle.bitpack.specs.Answers.{packed_size, in_range, packable}
use Rattle.bitpack.specs.Range.{Ranged}
use Rattle.bitpack.proofs.Steps.{power}

pub size_is : (count w : ℕ) → 1 ≤ w → w ≤ 32 → count * w + 7 < 2 ^ 64 → packed_size count w ≡ completed (bytes_for (count * w))
unfolding packed_size
size_is count w h l p = rw (le-leb 1 w h, le-leb w 32 l, le-ltb (2 ^ 64 - 1) (count * w + 7) (omega arith))

abbrev pub above : ℕ → ℕ → Outcome Unit
above bound x = refused 11 (whole x ∷ whole bound ∷ [])

-- the first index above the bound, if there is one, is what `in_range` refuses
pub range_found : (xs : List ℕ) (bound : ℕ) → in_range xs bound ≡ option_map_or (above bound) (find (ltb bound) xs) (completed tt)
unfolding in_range
range_found [] bound = refl
range_found (x ∷ xs) bound = go (ltb bound x) (range_found xs bound)
  where
    go : (t : Bool) → in_range xs bound ≡ option_map_or (above bound) (find (ltb bound) xs) (completed tt)
        → cond t (above bound x) (in_range xs bound) ≡ option_map_or (above bound) (cond t (Some x) (find (ltb bound) xs)) (completed tt)
    go true e = refl
    go false e = e

each_more : (x : ℕ) (xs : List ℕ) (bound n : ℕ) → x ≤ bound → ((j : ℕ) → j < n → get_or xs j 0 ≤ bound) → (j : ℕ) → j < suc n → get_or (x ∷ xs) j 0 ≤ bound
each_more x xs bound n l h zero b = l
each_more x xs bound n l h (suc j) b = h j (omega arith)

range_more : (x : ℕ) (xs : List ℕ) (bound : ℕ) (o : Outcome Unit) → x ≤ bound → Ranged xs bound o → Ranged (x ∷ xs) bound o
range_more x xs bound o l (inl h) = inl (h.0, λ i. each_more x xs bound i l (λ j b. h.1 j) i (omega arith))
range_more x xs bound o l (inr (place, first, e)) =
    inr (suc place, record { inside = let h = first.inside in omega arith; above = first.above; earlier = each_more x xs bound place l first.earlier }, e)

range_split : (x : ℕ) (xs : List ℕ) (bound : ℕ) (o : Outcome Unit) (t : Bool) → ltb bound x ≡ t → Ranged xs bound o
    → Ranged (x ∷ xs) bound (cond t (refused 11 (whole x ∷ whole bound ∷ [])) o)
range_split x xs bound o true e r = inr (0, record { inside = omega arith; above = ltb-true bound x e; earlier = λ j b. omega arith }, refl)
range_split x xs bound o false e r = range_more x xs bound o (ltb-false bound x e) r

-- what `inRange` means
pub range_cases : (xs : List ℕ) (bound : ℕ) → Ranged xs bound (in_range xs bound)
unfolding in_range
range_cases [] bound = inl (refl, λ i. omega arith)
range_cases (x ∷ xs) bound = range_split x xs bound (in_range xs bound) (ltb bound x) refl (range_cases xs bound)

-- a list in range has no index above the bound
pub range_all : (xs : List ℕ) (bound : ℕ) → in_range xs bound ≡ completed tt → (i : ℕ) → get_or xs i 0 ≤ bound
range_all xs bound e i = ⊎_elim (λ h. h.1 i) (λ h. absurd (never _ _ _ (sym h.2 ∙ e))) (range_cases xs bound)

-- what a size that is completed says
pub record Fitting (count w size : ℕ) : Type 0 where
  pub some : 1 ≤ w
  pub narrow : w ≤ 32
  pub fits : count * w + 7 < 2 ^ 64
  pub is : size ≡ bytes_for (count * w)

pub size_completed : (count w size : ℕ) → completed size ≡ packed_size count w → Fitting count w size
unfolding packed_size
size_completed count w size e =
    let width = passed _ _ _ _ size (sym e) in
    let bits = passed _ _ _ _ size width.1 in
    let within = both (leb 1 w) (leb w 32) (not-false _ width.0) in
    let few = ltb-false (2 ^ 64 - 1) (count * w + 7) bits.0 in
    record { some = leb-true 1 w within.0; narrow = leb-true w 32 within.1; fits = omega arith; is = sym (completed_same _ _ bits.1) }

-- the largest index of width w, as the program finds it
abbrev pub largest : ℕ → ℕ
largest w = 1 * 2 ^ w % 18446744073709551616 - 1

largest_is : (w : ℕ) → w ≤ 32 → largest w ≡ 2 ^ w - 1
largest_is w l = rw (power w l)

pub power_positive : (w : ℕ) → w ≤ 32 → 1 ≤ 1 * 2 ^ w % 18446744073709551616
power_positive w l = rw (power w l) (pow_pos w)

pub largest_fits : (w : ℕ) → w ≤ 32 → largest w < 2 ^ 32
largest_fits w l = rw (power w l) (lt_of_lt_of_le (ones_lt w) (pow_mono {i = w} {j = 32} l))

-- what the scan up to that index says, once the output has room
module _ (xs : List ℕ) (w size room : ℕ) (sized : completed size ≡ packed_size (length xs) w) (h : room ≡ size) where
  scanned : in_range xs (largest w) ≡ packable xs w room
  scanned = rw (← sized, eq-eqb room size h, largest_is w (size_completed _ _ _ sized).narrow)

  pub pack_refused : (index : ℕ) → Some index ≡ find (ltb (largest w)) xs
      → refused 11 (whole index ∷ whole (largest w) ∷ []) ≡ packable xs w room
  pack_refused index e = rw (← scanned, range_found xs (largest w), ← e)

  none_above : None ≡ find (ltb (largest w)) xs → in_range xs (largest w) ≡ completed tt
  none_above e = rw (range_found xs (largest w), ← e)

  pub pack_done : None ≡ find (ltb (largest w)) xs → completed tt ≡ packable xs w room
  pack_done e = sym (none_above e) ∙ scanned

  pub all_fit : None ≡ find (ltb (largest w)) xs → (i : ℕ) → get_or xs i 0 < 2 ^ w
  all_fit e i = lt_of_le_ones w (rw (largest_is w (size_completed _ _ _ sized).narrow) at (range_all xs _ (none_above e) i))
