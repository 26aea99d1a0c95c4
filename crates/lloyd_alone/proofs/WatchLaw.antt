-- A search in pairs that adds up its distances: it makes the choice that one makes in order, unless a distance is a NaN;
-- and where the sums are at most 2 ^ 250, so is every distance. Assumes nothing.
use mathlib.Core.Path.{◌≡◌, refl, sym, ap, ◌∙◌, subst}
use Prim.Native.Nat.{ℕ, zero, suc, ◌+◌, ◌*◌, ◌/◌, ◌%◌, ◌^◌, ◌<◌}
use native.Mathlib.Nat.{add-zero, div-add-mod', div-lt_iff_lt-mul, mod-lt}
use native.Mathlib.Omega.{arith}
use native.Mathlib.Numerals.{add-one}
use mathlib.Core.Bool.{false, not}
use lib.Dec.{T, lit<}
use mathlib.Core.List.{List, [], ◌∷◌}
use lib.Ieee.{Float, inf, binary64, add, lt, fits, is_nan}
use lib.Ieee.Fits.{add-fits}
use Rattle.ieee.specs.Bounds.{Upto}
use Rattle.ieee.specs.Sum.{plus_zero, sum_to}
use Rattle.ieee.proofs.Value.{holds_true}
use Rattle.slices.proofs.FirstLaw.{below_suc}
use Rattle.lloyd_search.specs.declared.Choice.{Choice}
use Rattle.lloyd_alone.specs.declared.Watched.{Watched}
use Rattle.lloyd_search.specs.Distance.{distance, vector_of}
use Rattle.lloyd_search.specs.Nearest.{first_least}
use Rattle.lloyd_search.specs.Choice.{last_least, passing, passing_all}
use Rattle.lloyd_search.specs.Four.{four_from}
use Rattle.lloyd_alone.specs.Totals.{every_fourth, sum_of_distances}
use Rattle.lloyd_alone.specs.Watch.{AllNear, NoNan, Watches, four_sums, watching, passing_two}
use Rattle.lloyd_search.proofs.LimitLaw.{power}
use Rattle.lloyd_search.proofs.Fours.{four_more, four_each}
use Rattle.ieee.proofs.Least.{sum_to_fits}
use Rattle.lloyd_search.proofs.FiniteLaw.{distance_fits}
use Rattle.lloyd_alone.proofs.PairLaw.{two_in_order}
use Rattle.lloyd_alone.proofs.SmallLaw.{NoMinus, add_no_minus, add_parts, sum_to_no_minus, sum_to_parts, lt_upto, distance_no_minus}

-- what is kept before any codeword is passed
abbrev pub unwatched : Watched
unwatched = record { best = record { found = record { index = 0; distance = inf false }; last = 0 }; sums = plus_zero ∷ plus_zero ∷ plus_zero ∷ plus_zero ∷ [] }

-- one more term of a sum of every fourth
pub sum_more : (d : ℕ → Float) (r m i : ℕ) (sum x : Float) → sum ≡ every_fourth d r m → x ≡ d i → i ≡ m * 4 + r → add binary64 sum x ≡ every_fourth d r (m + 1)
unfolding sum_to
sum_more d r m i sum x h e p = rw (add-one, h, e, p)

-- the four sums are at most 2 ^ 250
abbrev pub Low : (ℕ → Float) → ℕ → Type 0
Low d m = (r : ℕ) → r < 4 → Upto (every_fourth d r m) (2 ^ 250)

module _ (d : ℕ → Float) (p : (i : ℕ) → NoMinus (d i)) (v : (i : ℕ) → T (fits binary64 (d i))) where
  fourth_no_minus : (r m : ℕ) → NoMinus (every_fourth d r m)
  fourth_no_minus r m = sum_to_no_minus (λ t. d (t * 4 + r)) (λ t. p (t * 4 + r)) m

  fourth_fits : (r m : ℕ) → T (fits binary64 (every_fourth d r m))
  fourth_fits r m = holds_true (sum_to_fits (λ t. d (t * 4 + r)) m)

  -- distance i is term i / 4 of sum i % 4
  low_each : (m : ℕ) → Low d m → (i : ℕ) → i < m * 4 → Upto (d i) (2 ^ 250)
  low_each m h i l =
      let r = i % 4 in
      subst (λ (z : ℕ). Upto (d z) (2 ^ 250)) (div-add-mod' i 4)
      (sum_to_parts (λ t. d (t * 4 + r)) (λ t. p (t * 4 + r)) (λ t. v (t * 4 + r)) (2 ^ 250) m (h r (mod-lt i (lit< tt))) (i / 4) ((div-lt_iff_lt-mul (lit< tt)).1 l))

  pair_no_minus : (r s m : ℕ) → NoMinus (add binary64 (every_fourth d r m) (every_fourth d s m))
  pair_no_minus r s m = add_no_minus binary64 (every_fourth d r m) (every_fourth d s m) (fourth_no_minus r m) (fourth_no_minus s m)

  total_no_minus : (m : ℕ) → NoMinus (sum_of_distances d m)
  total_no_minus m = add_no_minus binary64 _ _ (pair_no_minus 0 1 m) (pair_no_minus 2 3 m)

  total_low : (m : ℕ) → Upto (sum_of_distances d m) (2 ^ 250) → Low d m
  total_low m h = go
    where
      pair : (r s : ℕ) → Upto (add binary64 (every_fourth d r m) (every_fourth d s m)) (2 ^ 250) → Upto (every_fourth d r m) (2 ^ 250) × Upto (every_fourth d s m) (2 ^ 250)
      pair r s = add_parts binary64 (every_fourth d r m) (every_fourth d s m) (2 ^ 250) (fourth_no_minus r m) (fourth_no_minus s m) (fourth_fits r m) (fourth_fits s m)

      halves : Upto (add binary64 (every_fourth d 0 m) (every_fourth d 1 m)) (2 ^ 250) × Upto (add binary64 (every_fourth d 2 m) (every_fourth d 3 m)) (2 ^ 250)
      halves =
          add_parts binary64 (add binary64 (every_fourth d 0 m) (every_fourth d 1 m)) (add binary64 (every_fourth d 2 m) (every_fourth d 3 m)) (2 ^ 250) (pair_no_minus 0 1 m) (pair_no_minus 2 3 m)
          (add-fits binary64 (every_fourth d 0 m) (every_fourth d 1 m)) (add-fits binary64 (every_fourth d 2 m) (every_fourth d 3 m)) h

      go : Low d m
      go zero l = (pair 0 1 halves.0).0
      go (suc zero) l = (pair 0 1 halves.0).1
      go (suc (suc zero)) l = (pair 2 3 halves.1).0
      go (suc (suc (suc zero))) l = (pair 2 3 halves.1).1
      go (suc (suc (suc (suc r)))) l = absurd (omega arith)

-- ---- a search
module _ (k : ℕ) (book : ℕ → ℕ → Float) (x : ℕ → Float) where
  abbrev far : ℕ → Float
  far i = distance k x (book i)

  no_minus : (i : ℕ) → NoMinus (far i)
  no_minus i = distance_no_minus k x (book i)

  fit : (i : ℕ) → T (fits binary64 (far i))
  fit i = holds_true (distance_fits k x (book i))

  pub none_watched : Watches k 0 book x unwatched
  unfolding first_least last_least sum_to
  none_watched = record { best_is = λ fine. refl; sums_are = refl }

  -- four more codewords in pairs are four more in order
  in_order : (i : ℕ) (f : ℕ → Float) (best : Choice) → T (not (is_nan (f 0))) → T (not (is_nan (f 2))) → passing_two (passing_two best i (f 0) (f 1)) (i + 2) (f 2) (f 3) ≡ passing_all best i f 4
  in_order i f best one three =
      let two = passing (passing best i (f 0)) (i + 1) (f 1) in
      ap (λ (c : Choice). passing_two c (i + 2) (f 2) (f 3)) (two_in_order best i (f 0) (f 1) one)
      ∙ two_in_order two (i + 2) (f 2) (f 3) three
      ∙ rw (add-zero i) (ap (λ (j : ℕ). passing (passing two (i + 2) (f 2)) j (f 3)) (omega arith))

  -- four more codewords, which are the first of the fours that are left
  pub four_watched : (m : ℕ) (four : List Float) (w r : Watched) → four ≡ four_from k x book (m * 4) → Watches k m book x w → r ≡ watching w (m * 4) (vector_of four) → Watches k (m + 1) book x r
  four_watched m four w r d h e =
      let i = m * 4 in
      let next : (m + 1) * 4 ≡ i + 4 = omega arith in
      let each : (q : ℕ) → q < 4 → vector_of four q ≡ far (i + q) = λ q l. ap (λ (f : List Float). vector_of f q) d ∙ four_each k x book i q l in
      let sum : (q : ℕ) → q < 4 → vector_of w.sums q ≡ every_fourth far q m → add binary64 (vector_of w.sums q) (vector_of four q) ≡ every_fourth far q (m + 1) = λ q l g. sum_more far q m (i + q) _ _ g (each q l) refl in
      let number : (q : ℕ) → q < 4 → NoNan k (i + 4) book x → T (not (is_nan (vector_of four q))) = λ q l fine. subst (λ (z : Float). T (not (is_nan z))) (sym (each q l)) (fine (i + q) (omega arith)) in
      let was : (q : ℕ) → vector_of w.sums q ≡ vector_of (four_sums k m book x) q = λ q. ap (λ (z : List Float). vector_of z q) h.sums_are in
      record {
        best_is =
            rw next (λ (fine : NoNan k (i + 4) book x). four_more k x book i w.best four r.best (h.best_is (λ j l. fine j (omega arith))) d
            (ap (λ (z : Watched). z.best) e ∙ in_order i (vector_of four) w.best (number 0 (lit< tt) fine) (number 2 (lit< tt) fine)));
        sums_are = ap (λ (z : Watched). z.sums) e ∙ rw (sum 0 (lit< tt) (was 0), sum 1 (lit< tt) (was 1), sum 2 (lit< tt) (was 2), sum 3 (lit< tt) (was 3));
      }

  -- a small sum of the sums shows that all of them are near
  pub fours_near : (m : ℕ) → T (lt (sum_of_distances far m) (power 250)) → AllNear k (m * 4) book x
  fours_near m h = low_each far no_minus fit m (total_low far no_minus fit m (lt_upto 250 (sum_of_distances far m) (total_no_minus far no_minus fit m) h))

  -- one more codeword
  pub one_near : (i : ℕ) (y : Float) → AllNear k i book x → y ≡ far i → T (lt y (power 250)) → AllNear k (i + 1) book x
  one_near i y h e l = rw add-one (below_suc (λ (j : ℕ). Upto (far j) (2 ^ 250)) i h (lt_upto 250 (far i) (no_minus i) (subst (λ (z : Float). T (lt z (power 250))) e l)))
