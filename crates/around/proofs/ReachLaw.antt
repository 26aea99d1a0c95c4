-- What a radius reaches: `reach`; and when it is refused: `radius_refused`. Assumes nothing.
use mathlib.Core.Path.{◌≡◌, refl, sym, ap, subst, ◌∙◌}
use mathlib.Core.Logic.{◌⊎◌, inl, inr}
use Prim.Native.Nat.{ℕ, zero, suc, ◌+◌, ◌*◌, ◌^◌, ◌<◌}
use native.Mathlib.Nat.{le_refl, le_step, lt-suc_self, mul-pos, zero-mul, mul-one}
use native.Mathlib.Omega.{arith}
use mathlib.Core.Bool.{Bool, true, false, true≢false, not, ◌&&◌, ◌||◌, beq, cond}
use mathlib.Core.List.{[]}
use lib.Dec.{T, lit≤, lit<, T_not, eqb, eqb→eq}
use lib.Pow.{pow_pos}
use lib.ListN.{length}
use lib.Ieee.{Float, nan, inf, fin, binary64, up, down, unlike, round, add, sum, mul, lt, le, eq}
use lib.Ieee.Bits.{is_true}
use lib.Ieee.Fits.{and_l, and_i, down_pos}
use lib.Ieee.Scale.{finite, round_same}
use Rattle.error.specs.Numbers.{Outcome, completed, refused, also}
use Rattle.error.proofs.Outcomes.{never}
use Rattle.ieee.specs.Sum.{plus_zero, sum_to, squared_difference}
use Rattle.ieee.proofs.Order.{finite_number, finite_lt_inf, lt_le, le_not_lt, le_or_lt, le_le}
use Rattle.ieee.proofs.Apart.{single_upto, difference_at_least, square_of_least, above_zero, equal_square}
use Rattle.slices.proofs.CountLaw.{count_all, counted_somewhere}
use Rattle.lloyd_search.specs.Distance.{vector_of, row_of}
use Rattle.lloyd_search.specs.Finite.{FiniteDistance}
use Rattle.lloyd_search.specs.Nearest.{nearest, Least}
use Rattle.lloyd_search.proofs.Parts.{row_place}
use Rattle.lloyd_search.proofs.FiniteLaw.{Bounded, finite_distance, nearest_least}
use Rattle.lloyd_search.proofs.SizeLaw.{distance_not_negative, distance_at_least}
use Rattle.around.specs.Around.{Query, distance_to, square_of, within_radius, count_within, sound, radius_fits, around}
use Rattle.around.specs.Reach.{Sound, Equal, ExactHits, chosen, Reach, Radius}
use Rattle.around.proofs.SoundLaw.{Passed, sound_means, sound_not}

-- ---- the square of zero
nothing : round binary64 false 0 1 ≡ plus_zero
unfolding round
nothing = refl

no_less : T (le plus_zero plus_zero)
unfolding le lt eq
no_less = tt

alike : (s : Bool) → unlike s s ≡ false
alike true = refl
alike false = refl

square_of_zero : (r : Float) → T (eq r plus_zero) → square_of r ≡ plus_zero
unfolding eq mul
square_of_zero nan h = absurd h
square_of_zero (inf s) h = absurd h
square_of_zero (fin s m e) h =
    let none : m * up e ≡ 0 = sym (mul-one (m * up e)) ∙ eqb→eq (m * up e * 1) (0 * down e) (and_l (eqb (m * up e * 1) (0 * down e)) (beq s false || eqb (m * up e * 1) 0) h) ∙ zero-mul (down e) in
    let C = mul-pos (down_pos e) (down_pos e) in
    rw (none, alike s) (round_same binary64 false (0 * 0) (down e * down e) 0 1 C (lt-suc_self 0) (sym (zero-mul (down e * down e))) ∙ nothing)

-- ---- a sum of zeros
zeros_added : add binary64 plus_zero plus_zero ≡ plus_zero
unfolding add sum round
zeros_added = refl

zero_sum : (t : ℕ → Float) (n : ℕ) → ((i : ℕ) → i < n → t i ≡ plus_zero) → sum_to t n ≡ plus_zero
unfolding sum_to
zero_sum t zero h = refl
zero_sum t (suc n) h = ap (λ (a : Float). add binary64 a (t n)) (zero_sum t n (λ i l. h i (le_step l))) ∙ ap (λ (a : Float). add binary64 plus_zero a) (h n (lt-suc_self n)) ∙ zeros_added

module _ (q : Query) (h : Sound q) where
  abbrev k : ℕ
  k = q.dim

  abbrev x : ℕ → Float
  x = vector_of q.block

  abbrev book : ℕ → ℕ → Float
  book = row_of q.dim q.codewords

  passed : Passed q
  passed = (sound_means q true h.passes).0

  -- ---- the values
  block_place : (j : ℕ) → j < k → j < length q.block
  block_place j l = let e = passed.block_length in omega (arith, l, e)

  place : (m j : ℕ) → m < q.size → j < k → m * k + j < length q.codewords
  place m j l i = row_place m q.size k j (length q.codewords) l i passed.shape.length_is

  block_real : (j : ℕ) → j < k → T (finite (x j))
  block_real j l = passed.block_finite j (block_place j l)

  row_real : (m : ℕ) → m < q.size → (j : ℕ) → j < k → T (finite (book m j))
  row_real m l j i = passed.codewords_finite (m * k + j) (place m j l i)

  block_bounded : Bounded 128 k x
  block_bounded j l = single_upto (x j) (h.block_of_singles j (block_place j l)) (block_real j l)

  row_bounded : (m : ℕ) → m < q.size → Bounded 128 k (book m)
  row_bounded m l j i = single_upto (book m j) (h.codewords_of_singles (m * k + j) (place m j l i)) (row_real m l j i)

  finite_to : (m : ℕ) → m < q.size → FiniteDistance k x (book m)
  finite_to m l = finite_distance 128 (lit≤ tt) k passed.shape.coordinates_upto x (book m) block_bounded (row_bounded m l)

  real : (m : ℕ) → m < q.size → T (finite (distance_to q m))
  real m l = (finite_to m l).partial_sums k (le_refl k)

  -- ---- exact hits
  module _ (m : ℕ) (l : m < q.size) where
    differ : (j : ℕ) → j < k → T (le (distance_to q m) plus_zero) → (T (eq (x j) (book m j)) → ⊥) → ⊥
    differ j i c o =
        let f = finite_to m l in
        let apart = difference_at_least (x j) (book m j) (h.block_of_singles j (block_place j i)) (h.codewords_of_singles (m * k + j) (place m j l i)) (block_real j i) (row_real m l j i) o (f.differences j i) in
        above_zero (distance_to q m) (1 * 1) (2 ^ 298 * 2 ^ 298) (lt-suc_self 0) (distance_not_negative k x (book m) f)
        (distance_at_least k x (book m) f j 1 (2 ^ 298) i (pow_pos 298) square_of_least apart) c

    hit : T (le (distance_to q m) plus_zero) → Equal q m
    hit c j i = go (eq (x j) (book m j)) refl
      where
        go : (b : Bool) → eq (x j) (book m j) ≡ b → T b
        go true e = tt
        go false e = absurd (differ j i c (λ t. subst T e t))

    same : Equal q m → distance_to q m ≡ plus_zero
    same e = zero_sum (λ j. squared_difference (x j) (book m j)) k (λ j i. equal_square (x j) (book m j) (block_real j i) (row_real m l j i) (e j i))

  module _ (radius : Float) where
    exact : square_of radius ≡ plus_zero → ExactHits q radius
    exact e m l = (
      λ t. hit m l (subst (λ (y : Float). T (le (distance_to q m) y)) e t),
      λ t. subst (λ (y : Float). T (le y (square_of radius))) (sym (same m l t)) (subst (λ (y : Float). T (le plus_zero y)) (sym e) no_less),
    )

    -- ---- everything
    near_all : square_of radius ≡ inf false → (m : ℕ) → m < q.size → T (within_radius q radius m)
    near_all e m l = subst (λ (y : Float). T (le (distance_to q m) y)) (sym e) (lt_le (distance_to q m) (inf false) (finite_lt_inf (distance_to q m) (real m l)))

    -- ---- the nearest
    least : Least (distance_to q) q.size (nearest k q.size book x)
    least = nearest_least 128 (lit≤ tt) k passed.shape.coordinates_upto q.size passed.shape.codewords book row_bounded x block_bounded

    nearest_within : (m : ℕ) → m < q.size → T (within_radius q radius m) → T (within_radius q radius (chosen q))
    nearest_within m l t =
        let c = chosen q in
        elim (le_or_lt (distance_to q c) (distance_to q m) (finite_number _ (real c least.within)) (finite_number _ (real m l))) [
          | inl a ↦ le_le (distance_to q c) (distance_to q m) (square_of radius) a t
          | inr a ↦ absurd (T_not (lt (distance_to q m) (distance_to q c)) (subst (λ (y : Float). T (not (lt (distance_to q m) y))) least.is (least.none_nearer m l)) a)
        ]

    pub reach : Reach q radius
    reach = record {
      distances = λ m l. (real m l, distance_not_negative k x (book m) (finite_to m l));
      zero = λ t. exact (square_of_zero radius t);
      small = exact;
      large = λ e. (near_all e, count_all (within_radius q radius) q.size (near_all e));
      chosen_within = λ t. let (m, l, c) = counted_somewhere (within_radius q radius) q.size t in nearest_within m l c;
    }

-- ---- when it is refused
-- a radius is refused exactly where it is below zero or not finite
refused_radius : (r : Float) → radius_fits r ≡ false → T (lt r plus_zero) ⊎ T (not (finite r))
refused_radius nan e = inr tt
refused_radius (inf s) e = inr tt
refused_radius (fin s m d) e =
    let r = fin s m d in
    elim (le_or_lt plus_zero r (finite_number plus_zero tt) (finite_number r tt)) [
      | inl l ↦ absurd (true≢false (sym (is_true _ (and_i (le plus_zero r) true l tt)) ∙ e))
      | inr l ↦ inl l
    ]

accepted_radius : (r : Float) → T (finite r) → T (not (lt r plus_zero)) → radius_fits r ≡ true
accepted_radius r f h =
    elim (le_or_lt plus_zero r (finite_number plus_zero tt) (finite_number r f)) [
      | inl l ↦ is_true _ (and_i (le plus_zero r) (finite r) l f)
      | inr l ↦ absurd (T_not (lt r plus_zero) h l)
    ]

not_accepted : (r : Float) → (T (le plus_zero r) → T (finite r) → ⊥) → radius_fits r ≡ false
not_accepted r o = go (le plus_zero r) (finite r) o
  where
    go : (a b : Bool) → (T a → T b → ⊥) → a && b ≡ false
    go true true o = absurd (o tt tt)
    go true false o = refl
    go false b o = refl

module _ (q : Query) (radius : Float) (places : ℕ) where
  abbrev checked : Outcome Unit
  checked = sound q (eqb places q.size)

  decided : (b : Bool) → radius_fits radius ≡ b → checked ≡ completed tt → around q radius places ≡ cond b (completed (count_within q radius)) (refused 21 [])
  decided b e s = rw (s, e) refl

  came_from : (b : Bool) → radius_fits radius ≡ b → cond b (completed (count_within q radius)) (refused 21 []) ≡ refused 21 [] → radius_fits radius ≡ false
  came_from true e h = absurd (never 21 [] (count_within q radius) (sym h))
  came_from false e h = e

  only_then : (o : Outcome Unit) → (o ≡ refused 21 [] → ⊥) → also o (cond (radius_fits radius) (completed (count_within q radius)) (refused 21 [])) ≡ refused 21 []
      → (o ≡ completed tt) × (radius_fits radius ≡ false)
  only_then (completed u) n e = (refl, came_from (radius_fits radius) refl e)
  only_then (refused m vs) n e = absurd (n (let i : m ≡ 21 = cc in let j : vs ≡ [] = cc in rw (i, j) refl))

  pub radius_refused : Radius q radius places
  radius_refused = record {
    below_zero = λ s h. decided false (not_accepted radius (λ l f. T_not (lt radius plus_zero) (le_not_lt plus_zero radius l) h)) s;
    not_finite = λ s h. decided false (not_accepted radius (λ l f. T_not (finite radius) h f)) s;
    only = λ e. let a = only_then checked (sound_not q (eqb places q.size) 21 [] (lit< tt)) e in (a.0, refused_radius radius a.1);
    others = λ s f h. decided true (accepted_radius radius f h) s;
  }
