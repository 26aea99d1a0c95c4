-- `mag_of` rounds to nearest, ties to even, in IEEE 754's own words
-- (`Rounded`), at every precision and every largest exponent. Assumes nothing.
use Rattle.std.proofs.Common.{◌≡◌, ℕ, zero, suc, ◌+◌, ◌-◌, ◌*◌, ◌/◌, ◌%◌, ◌^◌, ◌<◌, ◌≤◌, min, cond, ltb, ◌≢◌, ◌⊎◌, sym, refl, ap, ◌∙◌, subst, inl, inr, zero-le, le_trans, lt_trans, le_of_eq, le_refl, le_of_suc-le-suc, le_of_lt, add-suc, mod-lt, lt-suc_self, suc-mul, mul_comm, add-mul, le_antisymm, eq-or-lt_of_le, mul-lt-mul_of_pos_right, mul-pos, one-mul, div-add-mod', le-div_iff_mul-le, zero-add, zero-mul, mul-one, mul-add, mul_left_comm, arith, pow_pos, pow-add, le-ltb, lt-ltb}
use Prim.Native.Nat.{compare, Ordering}
use native.Mathlib.Nat.{le_step, eq_of_mul-eq-mul_left, mul-lt-mul_of_pos_left, div-eq_of_lt, two-pow-succ, min-eq_left, min-eq_right, min-le_right}
use lib.Arith.{digits_div, digits_mod}
use lib.Ieee.{nearest}
use lib.Ieee.Fits.{nearest-le}
use lib.Ieee.Nearest.{closest, nearest-ge}
use Rattle.narrow.specs.Format.{low_of, inf_of, units_of, apart, Rounded}
use Rattle.narrow.specs.Pack.{mag_of}
use lib.Ieee.Order.{drop}
use Rattle.narrow.proofs.Digits.{half, whole_lt, whole_ge}
use Rattle.narrow.proofs.Cmp.{Place, before, at, after, place, nearest_down, nearest_up, nearest_tie}

-- ---- rounding in any increasing sequence of values

-- of the values f up to top, q's is the nearest to n, and q is even where another is as near
record Best (f : ℕ → ℕ) (top n q : ℕ) : Type 0 where
  nearer : (o : ℕ) → o ≤ top → apart n (f q) ≤ apart n (f o)
  even : (o : ℕ) → o ≤ top → o ≢ q → apart n (f q) ≡ apart n (f o) → q % 2 ≡ 0

module _ (f : ℕ → ℕ) (up : (m : ℕ) → f m < f (suc m)) where
  pub rising : (a b : ℕ) → a < b → f a < f b
  rising a zero h = absurd (omega arith)
  rising a (suc b) h = elim (eq-or-lt_of_le (le_of_suc-le-suc h)) [
    | inl e ↦ subst (λ (x : ℕ). f x < f (suc b)) (sym e) (up b)
    | inr l ↦ lt_trans (rising a b l) (up b)
  ]

  pub rises : (a b : ℕ) → a ≤ b → f a ≤ f b
  rises a b h = elim (eq-or-lt_of_le h) [
    | inl e ↦ le_of_eq (ap f e)
    | inr l ↦ le_of_lt (rising a b l)
  ]

  -- past the last value
  best_last : (top n : ℕ) → f top ≤ n → Best f top n top
  best_last top n h = record {
    nearer = λ (o : ℕ) l. elim (eq-or-lt_of_le l) [
      | inl e ↦ le_of_eq (ap (λ (x : ℕ). apart n (f x)) (sym e))
      | inr g ↦ let a = rising o top g in omega arith
    ];
    even = λ (o : ℕ) l d e. elim (eq-or-lt_of_le l) [
      | inl i ↦ absurd (d i)
      | inr g ↦ let a = rising o top g in absurd (omega arith)
    ];
  }

  -- n is r above the value of m, and the step to the next value is u
  module _ (top n m r u : ℕ) (foot : f m + r ≡ n) (step : f (suc m) ≡ f m + u) (small : r < u) where
    best_low : r * 2 ≤ u → (r * 2 ≡ u → m % 2 ≡ 0) → Best f top n m
    best_low h t = record {
      nearer = λ (o : ℕ) l. near o (place o m);
      even = λ (o : ℕ) l d e. tied o d e (place o m);
    }
      where
        near : (o : ℕ) → Place o m → apart n (f m) ≤ apart n (f o)
        near o (before g) = omega (arith, rising o m g)
        near o (at e) = le_of_eq (ap (λ (x : ℕ). apart n (f x)) (sym e))
        near o (after g) = omega (arith, rises (suc m) o g)

        tied : (o : ℕ) → o ≢ m → apart n (f m) ≡ apart n (f o) → Place o m → m % 2 ≡ 0
        tied o d e (before g) = absurd (omega (arith, rising o m g))
        tied o d e (at i) = absurd (d i)
        tied o d e (after g) = t (omega (arith, rises (suc m) o g))

    best_high : u ≤ r * 2 → (r * 2 ≡ u → suc m % 2 ≡ 0) → Best f top n (suc m)
    best_high h t = record {
      nearer = λ (o : ℕ) l. near o (place o (suc m));
      even = λ (o : ℕ) l d e. tied o d e (place o (suc m));
    }
      where
        near : (o : ℕ) → Place o (suc m) → apart n (f (suc m)) ≤ apart n (f o)
        near o (before g) = omega (arith, rises o m (le_of_suc-le-suc g))
        near o (at e) = le_of_eq (ap (λ (x : ℕ). apart n (f x)) (sym e))
        near o (after g) = omega (arith, rising (suc m) o g)

        tied : (o : ℕ) → o ≢ suc m → apart n (f (suc m)) ≡ apart n (f o) → Place o (suc m) → suc m % 2 ≡ 0
        tied o d e (before g) = t (omega (arith, rises o m (le_of_suc-le-suc g)))
        tied o d e (at i) = absurd (d i)
        tied o d e (after g) = absurd (omega (arith, rising (suc m) o g))

    best_tie : r * 2 ≡ u → Best f top n (m + m % 2)
    best_tie h = elim (eq-or-lt_of_le (zero-le {n = m % 2})) [
      | inl z ↦ subst (Best f top n) (omega arith) (best_low (le_of_eq h) (λ _. sym z))
      | inr l ↦ subst (Best f top n) (omega arith) (best_high (le_of_eq (sym h)) (λ _. omega arith))
    ]

    best_step : Best f top n (nearest m (compare (r * 2) u))
    best_step = go (place (r * 2) u)
      where
        go : Place (r * 2) u → Best f top n (nearest m (compare (r * 2) u))
        go (before h) = subst (Best f top n) (sym (nearest_down m (r * 2) u h)) (best_low (le_of_lt h) (λ e. absurd (omega arith)))
        go (at e) = subst (Best f top n) (sym (nearest_tie m (r * 2) u e)) (best_tie e)
        go (after h) = subst (Best f top n) (sym (nearest_up m (r * 2) u h)) (best_high (le_of_lt h) (λ e. absurd (omega arith)))

    best : Best f top n (min (nearest m (compare (r * 2) u)) top)
    best = go (place m top)
      where
        q : ℕ
        q = nearest m (compare (r * 2) u)

        last : top ≤ m → f top ≤ f m → Best f top n (min q top)
        last l g = subst (Best f top n) (sym (min-eq_right (le_trans l (nearest-ge m (compare (r * 2) u))))) (best_last top n (omega arith))

        go : Place m top → Best f top n (min q top)
        go (before h) = subst (Best f top n) (sym (min-eq_left (le_trans (nearest-le m (compare (r * 2) u)) h))) best_step
        go (at e) = last (le_of_eq (sym e)) (le_of_eq (ap f (sym e)))
        go (after h) = last (le_of_lt h) (rises top m (le_of_lt h))

lt_by : {a b c d : ℕ} → a ≡ c → b ≡ d → c < d → a < b
lt_by e f h = omega arith

-- ---- what a pattern stands for, over H, the weight of the exponent's field
abbrev value : ℕ → ℕ → ℕ
value H m = cond (ltb m H) m (H + m % H) * 2 ^ (m / H - 1)

module _ (H : ℕ) (some : 0 < H) where
  value_low : (m : ℕ) → m < H → value H m ≡ m
  value_low m h = rw (lt-ltb m H h, div-eq_of_lt h) (mul-one m)

  value_high : (m : ℕ) → H ≤ m → value H m ≡ (H + m % H) * 2 ^ (m / H - 1)
  value_high m h = rw (le-ltb m H h)

  one_less : (x : ℕ) → suc x - 1 ≡ x
  one_less x = omega arith

  -- the fields x + 1 and t
  value_fields : (x t : ℕ) → t < H → value H (suc x * H + t) ≡ (H + t) * 2 ^ x
  value_fields x t h = rw (value_high (suc x * H + t) (omega (arith, suc-mul x H)), digits_div (suc x) h, digits_mod (suc x) h, one_less)

  -- the pattern with k in the exponent's field and the digits w added, whose leading one may carry into the field
  value_at_lem : (k w : ℕ) → w ≤ H + H → (0 < k → H ≤ w) → value H (k * H + w) ≡ w * 2 ^ k
  value_at_lem k w h g = go (place w H)
    where
      low : w < H → (0 ≡ k) ⊎ (0 < k) → value H (k * H + w) ≡ w * 2 ^ k
      low l (inl z) = rw (← z, zero-mul, zero-add) (value_low w l ∙ sym (mul-one w))
      low l (inr K) = absurd (omega (arith, g K))

      high : H ≤ w → (w ≡ H + H) ⊎ (w < H + H) → value H (k * H + w) ≡ w * 2 ^ k
      high l (inl e) =
          let t : k * H + w ≡ suc (suc k) * H + 0 = omega (arith, suc-mul (suc k) H, suc-mul k H) in
          rw (t, value_fields (suc k) 0 some, e, two-pow-succ) (omega (arith, add-mul H H (2 ^ k), mul-add H (2 ^ k) (2 ^ k)))
      high l (inr j) =
          let t : k * H + w ≡ suc k * H + (w - H) = omega (arith, suc-mul k H) in
          let d : H + (w - H) ≡ w = omega arith in
          rw (t, value_fields k (w - H) (omega arith), d)

      go : Place w H → value H (k * H + w) ≡ w * 2 ^ k
      go (before l) = low l (eq-or-lt_of_le (zero-le {n = k}))
      go (at e) = high (le_of_eq (sym e)) (eq-or-lt_of_le h)
      go (after l) = high (le_of_lt l) (eq-or-lt_of_le h)

  -- the next pattern stands for more
  value_up : (m : ℕ) → value H m < value H (suc m)
  value_up m = go (place m H)
    where
      step : (k w : ℕ) → m ≡ k * H + w → w < H + H → (0 < k → H ≤ w) → value H m < value H (suc m)
      step k w e h g =
          lt_by (ap (value H) e ∙ value_at_lem k w (le_of_lt h) g)
          (ap (value H) (ap suc e ∙ sym (add-suc (k * H) w)) ∙ value_at_lem k (suc w) h (λ K. omega (arith, g K)))
          (mul-lt-mul_of_pos_right (lt-suc_self w) (pow_pos k))

      high : H ≤ m → value H m < value H (suc m)
      high l =
          let a : 0 < m / H = (le-div_iff_mul-le some).1 (omega arith) in
          let e : m / H ≡ suc (m / H - 1) = omega arith in
          let t = mod-lt m some in
          step (m / H - 1) (H + m % H) (omega (arith, div-add-mod' m H, suc-mul (m / H - 1) H, ap (λ (x : ℕ). x * H) e)) (omega arith) (λ _. omega arith)

      go : Place m H → value H m < value H (suc m)
      go (before l) = step 0 m (omega arith) (omega arith) (λ z. absurd (omega arith))
      go (at e) = high (le_of_eq (sym e))
      go (after l) = high (le_of_lt l)

-- ---- the format's patterns
pub units_low : (p m : ℕ) → m < 2 ^ (p - 1) → units_of p m ≡ m
unfolding units_of
units_low p m h = value_low (2 ^ (p - 1)) (pow_pos (p - 1)) m h

pub units_high : (p m : ℕ) → 2 ^ (p - 1) ≤ m → units_of p m ≡ (2 ^ (p - 1) + m % 2 ^ (p - 1)) * 2 ^ (m / 2 ^ (p - 1) - 1)
unfolding units_of
units_high p m h = value_high (2 ^ (p - 1)) (pow_pos (p - 1)) m h

pub units_at : (p k w : ℕ) → w ≤ 2 ^ (p - 1) + 2 ^ (p - 1) → (0 < k → 2 ^ (p - 1) ≤ w) → units_of p (k * 2 ^ (p - 1) + w) ≡ w * 2 ^ k
unfolding units_of
units_at p k w h g = value_at_lem (2 ^ (p - 1)) (pow_pos (p - 1)) k w h g

pub units_up : (p m : ℕ) → units_of p m < units_of p (suc m)
unfolding units_of
units_up p m = value_up (2 ^ (p - 1)) (pow_pos (p - 1)) m

-- so the patterns are in the order of their values, and no two stand for the same
pub units_le : (p a b : ℕ) → units_of p a ≤ units_of p b → a ≤ b
units_le p a b h = go (place a b)
  where
    go : Place a b → a ≤ b
    go (before l) = le_of_lt l
    go (at e) = le_of_eq e
    go (after g) = absurd (omega (arith, rising (units_of p) (units_up p) b a g))

-- infinity's pattern counts as 2 ^ (emax + 1)
pub units_inf : (p emax : ℕ) → 2 ≤ p → units_of p (inf_of p emax) ≡ 2 ^ suc emax * 2 ^ low_of p emax
units_inf p emax h =
    let H = 2 ^ (p - 1) in
    let a : inf_of p emax ≡ 2 * emax * H + H = add-mul (2 * emax) 1 H ∙ ap (λ (x : ℕ). 2 * emax * H + x) (one-mul H) in
    let b : p - 1 + 2 * emax ≡ suc emax + low_of p emax = omega arith in
    ap (units_of p) a ∙ units_at p (2 * emax) H (omega arith) (λ _. le_refl H) ∙ sym (pow-add 2 (p - 1) (2 * emax)) ∙ ap (λ (x : ℕ). 2 ^ x) b ∙ pow-add 2 (suc emax) (low_of p emax)

-- the exponent's field leaves the last digit alone, so rounding may be done on the pattern
nearest-field : (x w : ℕ) (o : Ordering) → x + x + nearest w o ≡ nearest (x + x + w) o
nearest-field x w Ordering.lt = refl
nearest-field x w Ordering.eq = omega arith
nearest-field x w Ordering.gt = add-suc (x + x) w

even_field : (p k : ℕ) → 2 ≤ p → k * 2 ^ (p - 1) ≡ k * 2 ^ (p - 2) + k * 2 ^ (p - 2)
even_field p k h =
    let e : p - 1 ≡ suc (p - 2) = omega arith in
    ap (λ (x : ℕ). k * 2 ^ x) e ∙ ap (λ (x : ℕ). k * x) (two-pow-succ (p - 2)) ∙ mul-add k (2 ^ (p - 2)) (2 ^ (p - 2))

pub rounded : (p emax num den : ℕ) → 2 ≤ p → 0 < den → Rounded p emax num den (mag_of p emax num den)
unfolding mag_of
rounded p emax num den P D = record { within = min-le_right _ _; none_nearer = all.nearer; tie_even = all.even }
  where
    n : ℕ
    n = num * 2 ^ low_of p emax

    k : ℕ
    k = drop p n den

    H : ℕ
    H = 2 ^ (p - 1)

    u : ℕ
    u = den * 2 ^ k

    w : ℕ
    w = n / u

    r : ℕ
    r = n % u

    f : ℕ → ℕ
    f m = den * units_of p m

    up : (m : ℕ) → f m < f (suc m)
    up m = mul-lt-mul_of_pos_left (units_up p m) D

    digits : w < H + H
    digits = subst (λ (x : ℕ). w < x) (half p (omega arith)) (whole_lt p n den)

    leads : 0 < k → H ≤ w
    leads K = whole_ge p n den (omega arith) K

    at_w : f (k * H + w) ≡ w * u
    at_w = ap (λ (x : ℕ). den * x) (units_at p k w (le_of_lt digits) leads) ∙ mul_left_comm den w (2 ^ k)

    at_next : f (suc (k * H + w)) ≡ suc w * u
    at_next =
        ap f (sym (add-suc (k * H) w))
        ∙ ap (λ (x : ℕ). den * x) (units_at p k (suc w) digits (λ K. le_step (leads K)))
        ∙ mul_left_comm den (suc w) (2 ^ k)

    foot : f (k * H + w) + r ≡ n
    foot = ap (λ (x : ℕ). x + r) at_w ∙ div-add-mod' n u

    step : f (suc (k * H + w)) ≡ f (k * H + w) + u
    step = at_next ∙ suc-mul w u ∙ ap (λ (x : ℕ). x + u) (sym at_w)

    is : nearest (k * H + w) (compare (r * 2) u) ≡ k * H + closest n u
    is = rw (even_field p k P) (sym (nearest-field (k * 2 ^ (p - 2)) w (compare (r * 2) u)))

    all : Best f (inf_of p emax) n (min (k * H + closest n u) (inf_of p emax))
    all = subst (λ (x : ℕ). Best f (inf_of p emax) n (min x (inf_of p emax))) is (best f up (inf_of p emax) n (k * H + w) r u foot step (mod-lt n (mul-pos D (pow_pos k))))

-- what a pattern stands for rounds to that pattern
pub rounded_exact : (p emax m : ℕ) → 2 ≤ p → m ≤ inf_of p emax → mag_of p emax (units_of p m) (2 ^ low_of p emax) ≡ m
rounded_exact p emax m P h =
    let u = units_of p m in
    let l = 2 ^ low_of p emax in
    let r = mag_of p emax u l in
    let near = (rounded p emax u l P (pow_pos (low_of p emax))).none_nearer m h in
    let e : l * units_of p r ≡ l * u = omega (arith, mul_comm u l) in
    let same : units_of p r ≡ u = eq_of_mul-eq-mul_left l (pow_pos (low_of p emax)) (units_of p r) u e in
    le_antisymm (units_le p r m (le_of_eq same)) (units_le p m r (le_of_eq (sym same)))
