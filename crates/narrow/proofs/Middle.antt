-- To which side of a middle between two neighbouring patterns a number is rounded, and that there is only one pattern
-- that it is rounded to: from IEEE 754's words (`Rounded`) alone. Assumes nothing.
use Rattle.std.proofs.Common.{◌≡◌, ℕ, suc, ◌+◌, ◌*◌, ◌%◌, ◌^◌, ◌<◌, ◌≤◌, sym, ap, ◌∙◌, subst, inl, inr, le_trans, le_refl, eq-or-lt_of_le, arith}
use native.Mathlib.Nat.{mul-lt-mul_of_pos_left}
use Rattle.narrow.specs.Format.{low_of, inf_of, units_of, apart, Rounded}
use Rattle.narrow.proofs.Cmp.{Place, before, at, after, place}
use Rattle.narrow.proofs.ToNearest.{rising, rises, units_up}

-- ---- n between or beside two values a < b, and c the value that it is rounded to
not_above : (n a b c : ℕ) → a < b → c ≤ a → apart n c ≤ apart n b → 2 * n ≤ a + b
not_above n a b c h k l = omega arith

not_below : (n a b c : ℕ) → a < b → b ≤ c → apart n c ≤ apart n a → a + b ≤ 2 * n
not_below n a b c h k l = omega arith

-- from the middle, what lies outside of the two is farther
outside_low : (n a b c : ℕ) → a < b → c < a → apart n c ≤ apart n a → 2 * n ≡ a + b → ⊥
outside_low n a b c h k l e = omega arith

outside_high : (n a b c : ℕ) → a < b → b < c → apart n c ≤ apart n b → 2 * n ≡ a + b → ⊥
outside_high n a b c h k l e = omega arith

as_far : (n a b : ℕ) → a < b → 2 * n ≡ a + b → apart n a ≡ apart n b
as_far n a b h e = omega arith

module _ (p E num den : ℕ) (D : 0 < den) where
  -- the number, and what a pattern stands for, in units of the smallest value and times den
  abbrev number : ℕ
  number = num * 2 ^ low_of p E

  abbrev value : ℕ → ℕ
  value m = den * units_of p m

  up : (m : ℕ) → value m < value (suc m)
  up m = mul-lt-mul_of_pos_left (units_up p m) D

  module _ (m r : ℕ) (rounds : Rounded p E num den r) (top : m < inf_of p E) where
    -- rounded to m or below: at the middle to the next, or before it
    pub before_middle : r ≤ m → 2 * number ≤ value m + value (suc m)
    before_middle h = not_above number (value m) (value (suc m)) (value r) (up m) (rises value up r m h) (rounds.none_nearer (suc m) top)

    -- and at the middle only if m is even
    pub middle_down : r ≤ m → 2 * number ≡ value m + value (suc m) → m % 2 ≡ 0
    middle_down h e = elim (eq-or-lt_of_le h) [
      | inl i ↦ subst (λ (x : ℕ). x % 2 ≡ 0) i (rounds.tie_even (suc m) top (λ g. omega arith) (ap (λ (x : ℕ). apart number (value x)) i ∙ as_far number (value m) (value (suc m)) (up m) e))
      | inr l ↦ absurd (outside_low number (value m) (value (suc m)) (value r) (up m) (rising value up r m l) (rounds.none_nearer m (omega arith)) e)
    ]

    -- rounded to more than m: at that middle, or past it
    pub past_middle : m < r → value m + value (suc m) ≤ 2 * number
    past_middle h = not_below number (value m) (value (suc m)) (value r) (up m) (rises value up (suc m) r h) (rounds.none_nearer m (omega arith))

    pub middle_up : m < r → 2 * number ≡ value m + value (suc m) → suc m % 2 ≡ 0
    middle_up h e = elim (eq-or-lt_of_le h) [
      | inl i ↦ subst (λ (x : ℕ). x % 2 ≡ 0) (sym i) (rounds.tie_even m (omega arith) (λ g. omega arith) (ap (λ (x : ℕ). apart number (value x)) (sym i) ∙ sym (as_far number (value m) (value (suc m)) (up m) e)))
      | inr l ↦ absurd (outside_high number (value m) (value (suc m)) (value r) (up m) (rising value up (suc m) r l) (rounds.none_nearer (suc m) top) e)
    ]

  -- the lower of two different ones would be the nearest before the middle, and the other the nearest past it
  not_two : (r s : ℕ) → Rounded p E num den r → Rounded p E num den s → r < s → ⊥
  not_two r s a b h =
      let top : r < inf_of p E = le_trans h b.within in
      let l = before_middle r r a top (le_refl r) in
      let g = past_middle r s b top h in
      let e : 2 * number ≡ value r + value (suc r) = omega arith in
      let x = middle_down r r a top (le_refl r) e in
      let y = middle_up r s b top h e in
      omega arith

  pub rounded_only : (r s : ℕ) → Rounded p E num den r → Rounded p E num den s → r ≡ s
  rounded_only r s a b = go (place r s)
    where
      go : Place r s → r ≡ s
      go (before h) = absurd (not_two r s a b h)
      go (at e) = e
      go (after h) = absurd (not_two s r b a h)
