-- One number more that a list takes, or passes over. Assumes nothing.
use mathlib.Core.Path.{◌≡◌, refl, sym, subst, ◌∙◌}
use Prim.Native.Nat.{ℕ, ◌+◌, ◌<◌, ◌≤◌}
use native.Mathlib.Omega.{arith}
use mathlib.Core.Bool.{Bool, true, false}
use mathlib.Core.List.{List}
use lib.Dec.{T}
use lib.ListN.{length, get_or, set, length-set}
use lib.Seq.{get_or-set_same, get_or-set_other}
use Rattle.slices.specs.First.{count_where}
use Rattle.slices.proofs.CountLaw.{one_counted}
use Rattle.slices.proofs.FirstLaw.{below_suc}
use Rattle.around.specs.Around.{Listed}

module _ (test : ℕ → Bool) (old : List ℕ) where
  -- before any
  pub none_taken : Listed test 0 0 old old
  none_taken = record {
    long_as_before = refl;
    passing = λ p l. absurd (omega arith);
    all = λ m l. absurd (omega arith);
    once = λ p q l k. absurd (omega arith);
    rest = λ p l. refl;
  }

  module _ (n count : ℕ) (new : List ℕ) (h : Listed test n count old new) where
    -- n does not pass
    pub passed_over : (T (test n) → ⊥) → Listed test (n + 1) count old new
    passed_over f = record {
      long_as_before = h.long_as_before;
      passing = λ p l. let a = h.passing p l in (omega (arith, a.0), a.1);
      all = λ m l. below_suc (λ (i : ℕ). T (test i) → (p : ℕ) × (p < count) × (get_or new p 0 ≡ i)) n h.all (λ t. absurd (f t)) m (omega (arith, l));
      once = h.once;
      rest = h.rest;
    }

    -- n passes, and goes to the next place
    module _ (t : T (test n)) (room : count < length new) where
      abbrev taken : List ℕ
      taken = set new count n

      here : get_or taken count 0 ≡ n
      here = get_or-set_same new count n 0 room

      other : (p : ℕ) → (p ≡ count → ⊥) → get_or taken p 0 ≡ get_or new p 0
      other p f = get_or-set_other new count p n 0 f

      before : (p : ℕ) → p < count → get_or taken p 0 ≡ get_or new p 0
      before p l = other p (λ e. omega arith)

      abbrev Passes : ℕ → Type 0
      Passes p = (get_or taken p 0 < n + 1) × T (test (get_or taken p 0))

      abbrev Stands : ℕ → Type 0
      Stands m = T (test m) → (p : ℕ) × (p < count + 1) × (get_or taken p 0 ≡ m)

      earlier_passes : (p : ℕ) → p < count → Passes p
      earlier_passes p l =
          let a = h.passing p l in
          let e = before p l in
          (omega (arith, e, a.0), subst (λ (m : ℕ). T (test m)) (sym e) a.1)

      last_passes : Passes count
      last_passes = (omega (arith, here), subst (λ (m : ℕ). T (test m)) (sym here) t)

      earlier_stands : (m : ℕ) → m < n → Stands m
      earlier_stands m l k =
          let (p, a, e) = h.all m l k in
          (p, omega (arith, a), before p a ∙ e)

      -- the last place is none of the earlier ones
      fresh : (p : ℕ) → p < count → get_or taken p 0 ≡ get_or taken count 0 → ⊥
      fresh p l e = let a = h.passing p l in let b = before p l in omega (arith, a.0, b, e, here)

      pub taken_more : Listed test (n + 1) (count + 1) old (set new count n)
      taken_more = record {
        long_as_before = length-set new count n ∙ h.long_as_before;
        passing = λ p l. below_suc Passes count earlier_passes last_passes p (omega (arith, l));
        all = λ m l. below_suc Stands n earlier_stands (λ k. (count, omega arith, here)) m (omega (arith, l));
        once = λ p q l k. below_suc (λ (i : ℕ). p < i → get_or taken p 0 ≡ get_or taken i 0 → ⊥) count (λ i m a e. h.once p i a m (sym (before p (omega (arith, a, m))) ∙ e ∙ before i m)) (fresh p) q (omega (arith, k)) l;
        rest = λ p l. other p (λ e. omega arith) ∙ h.rest p (omega (arith, l));
      }

-- ---- a turn of the loop, which counts them too
abbrev pub Taking : (ℕ → Bool) → ℕ → ℕ → List ℕ → List ℕ → Type 0
Taking test n count old new = (count ≤ n) × (count ≡ count_where test n) × (Listed test n count old new)

module _ (test : ℕ → Bool) (n count : ℕ) (old new : List ℕ) (h : Taking test n count old new) where
  pub one_taken : test n ≡ true → count < length new → Taking test (n + 1) (count + 1) old (set new count n)
  one_taken e room = (omega (arith, h.0), one_counted test n count 1 h.1 (rw e refl), taken_more test old n count new h.2 (subst T (sym e) tt) room)

  pub one_passed : test n ≡ false → Taking test (n + 1) count old new
  one_passed e = (omega (arith, h.0), omega (arith, one_counted test n count 0 h.1 (rw e refl)), passed_over test old n count new h.2 (λ t. subst T e t))
