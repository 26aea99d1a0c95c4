-- When a report says that the start was kept, and when that a restart won. Assumes nothing.
use Rattle.std.specs.Prelude.{Option, None, Some}
use mathlib.Core.Path.{◌≡◌, refl, ap, subst}
use Prim.Native.Nat.{ℕ, suc, ◌<◌}
use native.Mathlib.Nat.{zero-lt-suc}
use native.Mathlib.Omega.{arith}
use mathlib.Core.Bool.{not}
use lib.Dec.{T, T_not}
use lib.Ieee.{Float, lt}
use Rattle.ieee.proofs.Order.{lt_irr}
use Rattle.lloyd_refine.specs.Refine.{Job, restarts_of}
use Rattle.claim_refinement.specs.Refinement.{Course, place_of, error_at, FirstOfLeast}

module _ (j : Job) (c : Course) where
  -- w is the first candidate of least error
  pub record Chosen (w : (Option ℕ)) : Type 0 where
    pub one_of : place_of w < suc (restarts_of j)
    pub none_less : (p : ℕ) → p < suc (restarts_of j) → T (not (lt (error_at j c p) (error_at j c (place_of w))))
    pub earlier_more : (p : ℕ) → p < place_of w → T (lt (error_at j c (place_of w)) (error_at j c p))

  abbrev pub NoneBelow : Type 0
  NoneBelow = (q : ℕ) → q < restarts_of j → T (not (lt (error_at j c (suc q)) (error_at j c 0)))

  -- ---- the start
  pub kept_none : (w : (Option ℕ)) → Chosen w → w ≡ None → NoneBelow
  kept_none w h e q l = subst (λ (x : (Option ℕ)). T (not (lt (error_at j c (suc q)) (error_at j c (place_of x))))) e (h.none_less (suc q) (omega arith))

  pub none_kept : (w : (Option ℕ)) → Chosen w → NoneBelow → w ≡ None
  none_kept None h none = refl
  none_kept (Some r) h none =
      absurd (T_not (lt (error_at j c (suc r)) (error_at j c 0)) (none r (omega (arith, h.one_of))) (h.earlier_more 0 (zero-lt-suc r)))

  pub same_kept : (w : (Option ℕ)) → Chosen w → error_at j c (place_of w) ≡ error_at j c 0 → w ≡ None
  same_kept None h e = refl
  same_kept (Some r) h e =
      let l = subst (λ (x : Float). T (lt x (error_at j c 0))) e (h.earlier_more 0 (zero-lt-suc r)) in
      absurd (T_not (lt (error_at j c 0) (error_at j c 0)) (lt_irr (error_at j c 0)) l)

  -- ---- a restart
  won_least : (r : ℕ) → Chosen (Some r) → FirstOfLeast j c r
  won_least r h = record {
    below = omega (arith, h.one_of);
    start_more = h.earlier_more 0 (zero-lt-suc r);
    none_less = λ q l. h.none_less (suc q) (omega arith);
    earlier_more = λ q l. h.earlier_more (suc q) (omega arith);
  }

  pub won_first : (w : (Option ℕ)) → Chosen w → (r : ℕ) → w ≡ Some r → FirstOfLeast j c r
  won_first w h r e = won_least r (subst Chosen e h)

  pub first_won : (w : (Option ℕ)) → Chosen w → (r : ℕ) → FirstOfLeast j c r → w ≡ Some r
  first_won None h r f =
      absurd (T_not (lt (error_at j c (suc r)) (error_at j c 0)) (h.none_less (suc r) (omega (arith, f.below))) f.start_more)
  first_won (Some q) h r f =
      let not_earlier : q < r → ⊥ = λ l. T_not (lt (error_at j c (suc r)) (error_at j c (suc q))) (h.none_less (suc r) (omega (arith, f.below))) (f.earlier_more q l) in
      let not_later : r < q → ⊥ = λ l. T_not (lt (error_at j c (suc q)) (error_at j c (suc r))) (f.none_less q (omega (arith, h.one_of))) (h.earlier_more (suc r) (omega arith)) in
      ap Some (omega (arith, not_earlier, not_later))
