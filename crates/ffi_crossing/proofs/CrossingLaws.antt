-- How a single result crosses; and that a refusal crosses in the same way, whatever the call would have answered.
-- Assumes nothing.
use mathlib.Core.Path.{◌≡◌, refl}
use mathlib.Core.List.{List, [], ◌∷◌}
use Prim.Native.Nat.{ℕ}
use lib.Ieee.{Float}
use Rattle.error.specs.declared.Refusal.{Refusal}
use Rattle.error.specs.Numbers.{Value, completed, refusal}
use Rattle.error.proofs.Refusals.{by_refusal}
use Rattle.ieee.specs.Sum.{plus_zero}
use Rattle.ffi_crossing.specs.Crossing.{found, crossed, one_whole, one_real, whole_values, real_values}

pub one_whole_lem : {n m : ℕ} → n ≡ m → found 0 (n ∷ 0 ∷ 0 ∷ 0 ∷ []) (plus_zero ∷ plus_zero ∷ []) ≡ crossed one_whole (completed m)
unfolding whole_values real_values
one_whole_lem e = rw e

pub one_real_lem : {x y : Float} → x ≡ y → found 0 (0 ∷ 0 ∷ 0 ∷ 0 ∷ []) (x ∷ plus_zero ∷ []) ≡ crossed one_real (completed y)
unfolding whole_values real_values
one_real_lem e = rw e

pub same_refusal : {A B : Type 0} (f : A → List Value) (g : B → List Value) (r : Refusal) → crossed f (refusal r) ≡ crossed g (refusal r)
same_refusal f g r = by_refusal (λ o p. crossed f o ≡ crossed g p) (λ n vs. refl) r
