-- Laws of `same_bytes`: it is true of equal lists alone, and it is the comparison of slices. Assumes nothing.
use lib.Pointwise.{pointwise}
use Rattle.std.proofs.Common.{◌≡◌, ℕ, Bool, true, false, ◌&&◌, eqb, List, [], ◌∷◌, refl, ap, ap₂, eq-eqb, eqb-true}
use Rattle.profile.specs.Fields.{same_bytes}

both_left : (a b : Bool) → (a && b) ≡ true → a ≡ true
both_left true b h = refl
both_left false b h = h

both_right : (a b : Bool) → (a && b) ≡ true → b ≡ true
both_right true b h = h
both_right false true h = refl
both_right false false h = h

pub same_equal : (xs ys : List ℕ) → same_bytes xs ys ≡ true → xs ≡ ys
unfolding same_bytes
same_equal [] [] h = refl
same_equal [] (y ∷ ys) h = cc
same_equal (x ∷ xs) [] h = cc
same_equal (x ∷ xs) (y ∷ ys) h =
    ap₂ (λ (z : ℕ) (zs : List ℕ). z ∷ zs) (eqb-true x y (both_left (eqb x y) (same_bytes xs ys) h)) (same_equal xs ys (both_right (eqb x y) (same_bytes xs ys) h))

pub equal_same : (xs : List ℕ) → same_bytes xs xs ≡ true
unfolding same_bytes
equal_same [] = refl
equal_same (x ∷ xs) = rw (eq-eqb x x refl) (equal_same xs)

-- it is std's comparison of slices
pub same_pointwise : (xs ys : List ℕ) → same_bytes xs ys ≡ pointwise eqb xs ys
unfolding same_bytes pointwise
same_pointwise [] [] = refl
same_pointwise [] (y ∷ ys) = refl
same_pointwise (x ∷ xs) [] = refl
same_pointwise (x ∷ xs) (y ∷ ys) = ap (λ b. eqb x y && b) (same_pointwise xs ys)
