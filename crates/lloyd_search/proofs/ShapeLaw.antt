-- What the checks of shape say. Assumes nothing.
use mathlib.Core.Path.{◌≡◌, refl, ap, ◌∙◌}
use mathlib.Core.Bool.{true}
use Prim.Native.Nat.{ℕ, zero, suc, ◌*◌, ◌/◌, ◌%◌, ◌≤◌, ◌<◌}
use native.Mathlib.Nat.{div-add-mod', zero-mul}
use native.Mathlib.Omega.{arith}
use lib.Dec.{leb, eqb}
use borrow.Author.Tests.{leb-true, eqb-true}
use Rattle.error.proofs.Outcomes.{both}
use Rattle.lloyd_search.specs.Shape.{codebook_shaped, samples_shaped}

-- n codewords of k coordinates
pub record Codebook (n k values : ℕ) : Type 0 where
  pub coordinates : 1 ≤ k
  pub coordinates_upto : k ≤ 256
  pub codewords : 1 ≤ n
  pub codewords_upto : n ≤ 1048576
  pub length_is : values ≡ n * k

pub codebook_shape : (n k values : ℕ) → codebook_shaped n k values ≡ true → Codebook n k values
codebook_shape n k values h =
    let a = both (leb 1 k) _ h in
    let b = both (leb k 256) _ a.1 in
    let c = both (leb 1 n) _ b.1 in
    let d = both (leb n 1048576) _ c.1 in
    record {
      coordinates = leb-true 1 k a.0;
      coordinates_upto = leb-true k 256 b.0;
      codewords = leb-true 1 n c.0;
      codewords_upto = leb-true n 1048576 d.0;
      length_is = eqb-true values (n * k) d.1;
    }

-- whole samples
pub record Samples (k values : ℕ) : Type 0 where
  pub whole-samples : values ≡ values / k * k
  pub count_upto : values / k ≤ 10000000

pub samples_shape : (k values : ℕ) → samples_shaped k values ≡ true → Samples k values
samples_shape k values h =
    let a = both (eqb (values % k) 0) _ h in
    let z = eqb-true (values % k) 0 a.0 in
    record { whole-samples = omega (arith, div-add-mod' values k); count_upto = leb-true (values / k) 10000000 a.1 }

-- where there is a value, there is a sample
pub some_sample : (k values : ℕ) → values ≡ values / k * k → (values ≡ 0 → ⊥) → 0 < values / k
some_sample k values w h = go (values / k) refl
  where
    go : (m : ℕ) → values / k ≡ m → 0 < values / k
    go zero e = absurd (h (w ∙ ap (λ (z : ℕ). z * k) e ∙ zero-mul k))
    go (suc m) e = omega arith
