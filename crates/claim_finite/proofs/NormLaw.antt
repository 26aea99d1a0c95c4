-- The norm of a residual is at least what a power of two in one of the differences says. Assumes nothing.
use Prim.Native.Nat.{ℕ, ◌*◌, ◌<◌}
use lib.Ieee.{Float, binary64, sub}
use Rattle.ieee.specs.Bounds.{AtLeast, HoldsFraction}
use Rattle.ieee.proofs.Value.{holds_true}
use Rattle.root.proofs.Bounds.{sqrt_at_least}
use Rattle.lloyd_search.specs.Distance.{distance}
use Rattle.lloyd_search.specs.Finite.{FiniteDistance}
use Rattle.lloyd_search.proofs.FiniteLaw.{distance_fits}
use Rattle.lloyd_search.proofs.SizeLaw.{distance_not_negative, distance_at_least}
use Rattle.lloyd_cells.specs.Repair.{residual_norm}

module _ (k : ℕ) (far word : ℕ → Float) (fine : FiniteDistance k far word) where
  pub norm_at_least : (j a c : ℕ) → j < k → 0 < c → HoldsFraction binary64 a c → HoldsFraction binary64 (a * a) (c * c) → AtLeast (sub binary64 (far j) (word j)) a c → AtLeast (residual_norm k far word) a c
  norm_at_least j a c l C v w h =
      sqrt_at_least (distance k far word) a c C v (holds_true (distance_fits k far word)) (distance_not_negative k far word fine)
      (distance_at_least k far word fine j a c l C w h)
