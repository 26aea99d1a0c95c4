-- The number of a choice stands for it, and an unknown number is refused: a
-- norm format by field 2, a source mode by field 3, either method by field 8.
-- Assumes nothing.
use mathlib.Core.Path.{◌≡◌, refl}
use mathlib.Core.List.{[], ◌∷◌}
use mathlib.Core.Bool.{Bool, true, false, cond}
use Prim.Native.Nat.{ℕ, ◌<◌}
use native.Mathlib.Omega.{arith}
use lib.Dec.{eqb, ltb}
use borrow.Author.Tests.{ne_eqb, lt-ltb}
use Rattle.error.specs.Numbers.{refused, whole}
use Rattle.profile.specs.Checks.{formats_of, methods_of}
use Rattle.profile.specs.Fields.{same_radius}
use Rattle.profile.specs.declared.NormFormat.{NormFormat}
use Rattle.profile.specs.declared.NormFormat.TheVariants.{Fp16Paper, F32Reference}
use Rattle.profile.specs.declared.SourceMode.{SourceMode}
use Rattle.profile.specs.declared.SourceMode.TheVariants.{CanonicalSphericalBeta, ReferenceGaussianProjection}
use Rattle.profile.specs.declared.RadiusMethod.{RadiusMethod}
use Rattle.profile.specs.declared.RadiusMethod.TheVariants.{BetaQuantile, K2ClosedForm, LargeDSingleShellExplicit}
use Rattle.profile.specs.declared.DirectionMethod.{DirectionMethod}
use Rattle.profile.specs.declared.DirectionMethod.TheVariants.{FibonacciSpiral, FibonacciSphere, RobertsKronecker}
use Rattle.profile.specs.declared.EmptyCellPolicy.{EmptyCellPolicy}
use Rattle.profile.specs.declared.EmptyCellPolicy.TheVariants.{SplitHighestDistortion, FailClosed}
use Rattle.ffi_profile.specs.Choices.{norm_format_at, source_mode_at, radius_method_at, radius_method_beside, direction_method_at, policy_at, norm_format_number, source_mode_number, radius_method_number, direction_method_number, policy_number}

-- ---- known numbers

pub norm_format : (f : NormFormat) → norm_format_at (norm_format_number f) ≡ f
norm_format Fp16Paper = refl
norm_format F32Reference = refl

pub source_mode : (m : SourceMode) → source_mode_at (source_mode_number m) ≡ m
source_mode CanonicalSphericalBeta = refl
source_mode ReferenceGaussianProjection = refl

pub radius_method : (d : DirectionMethod) (m : RadiusMethod) → radius_method_beside (direction_method_number d) (radius_method_number m) ≡ m
radius_method FibonacciSpiral BetaQuantile = refl
radius_method FibonacciSpiral K2ClosedForm = refl
radius_method FibonacciSpiral LargeDSingleShellExplicit = refl
radius_method FibonacciSphere BetaQuantile = refl
radius_method FibonacciSphere K2ClosedForm = refl
radius_method FibonacciSphere LargeDSingleShellExplicit = refl
radius_method RobertsKronecker BetaQuantile = refl
radius_method RobertsKronecker K2ClosedForm = refl
radius_method RobertsKronecker LargeDSingleShellExplicit = refl

pub direction_method : (m : DirectionMethod) → direction_method_at (direction_method_number m) ≡ m
direction_method FibonacciSpiral = refl
direction_method FibonacciSphere = refl
direction_method RobertsKronecker = refl

pub policy : (p : EmptyCellPolicy) → policy_at (policy_number p) ≡ p
policy SplitHighestDistortion = refl
policy FailClosed = refl

-- ---- unknown numbers

pub unknown_norm_format : (number : ℕ) (source : SourceMode) → 1 < number → formats_of (norm_format_at number) source ≡ refused 6 (whole 2 ∷ [])
unknown_norm_format number source h = simp (ne_eqb number 0 (λ e. omega arith))

pub unknown_source_mode : (number : ℕ) → 1 < number → formats_of Fp16Paper (source_mode_at number) ≡ refused 6 (whole 3 ∷ [])
unknown_source_mode number h = simp (ne_eqb number 0 (λ e. omega arith))

-- no block dimension has this radius method
unfit : (t : Bool) → same_radius LargeDSingleShellExplicit (cond t K2ClosedForm BetaQuantile) ≡ false
unfit true = refl
unfit false = refl

unfit_pair : (k : ℕ) (direction : DirectionMethod) → methods_of k LargeDSingleShellExplicit direction ≡ refused 6 (whole 8 ∷ [])
unfit_pair k direction = rw (unfit (eqb k 2))

pub unknown_direction_method : (k radius direction : ℕ) → 2 < direction → methods_of k (radius_method_beside direction radius) (direction_method_at direction) ≡ refused 6 (whole 8 ∷ [])
unknown_direction_method k radius direction h = rw (lt-ltb 2 direction h) (unfit_pair k (direction_method_at direction))

unknown_radius : (t : Bool) (number : ℕ) → 2 < number → cond t LargeDSingleShellExplicit (radius_method_at number) ≡ LargeDSingleShellExplicit
unknown_radius true number h = refl
unknown_radius false number h = simp (ne_eqb number 0 (λ e. omega arith), ne_eqb number 1 (λ e. omega arith))

pub unknown_radius_method : (k radius direction : ℕ) → 2 < radius → methods_of k (radius_method_beside direction radius) (direction_method_at direction) ≡ refused 6 (whole 8 ∷ [])
unknown_radius_method k radius direction h = rw (unknown_radius (ltb 2 direction) radius h) (unfit_pair k (direction_method_at direction))
