-- The choices of a profile as numbers: the place of each case in the published declaration, from 0. Definitions only.
-- What an unknown number comes to: proofs/ChoiceLaws.antt.
use Rattle.std.specs.Prelude.{ℕ, cond, eqb, ltb}
use Rattle.profile.specs.declared.NormFormat.{NormFormat}
use Rattle.profile.specs.declared.NormFormat.TheVariants.{Fp16Paper, F32Reference}
use Rattle.profile.specs.declared.SourceMode.{SourceMode}
use Rattle.profile.specs.declared.SourceMode.TheVariants.{CanonicalSphericalBeta, ReferenceGaussianProjection}
use Rattle.profile.specs.declared.RadiusMethod.{RadiusMethod}
use Rattle.profile.specs.declared.RadiusMethod.TheVariants.{BetaQuantile, K2ClosedForm, LargeDSingleShellExplicit}
use Rattle.profile.specs.declared.DirectionMethod.{DirectionMethod}
use Rattle.profile.specs.declared.DirectionMethod.TheVariants.{FibonacciSpiral, FibonacciSphere, RobertsKronecker}
use Rattle.profile.specs.declared.EmptyCellPolicy.{EmptyCellPolicy}
use Rattle.profile.specs.declared.EmptyCellPolicy.TheVariants.{SplitHighestDistortion, FailClosed}

-- ---- the choice of a number

-- an unknown number counts as the format that a profile must not have
abbrev pub norm_format_at : ℕ → NormFormat
norm_format_at number = cond (eqb number 0) Fp16Paper F32Reference

-- and so here
abbrev pub source_mode_at : ℕ → SourceMode
source_mode_at number = cond (eqb number 0) CanonicalSphericalBeta ReferenceGaussianProjection

-- an unknown number counts as the method that suits no block dimension
abbrev pub radius_method_at : ℕ → RadiusMethod
radius_method_at number = cond (eqb number 0) BetaQuantile (cond (eqb number 1) K2ClosedForm LargeDSingleShellExplicit)

abbrev pub direction_method_at : ℕ → DirectionMethod
direction_method_at number = cond (eqb number 0) FibonacciSpiral (cond (eqb number 1) FibonacciSphere RobertsKronecker)

-- The radius method of a pair. Each direction method suits some block dimension, so that none can stand for an unknown
-- number; the radius method then makes the pair unfit.
abbrev pub radius_method_beside : ℕ → ℕ → RadiusMethod
radius_method_beside direction number = cond (ltb 2 direction) LargeDSingleShellExplicit (radius_method_at number)

-- an unknown number is the policy that repairs nothing
abbrev pub policy_at : ℕ → EmptyCellPolicy
policy_at number = cond (eqb number 0) SplitHighestDistortion FailClosed

-- ---- the number of a choice

abbrev pub norm_format_number : NormFormat → ℕ
norm_format_number Fp16Paper = 0
norm_format_number F32Reference = 1

abbrev pub source_mode_number : SourceMode → ℕ
source_mode_number CanonicalSphericalBeta = 0
source_mode_number ReferenceGaussianProjection = 1

abbrev pub radius_method_number : RadiusMethod → ℕ
radius_method_number BetaQuantile = 0
radius_method_number K2ClosedForm = 1
radius_method_number LargeDSingleShellExplicit = 2

abbrev pub direction_method_number : DirectionMethod → ℕ
direction_method_number FibonacciSpiral = 0
direction_method_number FibonacciSphere = 1
direction_method_number RobertsKronecker = 2

abbrev pub policy_number : EmptyCellPolicy → ℕ
policy_number SplitHighestDistortion = 0
policy_number FailClosed = 1
