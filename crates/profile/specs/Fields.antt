-- The tests that the checks of a profile are made of: strings, formats, methods, the width of an index, rates.
-- Definitions only.
use Rattle.std.specs.Prelude.{ℕ, ◌-◌, Bool, true, false, cond, ◌&&◌, List, [], ◌∷◌, ◌==◌, Float}
use Prim.Native.Char.{code}
use Prim.Native.String.{String, [] as []ᵗ, ◌∷◌ as ◌∷ᵗ◌}
use Rattle.std.specs.Float.{nan, inf, fin, binary64}
use Rattle.std.specs.Float.Ieee.{sub, le, round, size}
use Rattle.std.specs.Float.Ieee.Scale.{finite}
use Rattle.profile.specs.declared.NormFormat.{NormFormat}
use Rattle.profile.specs.declared.NormFormat.TheVariants.{Fp16Paper, F32Reference}
use Rattle.profile.specs.declared.SourceMode.{SourceMode}
use Rattle.profile.specs.declared.SourceMode.TheVariants.{CanonicalSphericalBeta, ReferenceGaussianProjection}
use Rattle.profile.specs.declared.RadiusMethod.{RadiusMethod}
use Rattle.profile.specs.declared.RadiusMethod.TheVariants.{BetaQuantile, K2ClosedForm, LargeDSingleShellExplicit}
use Rattle.profile.specs.declared.DirectionMethod.{DirectionMethod}
use Rattle.profile.specs.declared.DirectionMethod.TheVariants.{FibonacciSpiral, FibonacciSphere, RobertsKronecker}

-- ---- strings, as bytes

unfoldable pub ascii : String → List ℕ
ascii []ᵗ = []
ascii (c ∷ᵗ s) = code c ∷ ascii s

unfoldable pub profile_schema : List ℕ
unfolding ascii
profile_schema = ascii "fib_quant_profile_v1"

unfoldable pub rotation_algorithm : List ℕ
unfolding ascii
rotation_algorithm = ascii "qr-gaussian-chacha8-sign-corrected-v1"

unfoldable pub same_bytes : List ℕ → List ℕ → Bool
same_bytes [] [] = true
same_bytes [] (y ∷ ys) = false
same_bytes (x ∷ xs) [] = false
same_bytes (x ∷ xs) (y ∷ ys) = x == y && same_bytes xs ys

-- ---- the formats that the paper's profile has

abbrev pub is_fp16 : NormFormat → Bool
is_fp16 Fp16Paper = true
is_fp16 F32Reference = false

abbrev pub is_canonical : SourceMode → Bool
is_canonical CanonicalSphericalBeta = true
is_canonical ReferenceGaussianProjection = false

-- ---- the method pair for blocks of k values

abbrev pub radius_for : ℕ → RadiusMethod
radius_for k = cond (k == 2) K2ClosedForm BetaQuantile

abbrev pub direction_for : ℕ → DirectionMethod
direction_for k = cond (k == 2) FibonacciSpiral (cond (k == 3) FibonacciSphere RobertsKronecker)

abbrev pub same_radius : RadiusMethod → RadiusMethod → Bool
same_radius BetaQuantile BetaQuantile = true
same_radius BetaQuantile K2ClosedForm = false
same_radius BetaQuantile LargeDSingleShellExplicit = false
same_radius K2ClosedForm BetaQuantile = false
same_radius K2ClosedForm K2ClosedForm = true
same_radius K2ClosedForm LargeDSingleShellExplicit = false
same_radius LargeDSingleShellExplicit BetaQuantile = false
same_radius LargeDSingleShellExplicit K2ClosedForm = false
same_radius LargeDSingleShellExplicit LargeDSingleShellExplicit = true

abbrev pub same_direction : DirectionMethod → DirectionMethod → Bool
same_direction FibonacciSpiral FibonacciSpiral = true
same_direction FibonacciSpiral FibonacciSphere = false
same_direction FibonacciSpiral RobertsKronecker = false
same_direction FibonacciSphere FibonacciSpiral = false
same_direction FibonacciSphere FibonacciSphere = true
same_direction FibonacciSphere RobertsKronecker = false
same_direction RobertsKronecker FibonacciSpiral = false
same_direction RobertsKronecker FibonacciSphere = false
same_direction RobertsKronecker RobertsKronecker = true

-- ---- the width of an index: how many binary digits n - 1, the largest index below n, has
-- (`least_width` of proofs/Width.antt: the least width that holds n - 1)
abbrev pub index_width : ℕ → ℕ
index_width n = size (n - 1)

-- ---- rates

abbrev pub abs : Float → Float
abs nan = nan
abs (inf s) = inf false
abs (fin s m e) = fin false m e

-- 1e-12: the value of binary64 nearest to 1 / 10 ^ 12
abbrev pub tolerance : Float
tolerance = round binary64 false 1 1000000000000

-- both are finite, and they differ by at most 1e-12, the difference rounded
abbrev pub rate_agrees : Float → Float → Bool
rate_agrees given expected = finite given && (finite expected && le (abs (sub binary64 given expected)) tolerance)
