-- What a conversion comes to once its frame and norm are read. Assumes nothing.
use mathlib.Core.Path.{◌≡◌}
use mathlib.Core.List.{List}
use Prim.Native.Nat.{ℕ}
use lib.Ieee.{Float}
use Rattle.error.specs.Numbers.{Outcome, completed, and_then}
use Rattle.compact.specs.Frame.{Parts, parsed}
use Rattle.convert.specs.Convert.{ConvertCall, norm_by, with_norm, converting}

module _ (read : List ℕ → Outcome Float) (write : Float → Outcome (List ℕ)) (c : ConvertCall) (output : ℕ) (parts : Parts) (x : Float) where
  pub converting_is : parsed c.bytes ≡ completed parts → norm_by read c parts ≡ completed x → converting read write c output ≡ and_then (write x) (with_norm output parts)
  converting_is e h = rw (e, h)
