-- A winner that crosses to the host and back is the same one. Assumes nothing.
use Rattle.std.specs.Prelude.{ℕ, Option, None, Some}
use mathlib.Core.Path.{◌≡◌, refl}
use Rattle.ffi_training.specs.Training.{won_of, number_of, winner_from}

pub winner_back : (w : Option ℕ) → winner_from (won_of w) (number_of w) ≡ w
winner_back None = refl
winner_back (Some r) = refl
