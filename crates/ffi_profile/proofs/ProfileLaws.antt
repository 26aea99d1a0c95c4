-- What a refusal does to the room for a profile's fields. Assumes nothing.
use mathlib.Core.Path.{◌≡◌, refl}
use mathlib.Core.List.{List}
use Prim.Native.Nat.{ℕ}
use Rattle.error.specs.declared.Refusal.{Refusal}
use Rattle.error.specs.Numbers.{refusal}
use Rattle.error.proofs.Refusals.{by_refusal}
use Rattle.ffi_profile.specs.Profiles.{fields_after}

-- it leaves it as it was
pub fields_kept : (r : Refusal) (old : List ℕ) → fields_after (refusal r) old ≡ old
fields_kept r old = by_refusal {B = ℕ} (λ o p. fields_after o old ≡ old) (λ n vs. refl) r
