-- `ffi_profile::fields_of` meets its contract: each choice by its number. Assumes nothing.
use Rattle.std.proofs.Common.{◌≡◌, ℕ, List, [], ◌∷◌, rules, refl}
use Rattle.ffi_profile.specs.Profiles.{fields_of}
use Rattle.ffi_profile.proofs.fields_of.Goals as goal

-- the fields are the same where the five choices are
by_choices : {n m s t r q d e p o : ℕ} (a b c w x y g h i : ℕ) → n ≡ m → s ≡ t → r ≡ q → d ≡ e → p ≡ o
    → ◌≡◌ {A = List ℕ} (a ∷ b ∷ c ∷ w ∷ n ∷ x ∷ y ∷ s ∷ r ∷ d ∷ g ∷ h ∷ i ∷ p ∷ []) (a ∷ b ∷ c ∷ w ∷ m ∷ x ∷ y ∷ t ∷ q ∷ e ∷ g ∷ h ∷ i ∷ o ∷ [])
by_choices a b c w x y g h i k l j z u = rw (k, l, j, z, u) refl

pub returns : goal.returns
unfolding fields_of
returns c = by_choices _ _ _ _ _ _ _ _ _ (search rules) (search rules) (search rules) (search rules) (search rules)
