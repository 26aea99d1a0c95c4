-- The paper's default profile: one that is built is valid. Assumes nothing.
use Rattle.std.proofs.Common.{◌≡◌, ℕ, subst}
use lib.Ieee.{Float}
use Rattle.error.specs.Numbers.{Outcome, completed, also}
use Rattle.profile.specs.declared.FibQuantProfile.{FibQuantProfile}
use Rattle.profile.specs.Fields.{profile_schema, rotation_algorithm}
use Rattle.profile.specs.Checks.{shape_of, validity}
use Rattle.profile.specs.Valid.{Valid}
use Rattle.profile.specs.Paper.{profile_of, paper_of}
use Rattle.error.proofs.Refusals.{also_first, also_next}
use Rattle.profile.proofs.Facts.{valid}

module _ (d k n seed : ℕ) (log2 : Float) where
  abbrev checks : Outcome Unit
  checks = validity (profile_of d k n seed log2) profile_schema rotation_algorithm log2

  abbrev rest : Outcome FibQuantProfile
  rest = also checks (completed (profile_of d k n seed log2))

  -- a profile that is built passes its own checks
  pub built_passes : (p : FibQuantProfile) → paper_of d k n seed log2 ≡ completed p → validity p profile_schema rotation_algorithm log2 ≡ completed tt
  unfolding paper_of
  built_passes p h =
      let after = also_next (shape_of d k n) rest h in
      let same : completed (profile_of d k n seed log2) ≡ completed p = also_next checks (completed (profile_of d k n seed log2)) after in
      let e : profile_of d k n seed log2 ≡ p = cc same in
      subst (λ (q : FibQuantProfile). validity q profile_schema rotation_algorithm log2 ≡ completed tt) e (also_first checks (completed (profile_of d k n seed log2)) after)

  pub built_valid : (p : FibQuantProfile) → paper_of d k n seed log2 ≡ completed p → Valid p
  built_valid p h = valid p profile_schema rotation_algorithm log2 (built_passes p h)
