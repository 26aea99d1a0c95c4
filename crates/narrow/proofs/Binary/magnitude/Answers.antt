-- `narrow::Binary::magnitude` meets its contract, by the law of one cut (proofs/MagLaw.antt). Assumes nothing.
use Rattle.std.proofs.Common.{◌≡◌, ℕ, ◌+◌, ◌-◌, ◌*◌, ◌^◌, ◌<◌, ◌≤◌, min, sym, refl, ◌∙◌, subst, arith, pow_mono, lt_of_lt_of_le}
use lib.Ieee.Nearest.{closest}
use Rattle.narrow.specs.Format.{inf_of}
use Rattle.narrow.specs.Pack.{mag_of, Narrower, Wide}
use Rattle.narrow.proofs.MagLaw.{mag_cut, closest_none}
use Rattle.narrow.proofs.Binary.magnitude.Goals as goal

-- `magnitude`'s k and cut
module _ {p E s e k cut : ℕ} (n : Narrower p E) (w : Wide s e) (i : k ≡ e - (1076 - E - p - (53 - p))) (t : cut ≡ 1076 - E - p + k - e) where
  all : p + (53 - p) ≡ 53
  all = omega arith

  law : mag_of p E (s * 2 ^ e) (2 ^ 1074) ≡ min (k * 2 ^ (p - 1) + closest s (2 ^ cut)) (inf_of p E)
  law =
      mag_cut p E s e (1076 - E - p) (53 - p) k cut 1074 (omega arith) (omega arith) (subst (λ (x : ℕ). s < 2 ^ x) (sym all) w.digits)
      (λ l. subst (λ (x : ℕ). 2 ^ (x - 1) ≤ s) (sym all) (w.leading l)) (omega arith) i (omega arith)

  -- below half of the smallest value nothing is kept
  none : 54 < cut → mag_of p E (s * 2 ^ e) (2 ^ 1074) ≡ 0
  none l =
      let k0 : k ≡ 0 = omega arith in
      let small : s * 2 < 2 ^ 54 = omega arith in
      law ∙ rw (k0, closest_none cut s (lt_of_lt_of_le small (pow_mono {i = 54} {j = cut} (omega arith)))) (omega arith)

pub returns-then-cut-gt54-clause-value : goal.returns-then-cut-gt54-clause-value
returns-then-cut-gt54-clause-value c = sym (none c.args.self.narrower c.requires c.saturating_sub-k.ensures refl c.if-cut-gt54.true)

pub returns-clause-value : goal.returns-clause-value
returns-clause-value c = c.assemble.ensures ∙ rw c.nearest.ensures.value (sym (law c.args.self.narrower c.requires c.saturating_sub-k.ensures refl))
