-- What the parts of the root's work promise one another. Definitions only.
use Rattle.std.specs.Prelude.{◌≡◌, ℕ, ◌*◌, ◌^◌, ◌≤◌, ◌<◌}

-- sig is t moved up by 52 - h places, and has 53 digits
pub record Normal (t sig h : ℕ) : Type 0 where
  pub low : 2 ^ 52 ≤ sig
  pub high : sig < 2 ^ 53
  pub few : h ≤ 52
  pub same : sig * 2 ^ h ≡ t * 2 ^ 52
