-- The answers of the encoder's checks, check by check. Assumes nothing.
use mathlib.Core.Path.{◌≡◌}
use Prim.Native.Nat.{ℕ}
use lib.ListN.{length}
use Rattle.error.specs.Numbers.{Outcome, completed}
use Rattle.profile.specs.Checks.{validity}
use Rattle.encode.specs.Encode.{EncodeCall, tied_blocks, lengths, codable, counting}

-- ---- the checks, one after another
module _ (c : EncodeCall) where
  abbrev pub Passes : Outcome Unit
  Passes = validity c.profile c.schema c.algorithm c.log2

  abbrev pub Sizes : Outcome Unit
  Sizes =
      lengths c.profile.ambient_dim c.profile.block_dim c.profile.codebook_size c.profile.wire_index_bits
      (length c.matrix) (length c.codewords) (length c.input) c.output c.work

  -- the answer of a call that passes
  pub counting_is : (bits : ℕ) → codable c ≡ completed bits → counting c ≡ completed (tied_blocks c.profile c.matrix c.codewords c.input)
  counting_is bits h = rw h
