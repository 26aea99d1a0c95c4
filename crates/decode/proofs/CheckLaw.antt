-- The answers of the decoder's checks, check by check. Assumes nothing.
use mathlib.Core.Path.{◌≡◌, ◌∙◌}
use Prim.Native.Nat.{ℕ, ◌*◌, ◌/◌}
use lib.ListN.{length}
use lib.Ieee.{Float}
use borrow.Author.Tests.{eq-eqb}
use Rattle.error.specs.Numbers.{Outcome, completed}
use Rattle.error.proofs.Refusals.{also_then}
use Rattle.bitpack.specs.Layout.{padding_from}
use Rattle.compact.specs.Frame.{Parts, parsed}
use Rattle.profile.specs.Checks.{validity}
use Rattle.norm.specs.Norm.{norm_value}
use Rattle.compact.specs.Expected.{expected}
use Rattle.decode.specs.Decode.{DecodeCall, lengths, values, below, indices_of, indexed, readable_by, readable, decodable, valued, decoding}

-- ---- header, padding, indices
module _ (bits blocks n : ℕ) (parts : Parts) where
  pub clear : parts.width ≡ bits → parts.count ≡ blocks → padding_from parts.indices (parts.count * parts.width) ≡ 0 → indexed bits blocks n parts ≡ below n (indices_of parts)
  unfolding indexed expected
  clear w c h = rw (eq-eqb parts.width bits w, eq-eqb parts.count blocks c, eq-eqb (padding_from parts.indices (parts.count * parts.width)) 0 h)

-- ---- the checks of a parsed frame, one after another
module _ (c : DecodeCall) (parts : Parts) where
  abbrev pub Passes : Outcome Unit
  Passes = validity c.profile c.schema c.algorithm c.log2

  abbrev pub Sizes : Outcome Unit
  Sizes =
      lengths c.profile.ambient_dim c.profile.block_dim c.profile.codebook_size (length c.matrix) (length c.codewords) c.output c.work

  abbrev pub Bounds : Outcome Unit
  Bounds = values c.matrix c.codewords

  abbrev pub Indices : Outcome Unit
  Indices =
      indexed c.profile.wire_index_bits (c.profile.ambient_dim / c.profile.block_dim) c.profile.codebook_size parts

  module _ (v : Passes ≡ completed tt) where
    module _ (s : Sizes ≡ completed tt) where
      module _ (b : Bounds ≡ completed tt) where
        pub read_norm : Indices ≡ completed tt → readable c parts ≡ norm_value parts.norm
        unfolding readable_by
        read_norm h = also_then Passes _ v ∙ also_then Sizes _ s ∙ also_then Bounds _ b ∙ also_then Indices _ h

-- ---- the whole
-- the values of a frame that passes the checks
module _ (c : DecodeCall) (parts : Parts) (norm : Float) (e : parsed c.bytes ≡ completed parts) (h : readable c parts ≡ completed norm) where
  pub decoding_is : decoding c ≡ valued c parts norm
  decoding_is = rw (e, h)

  pub decodable_is : decodable c ≡ completed norm
  decodable_is = rw (e, h)
