-- Laws of the decoder's definitions. Assumes nothing.
use mathlib.Core.Path.{◌≡◌, refl}
use Prim.Native.Nat.{ℕ, ◌+◌, ◌*◌, ◌/◌, ◌≤◌, ◌<◌}
use native.Mathlib.Nat.{mul-le-mul, div-le_self}
use native.Mathlib.Omega.{arith}
use mathlib.Core.Bool.{Bool, true, false, not}
use mathlib.Core.List.{List, [], ◌∷◌}
use lib.Arith.{digits_div, digits_mod}
use lib.Dec.{ltb}
use lib.ListN.{length, get_or}
use lib.Ieee.{Float}
use borrow.Author.Tests.{lt-ltb, le-ltb, eq-eqb}
use Rattle.error.specs.Numbers.{completed, refused, whole}
use Rattle.slices.proofs.FirstLaw.{nowhere, at_first}
use Rattle.bitpack.specs.Answers.{unpackable}
use Rattle.bitpack.specs.Layout.{bytes_for}
use Rattle.bitpack.specs.declared.packed.PackedIndices.{PackedIndices}
use Rattle.bitpack.specs.Packed.{index_in, indices_in}
use Rattle.bitpack.proofs.Checks.{size_is}
use Rattle.bitpack.proofs.Packing.{length-unpacked, unpacked_index}
use Rattle.compact.specs.Frame.{Parts, parsed}
use Rattle.compact.proofs.FrameLaws.{length_indices}
use Rattle.profile.specs.declared.FibQuantProfile.{FibQuantProfile}
use Rattle.profile.specs.Valid.{Valid}
use Rattle.lloyd_search.specs.Distance.{row_of}
use Rattle.compact.specs.Expected.{unpadded}
use Rattle.decode.specs.Decode.{rotated_at, below}

-- coordinate j of block i
pub rotated_row : (k : ℕ) (codewords : List Float) (indices : List ℕ) (i j : ℕ) → j < k → rotated_at k codewords indices (i * k + j) ≡ row_of k codewords (get_or indices i 0) j
unfolding rotated_at
rotated_row k codewords indices i j h = rw (digits_div i h, digits_mod i h)

-- ---- the indices of a packing, one after another
module _ (packed : PackedIndices) (n : ℕ) where
  -- index i is not below n
  abbrev pub fails : ℕ → Bool
  fails i = not (ltb (get_or (indices_in packed) i 0) n)

  pub index_passes : (i : ℕ) → i < packed.count → index_in packed i < n → fails i ≡ false
  index_passes i l h = rw (unpacked_index packed.bytes.now packed.count packed.width i l, lt-ltb (index_in packed i) n h)

  pub below_none : ((i : ℕ) → i < packed.count → fails i ≡ false) → below n (indices_in packed) ≡ completed tt
  below_none h = rw (length-unpacked packed.bytes.now packed.count packed.width, nowhere fails packed.count h)

  pub below_first : (i : ℕ) → i < packed.count → ((j : ℕ) → j < i → fails j ≡ false) → n ≤ index_in packed i
      → below n (indices_in packed) ≡ refused 11 (whole (index_in packed i) ∷ whole n ∷ [])
  below_first i l h k =
      let f : fails i ≡ true = rw (unpacked_index packed.bytes.now packed.count packed.width i l, le-ltb (index_in packed i) n k) in
      rw (length-unpacked packed.bytes.now packed.count packed.width, at_first fails packed.count i l h f, unpacked_index packed.bytes.now packed.count packed.width i l)

-- a frame that has passed 8 and 17 under a valid profile:
-- `unpackable`, bitpack's own answer, refuses it by its padding only
pub only_padding : (p : FibQuantProfile) (bytes : List ℕ) (parts : Parts) → Valid p → parsed bytes ≡ completed parts
    → parts.width ≡ p.wire_index_bits → parts.count ≡ p.ambient_dim / p.block_dim
    → unpackable parts.indices parts.count parts.width parts.count ≡ unpadded parts
only_padding p bytes parts v e w b =
    let least : 1 ≤ parts.width = omega (arith, v.width_least) in
    let most : parts.width ≤ 20 = omega (arith, v.width_most) in
    let few : parts.count ≤ 4096 = omega (arith, div-le_self p.ambient_dim p.block_dim, v.dim_most) in
    let size = size_is parts.count parts.width least (omega arith) (omega (arith, mul-le-mul few most)) in
    rw (size, eq-eqb (length parts.indices) (bytes_for (parts.count * parts.width)) (length_indices bytes parts e), eq-eqb parts.count parts.count refl)
