-- What packed indices stand for. Definitions only.
use Rattle.std.specs.Prelude.{ℕ, List}
use Rattle.bitpack.specs.declared.packed.PackedIndices.{PackedIndices}
use Rattle.bitpack.specs.Layout.{index_at, unpacked_indices}

-- one of them
abbrev pub index_in : PackedIndices → ℕ → ℕ
index_in packed i = index_at packed.bytes.now packed.width i

-- all of them
abbrev pub indices_in : PackedIndices → List ℕ
indices_in packed = unpacked_indices packed.bytes.now packed.count packed.width
