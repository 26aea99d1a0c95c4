-- The indices of the blocks, pushed one after another: what each push asks, and where the writer stands after it.
-- Assumes nothing.
use mathlib.Core.Path.{◌≡◌, sym, ◌∙◌}
use Prim.Native.Nat.{ℕ, ◌+◌, ◌*◌, ◌^◌, ◌≤◌, ◌<◌}
use native.Mathlib.Omega.{arith}
use mathlib.Core.List.{List}
use lib.ListN.{length}
use Rattle.std.proofs.Math.Pow.{pow_mono}
use Rattle.bitpack.specs.declared.BitWriter.{BitWriter}
use Rattle.bitpack.specs.Layout.{bytes_for, field, packed_bit}
use Rattle.bitpack.specs.Cursor.{WriterAt, Pushable}
use Rattle.bitpack.proofs.Packing.{packed_index}
use Rattle.bitpack.proofs.Steps.{pushable, next_place, next_within}
use Rattle.lloyd_search.specs.Distance.{row_of, distance}
use Rattle.lloyd_search.proofs.NearestLaw.{index_below}
use Rattle.encode.specs.declared.search.Search.{Search}
use Rattle.encode.specs.Search.{index_of, indices_of}
use Rattle.encode.proofs.EncodeLaw.{length_indices, get_d_indices, index_fits}

-- the bits of the packing of the indices
abbrev pub packing : Search → ℕ → ℕ
packing s = packed_bit (indices_of s) s.width

-- what a push does
abbrev pub Pushes : ℕ → ℕ → List ℕ → BitWriter → List ℕ → BitWriter → Type 0
Pushes value width out writer out' writer' = (f : ℕ → ℕ) (p : ℕ) (old : List ℕ) → WriterAt f p old out writer → value ≡ field f p width → WriterAt f (p + width) old out' writer'

module _ (s : Search) (i index : ℕ) (is : index ≡ index_of s i) where
  -- it is that of one of the codewords
  pub index_small : index < 2 ^ 32
  index_small =
      let b : index < s.codewords.count = rw is (index_below (λ m. distance s.codewords.dim (row_of s.codewords.dim s.values.now i) (row_of s.codewords.dim s.codewords.values.now m)) s.codewords.count s.some) in
      let p : 2 ^ s.width ≤ 2 ^ 20 = pow_mono s.narrow in
      omega (arith, s.fits)

  module _ (l : i < s.count) where
    -- the bits of the packing at its place
    placed : index ≡ field (packing s) (i * s.width) s.width
    placed =
        let k = s.codewords.dim in
        let n = s.codewords.count in
        let words = s.codewords.values.now in
        let xs = s.values.now in
        let m : i < length (indices_of s) = rw (length_indices s.count k n words xs) l in
        is ∙ sym (get_d_indices s.count k n words xs i l) ∙ sym (packed_index (indices_of s) s.width i m (index_fits s.count k n words xs s.width s.some s.fits i l))

    pub index_pushable : {old out : List ℕ} {writer : BitWriter} → length old ≡ bytes_for (s.count * s.width) → WriterAt (packing s) (i * s.width) old out writer → Pushable out index s.width writer
    index_pushable {old} {out} {writer} room w =
        pushable (packing s) (i * s.width) old out index s.width writer w placed (omega (arith, s.narrow)) (omega (arith, room, next_within i s.count s.width l))

    pub index_pushed : {old out out' : List ℕ} {writer writer' : BitWriter} (j : ℕ) → j ≡ i + 1 → WriterAt (packing s) (i * s.width) old out writer → Pushes index s.width out writer out' writer'
        → WriterAt (packing s) (j * s.width) old out' writer'
    index_pushed {old} j e w p = rw (e, next_place i s.width) (p (packing s) (i * s.width) old w placed)
