-- A turn of the encoder over four blocks: that they lie within the values, what the casts and pushes of their four
-- indices ask, where the writer stands after each, and the count of the tied blocks at the end. Assumes nothing.
use mathlib.Core.Path.{◌≡◌, refl, ap, ◌∙◌}
use Prim.Native.Nat.{ℕ, ◌+◌, ◌*◌, ◌-◌, ◌^◌, ◌≤◌, ◌<◌}
use native.Mathlib.Nat.{add-zero, add-mul, mul-le-mul_right}
use native.Mathlib.Omega.{arith}
use mathlib.Core.Bool.{cond}
use mathlib.Core.List.{List, [], ◌∷◌}
use lib.ListN.{length, get_or, take, drop}
use lib.Ieee.{Float}
use Rattle.std.specs.Prelude.{count_by}
use Rattle.slices.proofs.CountLaw.{four_counted}
use Rattle.bitpack.specs.declared.BitWriter.{BitWriter}
use Rattle.bitpack.specs.Layout.{bytes_for}
use Rattle.bitpack.specs.Cursor.{WriterAt, Pushable}
use Rattle.lloyd_search.specs.declared.Choice.{Choice}
use Rattle.lloyd_search.specs.Distance.{row_of}
use Rattle.lloyd_search.specs.Choice.{chosen, mark_of}
use Rattle.lloyd_search_f32.specs.Four.{four_chosen}
use Rattle.lloyd_search_f32.proofs.FourBlocks.{part_four_chosen}
use Rattle.encode.specs.Encode.{tied_for}
use Rattle.encode.specs.declared.search.Search.{Search}
use Rattle.encode.specs.Search.{index_of, tied_of}
use Rattle.encode.proofs.EncodeLaw.{mark_counted}
use Rattle.encode.proofs.IndexLaw.{packing, Pushes, index_small, index_pushable, index_pushed}

-- the tied of four choices
four_tied : (a b c d : Choice) → count_by mark_of (a ∷ b ∷ c ∷ d ∷ []) ≡ cond (mark_of a) 1 0 + cond (mark_of b) 1 0 + cond (mark_of c) 1 0 + cond (mark_of d) 1 0
four_tied a b c d = omega arith

module _ (s : Search) (old : List ℕ) (room : length old ≡ bytes_for (s.count * s.width)) (turn : ℕ) (among : turn * 4 + 4 ≤ s.count) (at : ℕ) (is : at ≡ turn * 4 * s.codewords.dim) where
  abbrev k : ℕ
  k = s.codewords.dim

  abbrev n : ℕ
  n = s.codewords.count

  abbrev codewords : List Float
  codewords = s.codewords.values.now

  abbrev xs : List Float
  xs = s.values.now

  -- the four blocks lie within the values
  pub inside : at + 4 * k ≤ length xs
  inside = omega (arith, is, s.blocks, mul-le-mul_right k among, add-mul (turn * 4) 4 k)

  -- the number of the turn's block m
  abbrev block : ℕ → ℕ
  block m = turn * 4 + m

  -- the writer stands at the bit of that block's index
  abbrev pub Stands : ℕ → List ℕ → BitWriter → Type 0
  Stands m out writer = WriterAt (packing s) (block m * s.width) old out writer

  -- what a cast and a push of an index ask, and where the writer stands after the push
  module _ (m index : ℕ) (i : index ≡ index_of s (block m)) where
    small : index < 2 ^ 32
    small = index_small s (block m) index i

    module _ {out : List ℕ} {writer : BitWriter} (h : m < 4) (w : Stands m out writer) where
      asks : Pushable out index s.width writer
      asks = index_pushable s (block m) index i (omega (arith, among)) room w

      does : {out' : List ℕ} {writer' : BitWriter} → Pushes index s.width out writer out' writer' → Stands (m + 1) out' writer'
      does = index_pushed s (block m) index i (omega (arith, among)) (block (m + 1)) (omega arith) w

  -- with what is found
  module _ (r : List Choice) (h : r ≡ four_chosen k n (row_of k codewords) (row_of k (take (at + 4 * k - at) (drop at xs)))) where
    -- the codewords of the definition
    found : r ≡ four_chosen k n (row_of k codewords) (λ m. row_of k xs (block m))
    found = h ∙ part_four_chosen (row_of k codewords) xs n (turn * 4) k at is

    -- the tied blocks, with those of the turn
    pub counted : (tied_blocks more : ℕ) → tied_blocks ≡ tied_of s (turn * 4) → more ≡ count_by mark_of r → tied_blocks + more ≡ tied_of s (turn * 4 + 4)
    counted tied_blocks more before e =
        let t = tied_for k n codewords xs in
        let mark : (m : ℕ) → ◌≡◌ {A = ℕ} (cond (mark_of (chosen k n (row_of k codewords) (row_of k xs (block m)))) 1 0) (cond (t (block m)) 1 0) =
        λ m. mark_counted k n (block m) codewords xs _ refl in
        rw (e, found, four_tied _ _ _ _)
        (four_counted t (turn * 4) tied_blocks _ _ _ _ before (mark 0 ∙ ap (λ (m : ℕ). cond (t m) 1 0) (add-zero (turn * 4))) (mark 1) (mark 2) (mark 3))

    module _ (none : Choice) where
      -- the choice for the turn's block m, as it is read
      abbrev pub one : ℕ → Choice
      one m = get_or r m none

      first_is : one 0 ≡ chosen k n (row_of k codewords) (row_of k xs (block 0))
      first_is = ap (λ (l : List Choice). get_or l 0 none) found

      second_is : one 1 ≡ chosen k n (row_of k codewords) (row_of k xs (block 1))
      second_is = ap (λ (l : List Choice). get_or l 1 none) found

      third_is : one 2 ≡ chosen k n (row_of k codewords) (row_of k xs (block 2))
      third_is = ap (λ (l : List Choice). get_or l 2 none) found

      fourth_is : one 3 ≡ chosen k n (row_of k codewords) (row_of k xs (block 3))
      fourth_is = ap (λ (l : List Choice). get_or l 3 none) found

      first : (one 0).found.index ≡ index_of s (block 0)
      first = ap (λ (c : Choice). c.found.index) first_is

      second : (one 1).found.index ≡ index_of s (block 1)
      second = ap (λ (c : Choice). c.found.index) second_is

      third : (one 2).found.index ≡ index_of s (block 2)
      third = ap (λ (c : Choice). c.found.index) third_is

      fourth : (one 3).found.index ≡ index_of s (block 3)
      fourth = ap (λ (c : Choice). c.found.index) fourth_is

      pub first_small : (one 0).found.index < 2 ^ 32
      first_small = small 0 _ first

      pub second_small : (one 1).found.index < 2 ^ 32
      second_small = small 1 _ second

      pub third_small : (one 2).found.index < 2 ^ 32
      third_small = small 2 _ third

      pub fourth_small : (one 3).found.index < 2 ^ 32
      fourth_small = small 3 _ fourth

      -- and the pushes of their indices, one after another
      module _ {out : List ℕ} {writer : BitWriter} (w : WriterAt (packing s) (turn * 4 * s.width) old out writer) where
        start : Stands 0 out writer
        start = rw (add-zero (turn * 4)) w

        pub first_asks : Pushable out (one 0).found.index s.width writer
        first_asks = asks 0 _ first (omega arith) start

        module _ {out₁ : List ℕ} {writer₁ : BitWriter} (p₁ : Pushes (one 0).found.index s.width out writer out₁ writer₁) where
          after_first : Stands 1 out₁ writer₁
          after_first = does 0 _ first (omega arith) start p₁

          pub second_asks : Pushable out₁ (one 1).found.index s.width writer₁
          second_asks = asks 1 _ second (omega arith) after_first

          module _ {out₂ : List ℕ} {writer₂ : BitWriter} (p₂ : Pushes (one 1).found.index s.width out₁ writer₁ out₂ writer₂) where
            after_second : Stands 2 out₂ writer₂
            after_second = does 1 _ second (omega arith) after_first p₂

            pub third_asks : Pushable out₂ (one 2).found.index s.width writer₂
            third_asks = asks 2 _ third (omega arith) after_second

            module _ {out₃ : List ℕ} {writer₃ : BitWriter} (p₃ : Pushes (one 2).found.index s.width out₂ writer₂ out₃ writer₃) where
              after_third : Stands 3 out₃ writer₃
              after_third = does 2 _ third (omega arith) after_second p₃

              pub fourth_asks : Pushable out₃ (one 3).found.index s.width writer₃
              fourth_asks = asks 3 _ fourth (omega arith) after_third

              pub after_fourth : {out₄ : List ℕ} {writer₄ : BitWriter} → Pushes (one 3).found.index s.width out₃ writer₃ out₄ writer₄ → Stands 4 out₄ writer₄
              after_fourth p₄ = does 3 _ fourth (omega arith) after_third p₄
