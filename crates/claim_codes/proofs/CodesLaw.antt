-- Demand 3 on codes: `encoded_blocks`; the number of tied blocks: `tied_blocks_lem`, and `answered_alike`, that there is no
-- number without a frame nor a frame without a number; and `round_trip`. For any call of encode. Assumes nothing.
use mathlib.Core.Path.{◌≡◌, refl, sym, ap, ◌∙◌, subst}
use Prim.Native.Nat.{ℕ, zero, suc, ◌+◌, ◌*◌, ◌/◌, ◌%◌, ◌^◌, ◌<◌, zero-le}
use native.Mathlib.Nat.{le_refl, le_trans, le_of_eq, le_of_lt, mul-one, zero-mul}
use native.Mathlib.Omega.{arith}
use mathlib.Core.Bool.{◌&&◌}
use mathlib.Core.List.{List}
use lib.Dec.{T, lit≤, ltb, leb, eqb, ltb→lt}
use lib.ListN.{length, get_or}
use lib.Ieee.{Float, nan, inf, fin, binary32, up, down, fits}
use lib.Ieee.Fits.{and_r}
use lib.Ieee.Scale.{finite}
use Rattle.error.specs.Numbers.{Outcome, completed, refused, and_then, accepted}
use Rattle.ieee.specs.Bounds.{Upto, NotNegative}
use Rattle.ieee.proofs.Bound.{upto_finite, upto_mono}
use Rattle.ieee.proofs.Apart.{single_upto}
use Rattle.slices.specs.Limit.{first_outside, first_not_finite}
use Rattle.lloyd_search.specs.Distance.{row_of}
use Rattle.lloyd_search.specs.Nearest.{nearest, another, tied_at, Least}
use Rattle.lloyd_search.proofs.Parts.{row_place}
use Rattle.lloyd_search.proofs.LimitLaw.{all_within, passed_bounded}
use Rattle.lloyd_search.proofs.FiniteLaw.{finite_distance}
use Rattle.slices.proofs.FirstLaw.{all_finite}
use Rattle.slices.proofs.CountLaw.{count_ext}
use Rattle.norm.proofs.NormLaw.{norm_written}
use Rattle.decode.specs.Decode.{values, matrix_limit, indices_of}
use Rattle.encode.specs.Encode.{EncodeCall, norm_of, searched, tied_for, tied_blocks, frame_for, codable, encoding, counting}
use Rattle.encode.proofs.EncodeLaw.{get_d_indices}
use Rattle.encode.proofs.CheckLaw.{counting_is}
use Rattle.error.proofs.Outcomes.{then_completed}
use Rattle.claim_codes.specs.Codes.{block_of, distance_to, FirstNearest, EncodedBlock, EncodedBlocks, TiedBlocks, RoundTrip}
use Rattle.claim_codes.proofs.FrameLaw.{Encoded, encoded, parts, headed, indices_are, round_trip_of}
use Rattle.claim_codes.proofs.SearchedLaw.{block_upto}
use Rattle.claim_codes.proofs.LeastLaw.{least_found, distance_real}

-- the checks of matrix and codewords
pub record Valued (matrix codewords : List Float) : Type 0 where
  pub codewords_finite : (i : ℕ) → i < length codewords → T (finite (get_or codewords i nan))
  pub matrix_within : (i : ℕ) → i < length matrix → Upto (get_or matrix i nan) (2 ^ 20)

values_passed : (matrix codewords : List Float) → values matrix codewords ≡ completed tt → Valued matrix codewords
unfolding values
values_passed matrix codewords e =
    let a = passed_bounded 4 (first_not_finite codewords) _ tt e in
    let b = passed_bounded 3 (first_outside matrix_limit matrix) _ tt a.1 in
    record { codewords_finite = all_finite codewords a.0; matrix_within = all_within 20 matrix b.0 }

module _ (c : EncodeCall) (frame : List ℕ) where
  module _ (q : Encoded c frame) where
    abbrev d : ℕ
    d = c.profile.ambient_dim

    abbrev k : ℕ
    k = c.profile.block_dim

    abbrev n : ℕ
    n = c.profile.codebook_size

    valued : Valued c.matrix c.codewords
    valued = values_passed c.matrix c.codewords q.passes.values_pass

    module _ (i : ℕ) (l : i < d / k) where
      block_small : (j : ℕ) → j < k → Upto (block_of c i j) (2 ^ 74)
      block_small =
          block_upto d q.passes.valid.dim_most c.matrix c.input q.passes.matrix_length q.passes.input_length q.bits (norm_written (norm_of c.input) q.bits q.norm.pattern) valued.matrix_within q.norm.input_finite
          k i q.passes.valid.shape.whole_blocks l

      block_real : (j : ℕ) → j < k → T (finite (block_of c i j))
      block_real j m = upto_finite (block_of c i j) (2 ^ 74) (block_small j m)

      place : (m j : ℕ) → m < n → j < k → m * k + j < length c.codewords
      place m j h g = row_place m n k j (length c.codewords) h g q.passes.codewords_length

      distances_real : (m : ℕ) → m < n → NotNegative (distance_to c i m)
      distances_real m h = distance_real k (block_of c i) (row_of k c.codewords m) block_real (λ j g. valued.codewords_finite (m * k + j) (place m j h g))

      finite_distances : ((j : ℕ) → j < length c.codewords → T (fits binary32 (get_or c.codewords j nan))) → (m : ℕ) → m < n → T (finite (distance_to c i m))
      finite_distances f m h =
          (finite_distance 128 (lit≤ tt) k q.passes.valid.shape.block_most (block_of c i) (row_of k c.codewords m)
          (λ j g. upto_mono (block_of c i j) (2 ^ 74) (2 ^ 128) (block_small j g) (lit≤ tt))
          (λ j g. single_upto (row_of k c.codewords m j) (f (m * k + j) (place m j h g)) (valued.codewords_finite (m * k + j) (place m j h g)))).partial_sums k (le_refl k)

      -- the codeword that the search names
      least : Least (distance_to c i) n (nearest k n (row_of k c.codewords) (block_of c i))
      least = let b = q.passes.valid.shape.book_least in least_found (distance_to c i) n (omega arith) distances_real

      found : FirstNearest (distance_to c i) n (nearest k n (row_of k c.codewords) (block_of c i)).index
      found = subst (λ (x : Float). Least (distance_to c i) n (record { index = (nearest k n (row_of k c.codewords) (block_of c i)).index; distance = x })) least.is least

      index_is : get_or (indices_of (parts c frame q)) i 0 ≡ (nearest k n (row_of k c.codewords) (block_of c i)).index
      index_is =
          ap (λ (xs : List ℕ). get_or xs i 0) (indices_are c frame q)
          ∙ get_d_indices (d / k) k n c.codewords (searched d c.matrix c.input (norm_of c.input)) i l

      -- its mark, said of the index in the frame
      mark_is : tied_for k n c.codewords (searched d c.matrix c.input (norm_of c.input)) i ≡ tied_at (distance_to c i) n (get_or (indices_of (parts c frame q)) i 0)
      mark_is =
          ap (λ (x : Float). another (distance_to c i) n (record { index = (nearest k n (row_of k c.codewords) (block_of c i)).index; distance = x })) least.is
          ∙ ap (tied_at (distance_to c i) n) (sym index_is)

      block_encoded : EncodedBlock c i (get_or (indices_of (parts c frame q)) i 0)
      block_encoded = record {
        chosen = subst (FirstNearest (distance_to c i) n) (sym index_is) found;
        block_finite = block_real;
        no_nan = distances_real;
        distances_finite = finite_distances;
      }

  pub encoded_blocks : encoding c ≡ completed frame → EncodedBlocks c frame
  encoded_blocks e =
      let q = encoded c frame e in
      record { parts = parts c frame q; headed = headed c frame q; blocks = block_encoded q }

  pub tied_blocks_lem : encoding c ≡ completed frame → TiedBlocks c frame
  unfolding encoded_blocks
  tied_blocks_lem e =
      let q = encoded c frame e in
      record {
        coded = encoded_blocks e;
        number_is = counted ∙ ap completed (count_ext (tied_for (k q) (n q) c.codewords (searched (d q) c.matrix c.input (norm_of c.input))) _ (d q / k q) (mark_is q));
      }
    where
      counted : counting c ≡ completed (tied_blocks c.profile c.matrix c.codewords c.input)
      counted =
          let (bits, h, g) = then_completed (codable c) (λ bits. completed (frame_for c.profile c.matrix c.codewords c.input bits)) frame e in
          counting_is c bits h

  pub round_trip : encoding c ≡ completed frame → RoundTrip c frame
  round_trip e = round_trip_of c frame (encoded c frame e)

pub answered_alike : (c : EncodeCall) → accepted (counting c) ≡ accepted (encoding c)
answered_alike c = go (codable c)
  where
    go : (o : Outcome ℕ) → accepted (and_then o (λ bits. completed (tied_blocks c.profile c.matrix c.codewords c.input))) ≡ accepted (and_then o (λ bits. completed (frame_for c.profile c.matrix c.codewords c.input bits)))
    go (completed bits) = refl
    go (refused m values) = refl
