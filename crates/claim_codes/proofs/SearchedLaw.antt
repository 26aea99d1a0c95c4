-- What the search sees of an input that passes its checks is finite, at most 2 ^ 74. Assumes nothing.
use mathlib.Core.Path.{◌≡◌, refl, sym, subst}
use Prim.Native.Nat.{ℕ, ◌+◌, ◌*◌, ◌/◌, ◌^◌, ◌≤◌, ◌<◌}
use native.Mathlib.Nat.{le_trans, le_of_eq, lt_of_le_of_lt, mul-one, mul-le-mul_right}
use mathlib.Core.List.{List}
use lib.Dec.{T, lit<, lit≤}
use lib.ListN.{length, get_or}
use lib.Ieee.{Float, nan, inf, fin, binary32, binary64, up, down, mul}
use lib.Ieee.Fits.{down_pos}
use lib.Ieee.Scale.{finite}
use Rattle.ieee.specs.Bounds.{Upto, Holds}
use Rattle.ieee.proofs.Bound.{round_upto, mul_upto, div_at_most, sum_to_upto, upto_mono}
use Rattle.slices.specs.Lists.{tabulate}
use Rattle.slices.proofs.TabulateLaw.{get_d_tabulate}
use Rattle.narrow.specs.Pack.{narrow_to}
use Rattle.rotation.specs.Apply.{applied_at}
use Rattle.lloyd_search.specs.Distance.{row_of}
use Rattle.lloyd_search.proofs.Parts.{row_place}
use Rattle.norm.proofs.NormLaw.{Written}
use Rattle.encode.specs.Encode.{norm_of, normalized_at, searched_at, searched}
use Rattle.claim_codes.proofs.NormSizeLaw.{norm_at_least, input_upto}

narrow_upto : (x : Float) (A : ℕ) → Holds binary32 A → Upto x A → Upto (narrow_to binary32 x) A
unfolding narrow_to
narrow_upto nan A r h = h
narrow_upto (inf s) A r h = h
narrow_upto (fin s m e) A r h = round_upto binary32 s (m * up e) (down e) A (down_pos e) r (le_trans (le_of_eq (sym (mul-one (m * up e)))) h)

module _ (d : ℕ) (few : d ≤ 4096) (matrix input : List Float) (square : length matrix ≡ d * d) (size : length input ≡ d) (bits : ℕ) (written : Written (norm_of input) bits)
    (bounded : (i : ℕ) → i < length matrix → Upto (get_or matrix i nan) (2 ^ 20)) (real : (i : ℕ) → i < length input → T (finite (get_or input i nan))) where
  quotient_upto : (j : ℕ) → j < d → Upto (normalized_at input (norm_of input) j) (2 ^ 42)
  unfolding normalized_at
  quotient_upto j l =
      div_at_most binary64 (get_or input j nan) (norm_of input) (2 ^ 16) (2 ^ 26) (record { q = 1; j = 42; small = lit< tt; reach = lit≤ tt; is = refl })
      (input_upto input bits written real j (subst (λ (z : ℕ). j < z) (sym size) l)) (norm_at_least (norm_of input) bits written)

  abbrev quotients : List Float
  quotients = tabulate d (normalized_at input (norm_of input))

  product_upto : (i : ℕ) → i < d → (j : ℕ) → j < d → Upto (mul binary64 (get_or matrix (i * d + j) nan) (get_or quotients j nan)) (2 ^ 62)
  product_upto i l j m =
      mul_upto binary64 (get_or matrix (i * d + j) nan) (get_or quotients j nan) (2 ^ 20) (2 ^ 42) (record { q = 1; j = 62; small = lit< tt; reach = lit≤ tt; is = refl })
      (bounded (i * d + j) (row_place i d d j (length matrix) l m square)) (subst (λ (x : Float). Upto x (2 ^ 42)) (sym (get_d_tabulate d (normalized_at input (norm_of input)) j nan m)) (quotient_upto j m))

  rotated_upto : (i : ℕ) → i < d → Upto (applied_at d matrix quotients i) (2 ^ 74)
  rotated_upto i l =
      upto_mono (applied_at d matrix quotients i) (d * 2 ^ 62) (2 ^ 74)
      (sum_to_upto (λ j. mul binary64 (get_or matrix (i * d + j) nan) (get_or quotients j nan)) d 62 (product_upto i l) (lt_of_le_of_lt few (lit< tt)) (lit≤ tt)) (mul-le-mul_right (2 ^ 62) few)

  seen_upto : (i : ℕ) → i < d → Upto (searched_at d matrix input (norm_of input) i) (2 ^ 74)
  unfolding searched_at
  seen_upto i l =
      narrow_upto _ (2 ^ 74) (record { q = 1; j = 74; small = lit< tt; reach = lit≤ tt; is = refl })
      (subst (λ (x : Float). Upto x (2 ^ 74)) (sym (get_d_tabulate d (applied_at d matrix quotients) i nan l)) (rotated_upto i l))

  -- block i of k values
  pub block_upto : (k i : ℕ) → d ≡ d / k * k → i < d / k → (j : ℕ) → j < k → Upto (row_of k (searched d matrix input (norm_of input)) i j) (2 ^ 74)
  block_upto k i whole l j m =
      let p : i * k + j < d = row_place i (d / k) k j d l m whole in
      subst (λ (x : Float). Upto x (2 ^ 74)) (sym (get_d_tabulate d (searched_at d matrix input (norm_of input)) (i * k + j) nan p)) (seen_upto (i * k + j) p)
