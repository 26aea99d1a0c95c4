-- What a frame that is as expected has shown. Assumes nothing.
use mathlib.Core.Path.{◌≡◌, sym}
use mathlib.Core.List.{List, [], ◌∷◌}
use Prim.Native.Nat.{ℕ, ◌*◌, ◌<◌}
use native.Mathlib.Omega.{arith}
use lib.Dec.{eqb}
use borrow.Author.Tests.{eqb-true, not-false}
use Rattle.error.specs.Names.{padding_bit_site}
use Rattle.error.specs.Numbers.{Value, completed, refused, whole}
use Rattle.error.proofs.Outcomes.{both, passed, never, after_test, after_check}
use Rattle.error.proofs.Refusals.{also_first, also_next}
use Rattle.bitpack.specs.Layout.{padding_from}
use Rattle.compact.specs.Frame.{Parts}
use Rattle.compact.specs.Expected.{headed, unpadded, expected}

pub record AsExpected (bits blocks : ℕ) (parts : Parts) : Type 0 where
  pub width : parts.width ≡ bits
  pub count : parts.count ≡ blocks
  pub padding : padding_from parts.indices (parts.count * parts.width) ≡ 0

module _ (bits blocks : ℕ) (parts : Parts) where
  pub as_expected : expected bits blocks parts ≡ completed tt → AsExpected bits blocks parts
  unfolding expected
  as_expected e =
      let h = both (eqb parts.width bits) (eqb parts.count blocks) (not-false _ (passed _ 17 [] _ tt (also_first (headed bits blocks parts) _ e)).0) in
      record {
        width = eqb-true parts.width bits h.0;
        count = eqb-true parts.count blocks h.1;
        padding = eqb-true _ 0 (not-false _ (passed _ 9 (whole padding_bit_site ∷ []) _ tt (also_next (headed bits blocks parts) _ e)).0);
      }

  -- it refuses by no number above 17
  pub expected_not : (m : ℕ) (us : List Value) → 17 < m → expected bits blocks parts ≡ refused m us → ⊥
  unfolding expected
  expected_not m us h e =
      let s = after_check m us (headed bits blocks parts) (unpadded parts) (λ k. never m us tt (sym (after_test m us _ 17 _ _ h k))) e in
      never m us tt (sym (after_test m us _ 9 _ _ (omega arith) s))
