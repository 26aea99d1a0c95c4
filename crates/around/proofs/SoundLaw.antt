-- What a query that passes 7 and 18 has shown; and no other refusal comes there. Assumes nothing.
use mathlib.Core.Path.{◌≡◌, sym}
use Prim.Native.Nat.{ℕ, ◌<◌}
use native.Mathlib.Omega.{arith}
use mathlib.Core.Bool.{Bool, true, not}
use mathlib.Core.List.{List, [], ◌∷◌}
use lib.Dec.{T}
use lib.ListN.{length, get_or}
use lib.Ieee.{nan}
use lib.Ieee.Scale.{finite}
use borrow.Author.Tests.{not-false}
use Rattle.error.specs.Numbers.{Value, completed, refused, whole}
use Rattle.error.proofs.Outcomes.{never, passed, passed_length, after_test, after_length}
use Rattle.slices.specs.Limit.{first_not_finite}
use Rattle.slices.proofs.FirstLaw.{all_finite}
use Rattle.lloyd_search.specs.Shape.{codebook_shaped}
use Rattle.lloyd_search.proofs.ShapeLaw.{Codebook, codebook_shape}
use Rattle.lloyd_search.proofs.LimitLaw.{passed_bounded, after_bounded}
use Rattle.around.specs.Around.{Query, sound}

pub record Passed (q : Query) : Type 0 where
  pub shape : Codebook q.size q.dim (length q.codewords)
  pub block_length : length q.block ≡ q.dim
  pub block_finite : (i : ℕ) → i < length q.block → T (finite (get_or q.block i nan))
  pub codewords_finite : (i : ℕ) → i < length q.codewords → T (finite (get_or q.codewords i nan))

pub sound_means : (q : Query) (list_fits : Bool) → sound q list_fits ≡ completed tt → Passed q × (list_fits ≡ true)
unfolding sound
sound_means q list_fits e =
    let a = passed (not (codebook_shaped q.size q.dim (length q.codewords))) 7 (whole 4 ∷ []) _ tt e in
    let b = passed_length 5 q.dim (length q.block) _ tt a.1 in
    let c = passed (not list_fits) 7 (whole 6 ∷ []) _ tt b.1 in
    let d = passed_bounded 5 (first_not_finite q.block) _ tt c.1 in
    let f = passed_bounded 4 (first_not_finite q.codewords) _ tt d.1 in (
      record {
        shape = codebook_shape q.size q.dim (length q.codewords) (not-false _ a.0);
        block_length = b.0;
        block_finite = all_finite q.block d.0;
        codewords_finite = all_finite q.codewords f.0;
      },
      not-false list_fits c.0,
    )

-- no refusal but 7 and 18 comes there
pub sound_not : (q : Query) (list_fits : Bool) (m : ℕ) (us : List Value) → 18 < m → sound q list_fits ≡ refused m us → ⊥
unfolding sound
sound_not q list_fits m us l e =
    let seven : 7 < m = omega (arith, l) in
    let other : 18 ≡ m → ⊥ = λ z. omega (arith, z, l) in
    let a = after_test m us (not (codebook_shaped q.size q.dim (length q.codewords))) 7 (whole 4 ∷ []) _ seven e in
    let b = after_length m us 5 q.dim (length q.block) _ seven a in
    let c = after_test m us (not list_fits) 7 (whole 6 ∷ []) _ seven b in
    let d = after_bounded 5 (first_not_finite q.block) _ m us other c in
    let f = after_bounded 4 (first_not_finite q.codewords) _ m us other d in
    never m us tt (sym f)
