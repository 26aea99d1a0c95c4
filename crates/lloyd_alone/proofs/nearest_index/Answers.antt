-- `lloyd_alone::nearest_index` meets its contract: the checks in their order, and the search; small distances show what
-- the checks of magnitude would. Assumes nothing.
use Rattle.std.proofs.Common.{◌≡◌, rules, length, sym, ◌∙◌, true, None}
use lib.Ieee.{of_bits}
use Rattle.slices.specs.Limit.{first_outside}
use Rattle.lloyd_search.specs.Shape.{codebook_shaped}
use Rattle.lloyd_alone.specs.Answers.{search_limit, nearest_alone}
use Rattle.lloyd_search.proofs.LimitLaw.{passed_bounded}
use Rattle.lloyd_search.proofs.ShapeLaw.{codebook_shape}
use Rattle.lloyd_alone.proofs.SmallLaw.{codewords_within}
use Rattle.lloyd_alone.proofs.AnswersLaw.{answered}
use Rattle.lloyd_alone.proofs.nearest_index.Goals as goal
use Rattle.lloyd_alone.proofs.nearest_index.Goals.{then-not-small_distances+in_ok-check_within+in_ok-check_within-2, else-not-small_distances}

pub invariant_of-book-clause-shape : goal.invariant_of-book-clause-shape
invariant_of-book-clause-shape c = (codebook_shape _ _ _ (sym c.codebook_shaped.ensures ∙ c.if-not-codebook_shaped.false)).length_is

pub returns-in_err-check_within : goal.returns-in_err-check_within
unfolding of_bits nearest_alone
returns-in_err-check_within c = search rules

pub returns-in_err-check_within-2 : goal.returns-in_err-check_within-2
unfolding of_bits nearest_alone
returns-in_err-check_within-2 c = search rules

pub returns : goal.returns
unfolding of_bits
returns c =
    let a = c.args in
    let xs = a.block.now in
    let cw = a.codewords.now in
    let long = c.if-block-block_dim.false in
    let shaped : codebook_shaped a.codebook_size a.block_dim (length cw) ≡ true = sym c.codebook_shaped.ensures ∙ c.if-not-codebook_shaped.false in
    let seen = c.search_near-seen.ensures in
    let clean : (first_outside search_limit xs ≡ None) × (first_outside search_limit cw ≡ None) =
    elim c.if-not-small_distances.branch [
      | then-not-small_distances+in_ok-check_within+in_ok-check_within-2 w ↦ (
        (passed_bounded _ _ _ _ (sym (rw w.in_ok-check_within.was at w.check_within.ensures))).0,
        (passed_bounded _ _ _ _ (sym (rw w.in_ok-check_within-2.was at w.check_within-then-not-small_distances.ensures))).0,
      )
      | else-not-small_distances w ↦
          let small = c.small_distances.ensures w.if-not-small_distances.false in
          codewords_within a.block_dim a.codebook_size cw xs (codebook_shape _ _ _ shaped).length_is long small.block_small (seen.where_near small.all_near)
    ] in
    let e = answered a.codebook_size a.block_dim cw xs c.search_near-seen.result.best shaped long clean.0 clean.1 seen.best_is in
    rw c.with_mark.ensures e
