-- `lloyd_alone::mse_for_codebook` meets its contract: the checks in their order, and the mean. Assumes nothing.
use Rattle.std.proofs.Common.{rules, sym, ◌∙◌}
use lib.Ieee.{of_bits}
use Rattle.lloyd_search.proofs.ShapeLaw.{codebook_shape}
use Rattle.lloyd_alone.specs.Answers.{mean_error_alone}
use Rattle.lloyd_alone.proofs.mse_for_codebook.Goals as goal

pub invariant_of-book-clause-shape : goal.invariant_of-book-clause-shape
invariant_of-book-clause-shape c = (codebook_shape _ _ _ (sym c.codebook_shaped.ensures ∙ c.if-not-codebook_shaped.false)).length_is

pub returns-in_err-check_within : goal.returns-in_err-check_within
unfolding of_bits mean_error_alone
returns-in_err-check_within c = search rules

pub returns-in_err-check_within-2 : goal.returns-in_err-check_within-2
unfolding of_bits mean_error_alone
returns-in_err-check_within-2 c = search rules

pub returns : goal.returns
unfolding of_bits mean_error_alone
returns c = search rules
