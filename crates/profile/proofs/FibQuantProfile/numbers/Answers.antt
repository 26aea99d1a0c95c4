-- `profile::FibQuantProfile::numbers` meets its contract: the checks are the definition's, one after another.
-- Assumes nothing.
use Rattle.std.proofs.Common.{rules}
use Rattle.error.proofs.Refusals.{also_exit, also_on, also_both}
use Rattle.profile.specs.Checks.{numbers_of, rates_of}
use Rattle.profile.proofs.FibQuantProfile.numbers.Goals as goal

pub returns-in_err-width : goal.returns-in_err-width
unfolding numbers_of rates_of
returns-in_err-width c = search (rules, also_exit, also_on)

pub returns-in_err-rate : goal.returns-in_err-rate
unfolding numbers_of rates_of
returns-in_err-rate c = search (rules, also_exit, also_on, also_both)

pub returns-in_err-rate-2 : goal.returns-in_err-rate-2
unfolding numbers_of rates_of
returns-in_err-rate-2 c = search (rules, also_exit, also_on, also_both)

pub returns-in_err-methods : goal.returns-in_err-methods
unfolding numbers_of rates_of
returns-in_err-methods c = search (rules, also_exit, also_on, also_both)

pub returns : goal.returns
unfolding numbers_of rates_of
returns c = search (rules, also_exit, also_on, also_both)
