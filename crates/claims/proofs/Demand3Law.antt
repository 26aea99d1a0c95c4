-- Demand 3 holds. Assumes nothing.
use Rattle.claim_history.proofs.HistoryLaw.{history}
use Rattle.claim_rule.proofs.RuleLaw.{rule}
use Rattle.claim_refinement.proofs.RefinementLaw.{any_refinement}
use Rattle.claim_codes.proofs.CodesLaw.{encoded_blocks}
use Rattle.claims.specs.Demand3.{Demand3}

pub demand3 : Demand3
demand3 = record { histories = history; rules = rule; refinements = any_refinement; blocks = encoded_blocks }
