-- Demand 3, whole. An auditor reads this first; proofs/Demand3Law.antt proves it, and assumes nothing.
-- It speaks of the definitions that the contracts of `update::update_centroids`,
-- `refine::refine_codebook` and `encode::encode` cite: `update_alone`, `codebook_after`,
-- `slots_after`; `refinement`, `codewords_after`, `report_of`; `encoding`. Definitions only.
use Rattle.std.specs.Prelude.{◌≡◌, ℕ, List, Float}
use Rattle.error.specs.Numbers.{completed}
use Rattle.lloyd_refine.specs.Refine.{Job}
use Rattle.lloyd_update.specs.Alone.{Call, update_checks}
use Rattle.claim_history.specs.History.{Request, History}
use Rattle.claim_rule.specs.Rule.{Rule}
use Rattle.claim_refinement.specs.Refinement.{AnyRefinement}
use Rattle.encode.specs.Encode.{EncodeCall, encoding}
use Rattle.claim_codes.specs.Codes.{EncodedBlocks}

pub record Demand3 : Type 0 where
  -- Every list of updates called alone, refused ones included, from any codebook, each given the
  -- codebook that the last one left: the last codebook is what the accepted updates made of the first in
  -- turn; each accepted one's tallies, counted from its assignments and reported repairs, lie from 1 to
  -- samples - codewords + 1 and total the samples; without the refused, the others give the same answers
  -- and repairs and the same last codebook; with as many samples as codewords, or more, "no donor" never comes.
  pub histories : (updates : List Request) (codebook : List Float) → History updates codebook
  -- "By document 01's rule": what the rule of an update means, of each call that passes its checks: the means of the
  -- cells' members, each repair with its donor, its farthest sample and its event, and when each refusal comes.
  pub rules : (call : Call) → update_checks call ≡ completed tt → Rule call
  -- An accepted refinement returns the codebook, and the error, of least mean error,
  -- measured before narrowing, among its start and its restarts' ends: every other
  -- has no less, every earlier one more; its report says whether the start was kept,
  -- or which restart won. The rounds of each restart are a history, also those that
  -- a refused refinement had completed.
  pub refinements : (job : Job) → AnyRefinement job
  -- Every encoded block gets the first codeword that none is strictly
  -- nearer than, by the rounded distance; said of the frame's bytes.
  pub blocks : (call : EncodeCall) (frame : List ℕ) → encoding call ≡ completed frame → EncodedBlocks call frame
