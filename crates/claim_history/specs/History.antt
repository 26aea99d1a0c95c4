-- What demand 3 claims of updates called alone, one after another: `History`, at the end,
-- whose first member is one claim from the first codebook to the last; proofs/HistoryLaw.antt
-- proves it of every list and every codebook. It speaks of `update_alone`, `codebook_after` and
-- `slots_after`, the definitions that the contract of `update::update_centroids` cites.
-- Document 01's terms: its history is a list of requests with the codebook before the
-- first; the book of an accepted update is `Tallies`, a cell's tally `tally_of`, its
-- gifts `donations`, filled `is_filled`, the repairs the events in the first slots.
-- Definitions only.
use Rattle.std.specs.Prelude.{◌≡◌, ℕ, ◌+◌, ◌-◌, ◌/◌, ◌<◌, ◌≤◌, Bool, true, false, ◌||◌, cond, List, [], ◌∷◌, eqb, length, get_or, take, Float}
use Rattle.error.specs.Numbers.{Outcome, completed, refused}
use Rattle.profile.specs.declared.EmptyCellPolicy.{EmptyCellPolicy}
use Rattle.lloyd_events.specs.declared.LloydRepairEvent.{LloydRepairEvent}
use Rattle.lloyd_cells.specs.Cells.{count_to, total}
use Rattle.lloyd_cells.specs.Repair.{Repaired}
use Rattle.lloyd_update.specs.Alone.{Call, update_of, update_alone, codebook_after, slots_after}
use Rattle.slices.specs.Lists.{words_of}

-- ---- a history
-- all that a call is given but the codebook; what stands in work and event slots is free
pub record Request : Type 0 where
  pub size : ℕ
  pub dim : ℕ
  pub samples : List Float
  pub assignments : List ℕ
  pub policy : EmptyCellPolicy
  pub restart : ℕ
  pub iteration : ℕ
  pub float_work : ℕ
  pub integer_work : ℕ
  pub slots : ℕ

abbrev pub call_with : Request → List Float → Call
call_with q codebook = record {
  size = q.size;
  dim = q.dim;
  codebook = codebook;
  samples = q.samples;
  assignments = q.assignments;
  policy = q.policy;
  restart = q.restart;
  iteration = q.iteration;
  float_work = q.float_work;
  integer_work = q.integer_work;
  slots = q.slots;
}

-- the codebook after the list: each call gets the one that the last call left
unfoldable pub after : List Request → List Float → List Float
after [] codebook = codebook
after (q ∷ rest) codebook = after rest (codebook_after (call_with q codebook))

-- what each call comes to, with its repairs
unfoldable pub answers : List Request → List Float → List (Outcome Repaired)
answers [] codebook = []
answers (q ∷ rest) codebook = update_alone (call_with q codebook) ∷ answers rest (codebook_after (call_with q codebook))

abbrev pub is_completed : {A : Type 0} → Outcome A → Bool
is_completed (completed x) = true
is_completed (refused n vs) = false

-- the answers that are no refusal
unfoldable pub completions : {A : Type 0} → List (Outcome A) → List (Outcome A)
completions [] = []
completions (o ∷ rest) = cond (is_completed o) (o ∷ completions rest) (completions rest)

-- the list without the requests that were refused
unfoldable pub accepted : List Request → List Float → List Request
accepted [] codebook = []
accepted (q ∷ rest) codebook =
    let others = accepted rest (codebook_after (call_with q codebook)) in
    cond (is_completed (update_alone (call_with q codebook))) (q ∷ others) others

-- ---- the tallies of an accepted update, from its arguments and answers alone
abbrev pub sample_count : Call → ℕ
sample_count c = length c.samples / c.dim

-- how many samples are assigned to a cell
abbrev pub assigned_tally : List ℕ → ℕ → ℕ
assigned_tally assignments cell = count_to (λ s. get_or assignments s 0) cell (length assignments)

-- what a repair takes from a cell: 1 from its donor
abbrev pub donated : LloydRepairEvent → ℕ → ℕ
donated event cell = cond (eqb cell event.donor_cell) 1 0

-- the tallies after it: its empty cell has 1 more
abbrev pub split_tally : (ℕ → ℕ) → LloydRepairEvent → ℕ → ℕ
split_tally tally event cell = (tally cell - donated event cell) + cond (eqb cell event.empty_cell) 1 0

-- after all of them, in order
unfoldable pub tally_after : (ℕ → ℕ) → List LloydRepairEvent → ℕ → ℕ
tally_after tally [] = tally
tally_after tally (event ∷ events) = tally_after (split_tally tally event) events

-- a repair at its moment: its empty cell stands at 0, its donor above 1, at the tally that the event shows
pub record Fair (tally : ℕ → ℕ) (event : LloydRepairEvent) : Type 0 where
  pub empty : tally event.empty_cell ≡ 0
  pub plenty : 1 < tally event.donor_cell
  pub shown : event.donor_count_before ≡ tally event.donor_cell

-- each of them, in order
unfoldable pub Sound : (ℕ → ℕ) → List LloydRepairEvent → Type 0
Sound tally [] = Unit
Sound tally (event ∷ events) = Fair tally event × Sound (split_tally tally event) events

-- how many samples a cell gives away
unfoldable pub donations : List LloydRepairEvent → ℕ → ℕ
donations [] cell = 0
donations (event ∷ events) cell = donated event cell + donations events cell

-- whether a cell is filled
unfoldable pub is_filled : List LloydRepairEvent → ℕ → Bool
is_filled [] cell = false
is_filled (event ∷ events) cell = eqb cell event.empty_cell || is_filled events cell

-- the tallies of n cells that share S samples: from 1 to S - n + 1, and no sample is lost
pub record Balanced (S n : ℕ) (tally : ℕ → ℕ) : Type 0 where
  pub least : (cell : ℕ) → cell < n → 1 ≤ tally cell
  pub most : (cell : ℕ) → cell < n → tally cell + n ≤ S + 1
  pub all : total tally n ≡ S

-- `slots` is as the call left it, and `repairs` the number that it answered
abbrev pub tally_of : Call → List LloydRepairEvent → ℕ → ℕ → ℕ
tally_of c slots repairs = tally_after (assigned_tally c.assignments) (take repairs slots)

pub record Tallies (c : Call) (slots : List LloydRepairEvent) (repairs : ℕ) : Type 0 where
  -- all of them stand in the slots, and no more than were free
  pub reported : repairs ≤ length slots
  pub free : repairs ≤ c.slots
  pub sound : Sound (assigned_tally c.assignments) (take repairs slots)
  -- the samples assigned, less those given away, plus one if filled
  pub counted : (cell : ℕ)
      → tally_of c slots repairs cell + donations (take repairs slots) cell
      ≡ assigned_tally c.assignments cell + cond (is_filled (take repairs slots) cell) 1 0
  pub balanced : Balanced (sample_count c) c.size (tally_of c slots repairs)

-- ---- what is claimed
-- of an accepted call: the rule came to r, the codebook now holds its codewords, the first slots its repairs, and the
-- tallies are in order; whatever the slots held before
pub record AcceptedCall (c : Call) (r : Repaired) : Type 0 where
  pub rule : update_of c ≡ completed r
  pub words : codebook_after c ≡ words_of c.size c.dim r.cells.word
  pub repairs : (slots : List LloydRepairEvent) → take (length r.events) (slots_after c slots) ≡ r.events
  pub tallies : (slots : List LloydRepairEvent) → Tallies c (slots_after c slots) (length r.events)

-- of a call refused by n: it leaves the codebook; with as many samples as codewords, or more, "no donor" never comes
pub record RefusedCall (c : Call) (n : ℕ) : Type 0 where
  pub words : codebook_after c ≡ c.codebook
  pub donor : c.size ≤ sample_count c → n ≡ 15 → ⊥

-- a link of the chain: what is claimed of the call by what it
-- comes to, and what `follows` from the codebook that it leaves
abbrev pub Link : Call → Outcome Repaired → (List Float → Type 0) → Type 0
Link c (completed r) follows = AcceptedCall c r × follows (words_of c.size c.dim r.cells.word)
Link c (refused n vs) follows = RefusedCall c n × follows c.codebook

-- of all calls in order, from the first codebook to the last: each is given the
-- codebook that the one before it left; an accepted one makes of it what document
-- 01's rule makes, and starves no cell and loses no sample; a refused one leaves it
unfoldable pub Chain : List Request → List Float → List Float → Type 0
Chain [] codebook last = last ≡ codebook
Chain (q ∷ rest) codebook last =
    Link (call_with q codebook) (update_alone (call_with q codebook)) (λ next. Chain rest next last)

-- of the whole history
pub record History (requests : List Request) (codebook : List Float) : Type 0 where
  -- the last codebook is what the accepted updates made of the first in turn
  pub chain : Chain requests codebook (after requests codebook)
  -- without the refused, the others give the same answers and repairs and the same last codebook
  pub same_answers : answers (accepted requests codebook) codebook ≡ completions (answers requests codebook)
  pub same_codebook : after (accepted requests codebook) codebook ≡ after requests codebook
