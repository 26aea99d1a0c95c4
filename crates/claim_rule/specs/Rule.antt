-- What the rule of an update means, in document 01's words: `Rule c`, at the end;
-- proofs/RuleLaw.antt proves it of every call whose checks passed. It speaks of `update_of`, the
-- rule that the contract of `update::update_centroids` cites, and says it without its recursion:
-- what a cell's mean is, which repairs are made, and why an update is refused. Definitions only.
use Rattle.std.specs.Prelude.{◌≡◌, ◌⊎◌, ℕ, suc, ◌<◌, ◌≤◌, Bool, false, ◌||◌, cond, List, [], ◌∷◌, ◌++◌, T, eqb, pos, length, get_or, Float}
use Rattle.std.specs.Float.{binary64}
use Rattle.std.specs.Float.Ieee.{round, div, lt, le, of_int}
use Rattle.error.specs.Numbers.{Value, completed, refused, whole}
use Rattle.ieee.specs.Sum.{plus_zero, sum_to}
use Rattle.profile.specs.declared.EmptyCellPolicy.TheVariants.{SplitHighestDistortion, FailClosed}
use Rattle.lloyd_events.specs.declared.LloydRepairEvent.{LloydRepairEvent}
use Rattle.lloyd_events.specs.Events.{zero_event}
use Rattle.lloyd_cells.specs.Cells.{count_to, cell_sum, Farthest, FirstFarthest}
use Rattle.lloyd_cells.specs.Repair.{Repaired, LastLargest, least_norm, residual_norm, split, repair_to}
use Rattle.lloyd_update.specs.Alone.{Call, terms_of, update_of}
use Rattle.lloyd_update.specs.Progress.{samples_of, sample_of, cell_of, old_word_of, start_cells, far_of, distance_of}
use Rattle.claim_history.specs.History.{tally_after}

-- ---- Lloyd's means
-- how many samples are assigned to cell i
abbrev pub assigned : Call → ℕ → ℕ
assigned c i = count_to (cell_of c) i (samples_of c)

-- The samples of cell i in rising order, member 0, member 1, ..: each of them once, and no other sample
pub record Members (a : ℕ → ℕ) (S i : ℕ) (member : ℕ → ℕ) : Type 0 where
  pub within : (q : ℕ) → q < count_to a i S → member q < S
  pub in_cell : (q : ℕ) → q < count_to a i S → a (member q) ≡ i
  pub rising : (p q : ℕ) → p < q → q < count_to a i S → member p < member q
  pub all : (s : ℕ) → s < S → a s ≡ i → (q : ℕ) × (q < count_to a i S) × (member q ≡ s)

-- What cell i is before the repairs. A sum goes over the members in order, from +0, each addition rounded.
pub record Cell (c : Call) (i : ℕ) : Type 0 where
  pub member : ℕ → ℕ
  pub members : Members (cell_of c) (samples_of c) i member
  pub sums : (t : ℕ → Float) → cell_sum (cell_of c) t i (samples_of c) ≡ sum_to (λ q. t (member q)) (assigned c i)
  -- a cell with samples becomes sum / count, another keeps its codeword
  pub mean : (j : ℕ) → 0 < assigned c i
      → (start_cells c).word i j
      ≡ div binary64 (sum_to (λ q. sample_of c (member q) j) (assigned c i)) (of_int binary64 (pos (assigned c i)))
  pub kept : (j : ℕ) → assigned c i ≡ 0 → (start_cells c).word i j ≡ old_word_of c i j
  -- the sum of the distances to the old codeword
  pub distortion : (start_cells c).distortion i ≡ sum_to (λ q. distance_of c (member q)) (assigned c i)

-- ---- the cells once some repairs are made
-- whether a cell takes part in one of the repairs, as donor or as empty cell
abbrev pub part_of : LloydRepairEvent → ℕ → Bool
part_of event i = eqb i event.donor_cell || eqb i event.empty_cell

unfoldable pub takes_part : List LloydRepairEvent → ℕ → Bool
takes_part [] i = false
takes_part (event ∷ events) i = part_of event i || takes_part events i

-- r is what stands when the cells below e have had their turn. Its tallies are worked out from its repairs, as document
-- 01's book is; the distortion of a cell that took part in one is +0, and a cell that took part in none has its mean
pub record Stands (c : Call) (e : ℕ) (r : Repaired) : Type 0 where
  pub came : repair_to (terms_of c) (far_of c) (start_cells c) e ≡ completed r
  pub tally : (i : ℕ) → r.cells.tally i ≡ tally_after (assigned c) r.events i
  pub distortion : (i : ℕ) → r.cells.distortion i ≡ cond (takes_part r.events i) plus_zero ((start_cells c).distortion i)
  pub word : (i j : ℕ) → takes_part r.events i ≡ false → r.cells.word i j ≡ (start_cells c).word i j

-- The donor d where `before` stands: of the cells with tally above 1 the one of largest distortion, the last of equals;
-- and of the samples assigned to it the farthest by the old distances, the first of equals
pub record Donor (c : Call) (before : Repaired) (d : ℕ) (far : Farthest) : Type 0 where
  pub last_largest : LastLargest before.cells.tally before.cells.distortion c.size d
  pub first_farthest : FirstFarthest (cell_of c) (distance_of c) d (samples_of c) far

-- the norm of the residual: that sample less the donor's codeword as it now stands
abbrev pub norm_at : Call → Repaired → ℕ → Farthest → Float
norm_at c before d far = residual_norm c.dim (sample_of c far.sample) (before.cells.word d)

-- ---- the repairs that were made
-- one of them, as its event tells it
pub record Repair (c : Call) (event : LloydRepairEvent) (before after : Repaired) : Type 0 where
  pub within : event.empty_cell < c.size
  pub policy : c.policy ≡ SplitHighestDistortion
  pub none : assigned c event.empty_cell ≡ 0
  pub stands : Stands c event.empty_cell before
  pub empty : before.cells.tally event.empty_cell ≡ 0
  pub far : Farthest
  pub donor : Donor c before event.donor_cell far
  pub restart : event.restart ≡ c.restart
  pub iteration : event.iteration ≡ c.iteration
  pub count : event.donor_count_before ≡ before.cells.tally event.donor_cell
  pub distortion : event.donor_distortion ≡ before.cells.distortion event.donor_cell
  pub norm : event.residual_norm ≡ norm_at c before event.donor_cell far
  -- 1.0e-6, rounded to binary64
  pub epsilon : event.split_epsilon ≡ round binary64 false 1 1000000
  pub above : T (lt least_norm event.residual_norm)
  pub slot : length before.events < c.slots
  -- donor and empty cell part, and the event comes last
  pub parted : after.cells
      ≡ split c.dim (sample_of c far.sample) event.residual_norm before.cells event.donor_cell
      event.empty_cell
  pub told : after.events ≡ before.events ++ (event ∷ [])

abbrev pub event_at : Repaired → ℕ → LloydRepairEvent
event_at r m = get_or r.events m zero_event

-- all of them, in the turns of the cells below e, which came to r
pub record Repairs (c : Call) (e : ℕ) (r : Repaired) : Type 0 where
  pub stands : Stands c e r
  -- an event for each of these cells without a sample, and for no other, in rising order
  pub below : (m : ℕ) → m < length r.events → (event_at r m).empty_cell < e
  pub rising : (m n : ℕ) → m < n → n < length r.events → (event_at r m).empty_cell < (event_at r n).empty_cell
  pub each : (i : ℕ) → i < e → assigned c i ≡ 0 → (m : ℕ) × (m < length r.events) × ((event_at r m).empty_cell ≡ i)
  -- from the means on, one repair after another: event m takes `state m` to `state (suc m)`
  pub state : ℕ → Repaired
  pub first : state 0 ≡ record { cells = start_cells c; events = [] }
  pub repairs : (m : ℕ) → m < length r.events → Repair c (event_at r m) (state m) (state (suc m))
  pub last : state (length r.events) ≡ r

-- an accepted update has made them all
abbrev pub Accepted : Call → Repaired → Type 0
Accepted c r = Repairs c c.size r

-- ---- a refused update
-- The repair of cell e is due: it has no sample, and the repairs of the cells below it came to `before`
pub record Due (c : Call) (e : ℕ) (before : Repaired) : Type 0 where
  pub within : e < c.size
  pub policy : c.policy ≡ SplitHighestDistortion
  pub none : assigned c e ≡ 0
  pub made : Repairs c e before
  pub empty : before.cells.tally e ≡ 0

-- 14: the policy allows no empty cell, and vs shows how many there are
pub record EmptyCells (c : Call) (n : ℕ) (vs : List Value) : Type 0 where
  pub number : n ≡ 14
  pub policy : c.policy ≡ FailClosed
  pub some : 0 < count_to (assigned c) 0 c.size
  pub shown : vs ≡ whole (count_to (assigned c) 0 c.size) ∷ []

-- 15: the repair of cell e is due, and no cell has tally above 1
pub record NoDonor (c : Call) (n : ℕ) (vs : List Value) : Type 0 where
  pub number : n ≡ 15
  pub cell : ℕ
  pub shown : vs ≡ whole cell ∷ []
  pub before : Repaired
  pub due : Due c cell before
  pub none : (i : ℕ) → i < c.size → before.cells.tally i ≤ 1

-- 16: it is due and there is a donor, but the norm of its residual is at most the least
pub record NoDirection (c : Call) (n : ℕ) (vs : List Value) : Type 0 where
  pub number : n ≡ 16
  pub donor : ℕ
  pub shown : vs ≡ whole donor ∷ []
  pub cell : ℕ
  pub before : Repaired
  pub due : Due c cell before
  pub far : Farthest
  pub found : Donor c before donor far
  pub small : T (le (norm_at c before donor far) least_norm)

-- 19: it could be made, but as many repairs were made as there are slots
pub record SlotsUsed (c : Call) (n : ℕ) (vs : List Value) : Type 0 where
  pub number : n ≡ 19
  pub shown : vs ≡ whole c.slots ∷ []
  pub cell : ℕ
  pub before : Repaired
  pub due : Due c cell before
  pub donor : ℕ
  pub far : Farthest
  pub found : Donor c before donor far
  pub above : T (lt least_norm (norm_at c before donor far))
  pub used : length before.events ≡ c.slots

abbrev pub Refused : Call → ℕ → List Value → Type 0
Refused c n vs = EmptyCells c n vs ⊎ (NoDonor c n vs ⊎ (NoDirection c n vs ⊎ SlotsUsed c n vs))

-- ---- what the rule means, of a call whose checks passed
pub record Rule (c : Call) : Type 0 where
  pub cells : (i : ℕ) → Cell c i
  pub accepts : (r : Repaired) → update_of c ≡ completed r → Accepted c r
  pub refuses : (n : ℕ) (vs : List Value) → update_of c ≡ refused n vs → Refused c n vs
  -- where every cell has a sample, the means are the answer
  pub full : ((i : ℕ) → i < c.size → 0 < assigned c i)
      → update_of c ≡ completed (record { cells = start_cells c; events = [] })
